use Rattle.std.proofs.Common.{ℕ, zero, suc, ◌≤◌, ◌≡◌, List, [], ◌∷◌, length, slice_index_or, refl, sym, ap, arith}
use Rattle.parser.specs.Grammar.{Production, blank, rule, rules, rule_count}
use Rattle.parser.specs.Closing.{opens_in}
use Rattle.parser.proofs.nodes.children_of.Goals as goal

past_end : (xs : List Production) (r : ℕ) (d : Production) → length xs ≤ r → slice_index_or xs r d ≡ d
past_end [] r d h = refl
past_end (x ∷ xs) zero d h = absurd (omega arith)
past_end (x ∷ xs) (suc r) d h = past_end xs r d (omega arith)

none_there : (r : ℕ) → rule_count ≤ r → 0 ≡ opens_in (rule r).symbols
unfolding rule
none_there r h = sym (ap (λ x. opens_in x.symbols) (past_end rules r blank h))

pub returns-else-r-count : goal.returns-else-r-count
returns-else-r-count c = none_there c.args.r (omega (arith, c.count.ensures))
