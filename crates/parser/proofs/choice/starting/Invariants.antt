use Rattle.std.proofs.Common.{ℕ, ◌≡◌, ◌<◌, false}
use Rattle.parser.specs.Grammar.{rule}
use Rattle.parser.specs.Table.{starts_with}
use Rattle.parser.proofs.choice.starting.Given as goal

abbrev pub invariant-loop-r : goal.invariant-loop-r
invariant-loop-r l = (q : ℕ) → q < l.r → starts_with l.nonterminal l.kind (rule q) ≡ false
