use Rattle.std.proofs.Common.{◌||◌, sym, ◌∙◌, ap}
use Rattle.parser.specs.declared.nonterminal.Nonterminal.TheVariants.{Expression}
use Rattle.parser.specs.Same.{same_nonterminal}
use Rattle.parser.specs.Grammar.{expression, not_or_sign}
use Rattle.parser.proofs.table.is_expression.Goals as goal

pub returns-then-same_nonterminal : goal.returns-then-same_nonterminal
unfolding expression
returns-then-same_nonterminal c = ap (λ b. b || not_or_sign c.args.r) (sym c.if-same_nonterminal.true ∙ c.same_nonterminal.ensures ∙ ap (λ x. same_nonterminal x Expression) c.nonterminal_at.ensures)

pub returns-else-same_nonterminal : goal.returns-else-same_nonterminal
unfolding expression
returns-else-same_nonterminal c = c.not_or_sign.ensures ∙ ap (λ b. b || not_or_sign c.args.r) (sym c.if-same_nonterminal.false ∙ c.same_nonterminal.ensures ∙ ap (λ x. same_nonterminal x Expression) c.nonterminal_at.ensures)
