use Rattle.std.proofs.Common.{◌∙◌, ap}
use Rattle.parser.specs.declared.nonterminal.Nonterminal.TheVariants.{Statement}
use Rattle.parser.specs.Same.{same_nonterminal}
use Rattle.parser.specs.Grammar.{statement}
use Rattle.parser.proofs.table.is_statement.Goals as goal

pub returns : goal.returns
unfolding statement
returns c = c.same_nonterminal.ensures ∙ ap (λ x. same_nonterminal x Statement) c.nonterminal_at.ensures
