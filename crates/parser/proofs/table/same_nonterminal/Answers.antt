use Rattle.parser.specs.Same.{same_nonterminal}
use Rattle.parser.proofs.table.same_nonterminal.Goals as goal

pub returns : goal.returns
unfolding same_nonterminal
returns c = c.eq.ensures
