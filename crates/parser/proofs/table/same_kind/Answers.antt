use Rattle.parser.specs.Same.{same_kind}
use Rattle.parser.proofs.table.same_kind.Goals as goal

pub returns : goal.returns
unfolding same_kind
returns c = c.eq.ensures
