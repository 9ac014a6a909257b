use Rattle.parser.proofs.Inside.{within}
use Rattle.parser.proofs.laws.nodes_are_within.Goals as goal

pub returns : goal.returns
returns c = within
