use Rattle.parser.proofs.Ending.{nothing_follows}
use Rattle.parser.proofs.laws.nothing_follows_the_end.Goals as goal

pub returns : goal.returns
returns c = nothing_follows
