use Rattle.std.proofs.Common.{refl}
use Rattle.parser.specs.Grammar.{empty}
use Rattle.parser.proofs.table.empty.Goals as goal

pub returns : goal.returns
unfolding empty
returns c = refl
