use Rattle.std.proofs.Common.{refl}
use Rattle.parser.specs.Grammar.{starts}
use Rattle.parser.proofs.table.starts.Goals as goal

pub returns : goal.returns
unfolding starts
returns c = refl
