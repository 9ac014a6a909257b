use Rattle.std.proofs.Common.{refl}
use Rattle.parser.specs.Grammar.{starts_from}
use Rattle.parser.proofs.table.starts_from.Goals as goal

pub returns : goal.returns
unfolding starts_from
returns c = refl
