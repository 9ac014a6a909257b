use Rattle.std.proofs.Common.{refl}
use Rattle.parser.specs.Table.{rows_from}
use Rattle.parser.proofs.table.rows_from.Goals as goal

pub returns : goal.returns
unfolding rows_from
returns c = refl
