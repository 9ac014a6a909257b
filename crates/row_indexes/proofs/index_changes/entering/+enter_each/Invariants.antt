use Rattle.std.proofs.Common.{length}
use Rattle.row_indexes.proofs.index_changes.entering.+enter_each.Given as goal

abbrev pub decreases-enter_each : goal.decreases-enter_each
decreases-enter_each l = length l.moves.now
