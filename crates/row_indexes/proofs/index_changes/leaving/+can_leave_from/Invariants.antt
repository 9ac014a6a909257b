use Rattle.std.proofs.Common.{length}
use Rattle.row_indexes.proofs.index_changes.leaving.+can_leave_from.Given as goal

abbrev pub decreases-can_leave_from : goal.decreases-can_leave_from
decreases-can_leave_from l = length l.moves.now
