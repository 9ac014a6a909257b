use Rattle.std.proofs.Common.{length}
use Rattle.row_indexes.proofs.index_changes.leaving.+leave_all.Given as goal

abbrev pub decreases-leave_all : goal.decreases-leave_all
decreases-leave_all l = length l.moves.now
