use Rattle.std.proofs.Common.{length}
use Rattle.row_indexes.proofs.back.+undo_moves.Given as goal

abbrev pub decreases-undo_moves : goal.decreases-undo_moves
decreases-undo_moves l = length l.moves.now
