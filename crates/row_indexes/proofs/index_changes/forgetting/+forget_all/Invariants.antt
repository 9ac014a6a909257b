use Rattle.std.proofs.Common.{length}
use Rattle.row_indexes.proofs.index_changes.forgetting.+forget_all.Given as goal

abbrev pub decreases-forget_all : goal.decreases-forget_all
decreases-forget_all l = length l.moves.now
