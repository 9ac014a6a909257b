use Rattle.std.proofs.Common.{length}
use Rattle.value_masks.proofs.number.+push_small_laid.Given as goal

abbrev pub decreases-push_small_laid : goal.decreases-push_small_laid
decreases-push_small_laid l = length l.part.now
