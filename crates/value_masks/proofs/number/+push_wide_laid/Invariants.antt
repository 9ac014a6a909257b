use Rattle.std.proofs.Common.{length}
use Rattle.value_masks.proofs.number.+push_wide_laid.Given as goal

abbrev pub decreases-push_wide_laid : goal.decreases-push_wide_laid
decreases-push_wide_laid l = length l.part.now
