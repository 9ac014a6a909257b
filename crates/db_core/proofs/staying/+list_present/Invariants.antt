use Rattle.std.proofs.Common.{length}
use Rattle.db_core.proofs.staying.+list_present.Given as goal

abbrev pub decreases-list_present : goal.decreases-list_present
decreases-list_present g l = length l.keep.now
