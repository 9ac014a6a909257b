use Rattle.std.proofs.Common.{length}
use Rattle.byte_rows.proofs.places.+lay.Given as goal

abbrev pub decreases-lay : goal.decreases-lay
decreases-lay l = length l.slots.now
