use Rattle.std.proofs.Common.{length}
use Rattle.row_indexes.proofs.back.+back.Given as goal

abbrev pub decreases-back : goal.decreases-back
decreases-back l = length l.changes.now.items
