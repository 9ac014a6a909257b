use Rattle.std.proofs.Common.{length}
use Rattle.row_store.proofs.answers.rows.+fits.Given as goal

abbrev pub decreases-fits : goal.decreases-fits
decreases-fits l = length l.values.now
