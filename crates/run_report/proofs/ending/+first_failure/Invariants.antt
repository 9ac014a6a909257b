use Rattle.std.proofs.Common.{length}
use Rattle.run_report.proofs.ending.+first_failure.Given as goal

abbrev pub decreases-first_failure : goal.decreases-first_failure
decreases-first_failure l = length l.ends.now
