use Rattle.std.proofs.Common.{length}
use Rattle.run_report.proofs.report.+write_ends.Given as goal

abbrev pub decreases-write_ends : goal.decreases-write_ends
decreases-write_ends g l = length l.names.now
