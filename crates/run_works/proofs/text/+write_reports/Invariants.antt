use Rattle.std.proofs.Common.{length}
use Rattle.run_works.proofs.text.+write_reports.Given as goal

abbrev pub decreases-write_reports : goal.decreases-write_reports
decreases-write_reports g l = length l.names.now
