use Rattle.std.proofs.Common.{append_assoc}
use Rattle.run_report.proofs.report.write_how.Goals as goal

pub returns : goal.returns
returns g c = simp append_assoc c.write_all.ensures
