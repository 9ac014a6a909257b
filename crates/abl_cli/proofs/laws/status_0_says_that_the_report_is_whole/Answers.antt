use Rattle.abl_cli.proofs.Judged.{whole_at_0}
use Rattle.run_works.specs.Disks.{state_of}
use Rattle.abl_cli.proofs.laws.status_0_says_that_the_report_is_whole.Goals as goal

pub returns : goal.returns
returns g c = whole_at_0 (state_of g.D.Disk)
