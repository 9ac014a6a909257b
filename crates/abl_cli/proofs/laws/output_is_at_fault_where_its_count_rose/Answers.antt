use Rattle.abl_cli.proofs.Judged.{output_rose}
use Rattle.run_works.specs.Disks.{state_of}
use Rattle.abl_cli.proofs.laws.output_is_at_fault_where_its_count_rose.Goals as goal

pub returns : goal.returns
returns g c = output_rose (state_of g.D.Disk)
