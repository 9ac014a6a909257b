use Rattle.run_works.specs.Disks.{state_of}
use Rattle.abl_cli.proofs.Refusals.{says_of_disk}
use Rattle.abl_cli.proofs.laws.a_refusal_says_what_the_disk_holds.Goals as goal

pub returns : goal.returns
returns g c = λ disk arguments files faults old new outcome refusal did known given. says_of_disk (state_of g.D.Disk) disk arguments files faults old new outcome known did refusal given
