use Rattle.run_works.specs.Disks.{state_of}
use Rattle.abl_cli.proofs.Untouched.{untouched_if_refused}
use Rattle.abl_cli.proofs.laws.a_refused_command_writes_nothing.Goals as goal

pub returns : goal.returns
returns g c = λ disk arguments files faults old new outcome did. untouched_if_refused (state_of g.D.Disk) disk arguments files faults old new outcome did
