use Rattle.run_works.specs.Disks.{state_of}
use Rattle.command_laws.proofs.Unrefused.{run_unrefused}
use Rattle.command_laws.proofs.laws.no_client_of_a_run_is_refused.Goals as goal

pub returns : goal.returns
returns g c = λ disk arguments files faults old new outcome run result is. run_unrefused (state_of g.D.Disk) disk arguments files faults old new outcome run result is
