use Rattle.abl_cli.proofs.Prevented.{run_is_done}
use Rattle.run_works.specs.Disks.{state_of}
use Rattle.abl_cli.proofs.laws.a_run_without_faults_is_done.Goals as goal

pub returns : goal.returns
returns g c =
    λ disk arguments files faults old new outcome run did names df sources there clean trees are inputs quiet.
    run_is_done (state_of g.D.Disk) disk arguments files faults old new outcome run names df sources there clean trees are inputs did quiet
