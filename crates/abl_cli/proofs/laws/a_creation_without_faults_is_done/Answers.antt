use Rattle.abl_cli.proofs.Undisturbed.{creation_is_done}
use Rattle.run_works.specs.Disks.{state_of}
use Rattle.abl_cli.proofs.laws.a_creation_without_faults_is_done.Goals as goal

pub returns : goal.returns
returns g c =
    λ disk arguments files faults old new outcome create did names df there clean known fresh fine.
    creation_is_done (state_of g.D.Disk) disk arguments files faults old new outcome create names df there clean known fresh fine did
