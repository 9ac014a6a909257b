use Rattle.abl_cli.proofs.CheckPrevented.{sources_are_listed}
use Rattle.run_works.specs.Disks.{state_of}
use Rattle.abl_cli.proofs.laws.a_check_without_faults_lists_the_sources.Goals as goal

pub returns : goal.returns
returns g c = λ disk arguments files faults old new outcome check did names df sources are clean listings have quiet known.
    sources_are_listed (state_of g.D.Disk) disk arguments files faults old new outcome check names df sources are clean listings have quiet known did
