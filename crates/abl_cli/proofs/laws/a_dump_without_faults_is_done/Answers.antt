use Rattle.abl_cli.proofs.Undisturbed.{dump_is_done}
use Rattle.run_works.specs.Disks.{state_of}
use Rattle.abl_cli.proofs.laws.a_dump_without_faults_is_done.Goals as goal

pub returns : goal.returns
returns g c =
    λ disk arguments files faults old new outcome dump did names df there clean table is_table has fine quiet.
    dump_is_done (state_of g.D.Disk) disk arguments files faults old new outcome dump names df there clean table is_table has (g.met.D.Disk.reads_left disk has.holds.seen) fine quiet did
