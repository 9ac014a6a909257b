use Rattle.abl_cli.proofs.Prevented.{run_is_done}
use Rattle.abl_cli.proofs.Undisturbed.{run_is_ended}
use Rattle.schema_reader.proofs.ObservableSound.{files-sound}
use Rattle.schema_text.proofs.HeldLemmas.Held.{files-held}
use Rattle.source_files.specs.Compiled.{schema_in}
use Rattle.run_works.specs.Disks.{state_of}
use Rattle.abl_cli.proofs.laws.a_run_over_its_database_ends.Goals as goal

pub returns : goal.returns
returns g c =
    λ disk arguments files faults old new outcome run did names df sources there clean trees are inputs quiet has fine.
    run_is_ended (state_of g.D.Disk) disk (schema_in df) outcome (files-sound df clean) (files-held df clean) has (g.met.D.Disk.reads_left disk has.holds.seen) fine (run_is_done (state_of g.D.Disk) disk arguments files faults old new outcome run names df sources there clean trees are inputs did quiet)
