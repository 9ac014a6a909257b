use Rattle.run_works.specs.Disks.{state_of}
use Rattle.abl_cli.proofs.Refusals.{creation_harmless}
use Rattle.abl_cli.proofs.laws.a_creation_harms_no_database.Goals as goal

pub returns : goal.returns
returns g c = λ disk arguments files faults old new outcome create schema did args known is.
    creation_harmless (state_of g.D.Disk) disk arguments files faults old new outcome known (λ none. none schema is) create args did
