use Rattle.std.proofs.Common.{Bool, subst, sym}
use Rattle.std.specs.Prelude.{IsTrue}
use Rattle.run_works.specs.Disks.{state_of}
use Rattle.source_files.specs.Compiled.{schema_in}
use Rattle.abl_cli.proofs.Made.{made_database}
use Rattle.abl_cli.proofs.Undisturbed.{creation_has_made}
use Rattle.abl_cli.proofs.laws.a_created_database_may_be_opened.Goals as goal

pub returns : goal.returns
returns g c = λ disk arguments files faults old new outcome create did names df there zero known.
    let has = creation_has_made (state_of g.D.Disk) disk arguments files faults old new outcome create names df there zero did in
    made_database (schema_in df) (state_of g.D.Disk outcome.disk) (subst (λ (b : Bool). IsTrue b) (sym has.same_observable) known) has.made.short has.made.born
