-- A refused command writes nothing.
use Rattle.std.proofs.Common.{◌≡◌, ◌∙◌, ℕ, Bool, true, false, List, Option, None, Some, if◌then◌else◌, refl, subst, sym}
use Rattle.host_io.specs.Files.{FileState}
use Rattle.host_io.specs.Out.{OutState}
use Rattle.abl_values.specs.Schema.{SchemaData}
use Rattle.bank_run.specs.declared.inputs.bank.Bank.{Bank as BankNumbers}
use Rattle.bank_run.specs.Result.{BankNotRun, BankPrevented, BankRan, BankResult}
use Rattle.database_protocol.specs.declared.ends.ClientEnd.{ClientEnd}
use Rattle.disk_database.specs.Answers.{is_judgement}
use Rattle.disk_database.specs.declared.refusals.CreateRefusal.{CreateRefusal}
use Rattle.disk_database.specs.declared.refusals.CreateRefusal.TheVariants as create
use Rattle.disk_database.specs.declared.refusals.DumpRefusal.{DumpRefusal}
use Rattle.disk_database.specs.declared.refusals.DumpRefusal.TheVariants as dump
use Rattle.disk_database.specs.declared.refusals.OpenRefusal.{OpenRefusal}
use Rattle.disk_database.specs.declared.refusals.OpenRefusal.TheVariants as opening
use Rattle.run_report.specs.declared.ending.Report.{Report}
use Rattle.run_report.specs.declared.refusal.Refusal.{Refusal}
use Rattle.run_report.specs.declared.refusal.Refusal.TheVariants.{Client, Disk, NoMemory, Output}
use Rattle.run_report.specs.Ending.{failure_refusal, first_failure, has_closed, one_lacks_memory, refusal_after}
use Rattle.run_works.specs.declared.outcome.Outcome.{Outcome}
use Rattle.run_works.specs.Disks.{DiskState, IsUntouched, opening_refusal}
use Rattle.run_works.specs.Works.{HasNotRun}
use Rattle.abl_cli.specs.Command.{Banked, Checked, CommandResult, Created, Dumped, NotRun, Ran, Refused, bank_of}
use Rattle.abl_cli.specs.Stored.{CreateResult, IsDumpCause, Made, NotMade, WritesNothingIfRefused, creation_refusal, dump_refusal, is_before_writes}
use Rattle.abl_cli.proofs.Refusals.{unchanged}

module _ {D : Type 0} (seen : D → DiskState) (disk : D) (arguments : List (List ℕ)) (files : FileState) (faults : ℕ) (old new : OutState) (result : Outcome D) where
  abbrev report : Report
  report = result.report

  -- what is to be shown, where the command ends by this refusal
  abbrev Leaves : Refusal → Type 0
  Leaves refusal = is_before_writes refusal ≡ true → IsUntouched (seen disk) (seen result.disk)

  leaves : (a b : Refusal) → Some a ≡ Some b → Leaves a → Leaves b
  leaves a b e one = let same : a ≡ b = cc e in subst Leaves same one

  -- the disk was not come to
  same_disk : result.disk ≡ disk → (refusal : Refusal) → Leaves refusal
  same_disk same refusal before = subst (λ (other : D). IsUntouched (seen disk) (seen other)) (sym same) (unchanged (seen disk))

  after_disk : Leaves Disk
  after_disk before = absurd (cc before)

  after_memory : Leaves NoMemory
  after_memory before = absurd (cc before)

  after_output : Leaves Output
  after_output before = absurd (cc before)

  after_client : (first : ℕ) → Leaves (Client first)
  after_client first before = absurd (cc before)

  of_ends : (lacks : Bool) (first : Option ℕ) (whole : Bool) (refusal : Refusal) → (if lacks then Some NoMemory else failure_refusal first whole) ≡ Some refusal → Leaves refusal
  of_ends true first whole refusal e = leaves NoMemory refusal e after_memory
  of_ends false None true refusal e = absurd (cc e)
  of_ends false None false refusal e = leaves Output refusal e after_output
  of_ends false (Some n) whole refusal e = leaves (Client n) refusal e (after_client n)

  of_run : (closed whole : Bool) (ends : List ClientEnd) (refusal : Refusal) → refusal_after closed ends whole ≡ Some refusal → Leaves refusal
  of_run true whole ends refusal e = leaves Disk refusal e after_disk
  of_run false whole ends refusal e = of_ends (one_lacks_memory ends) (first_failure 0 ends) whole refusal e

  of_opening : (why : OpenRefusal) → (is_judgement why ≡ true → IsUntouched (seen disk) (seen result.disk)) → Leaves (opening_refusal why)
  of_opening opening.NotCreated untouched = λ before. untouched refl
  of_opening (opening.SchemaDiffers stored given) untouched = λ before. untouched refl
  of_opening opening.Disk untouched = after_disk
  of_opening opening.NoMemory untouched = after_memory

  of_not_run : (schema : SchemaData) (names : List (List ℕ)) → HasNotRun schema names (seen disk) (seen result.disk) old new report → (refusal : Refusal) → report.refusal ≡ Some refusal → Leaves refusal
  of_not_run schema names not_run refusal given =
      leaves not_run.refusal refusal (sym not_run.reported.refusal ∙ given) (subst Leaves (sym not_run.cause.is) (of_opening not_run.cause.why not_run.cause.untouched))

  of_dump : (schema : SchemaData) (why : Option DumpRefusal) → IsDumpCause schema (seen disk) (seen result.disk) why → (refusal : Refusal) → dump_refusal why ≡ Some refusal → Leaves refusal
  of_dump schema None cause refusal e = absurd (cc e)
  of_dump schema (Some (dump.Database why)) cause refusal e = leaves (opening_refusal why) refusal e (of_opening why cause.2)
  of_dump schema (Some dump.Output) cause refusal e = leaves Output refusal e after_output

  of_creation : (why : CreateRefusal) → ((why ≡ create.Disk → ⊥) → IsUntouched (seen disk) (seen result.disk)) → Leaves (creation_refusal why)
  of_creation create.AlreadyCreated stays = λ before. stays (λ e. cc e)
  of_creation create.Disk stays = after_disk
  of_creation create.NoMemory stays = after_memory

  of_created : (schema : SchemaData) → CreateResult schema (seen disk) (seen result.disk) old new report → (refusal : Refusal) → report.refusal ≡ Some refusal → Leaves refusal
  of_created schema (Made steps made done) refusal given = absurd (cc (sym done.refusal ∙ given))
  of_created schema (NotMade {refusal = one} steps cause is) refusal given = leaves one refusal (sym is.refusal ∙ given) (subst Leaves (sym cause.is) (of_creation cause.why cause.stays))

  of_banked : (bank : BankNumbers) → BankResult bank seen disk old new result → (refusal : Refusal) → report.refusal ≡ Some refusal → Leaves refusal
  of_banked bank (BankPrevented one prevents same is) refusal given = same_disk same refusal
  of_banked bank (BankNotRun not_run) refusal given = of_not_run _ _ not_run refusal given
  of_banked bank (BankRan works are ran) refusal given = of_run (has_closed report.trace) ran.reported.whole ran.ends refusal (sym ran.reported.refusal ∙ given)

  pub untouched_if_refused : CommandResult seen disk arguments files faults old new result → WritesNothingIfRefused (seen disk) (seen result.disk) report
  untouched_if_refused (Refused names one cause same is) refusal given = same_disk same refusal
  untouched_if_refused (NotRun run is_run are texts clean works are_works not_run) refusal given = of_not_run _ _ not_run refusal given
  untouched_if_refused (Ran run is_run are texts clean works are_works ran) refusal given = of_run (has_closed report.trace) ran.reported.whole ran.ends refusal (sym ran.reported.refusal ∙ given)
  untouched_if_refused (Checked check is_check are listings listed same told) refusal given = same_disk same refusal
  untouched_if_refused (Banked bank is_bank are did) refusal given = of_banked (bank_of bank) did refusal given
  untouched_if_refused (Created named is_create are schema has did) refusal given = of_created schema did refusal given
  untouched_if_refused (Dumped named is_dump are schema table has did) refusal given = of_dump schema did.why did.cause refusal (sym did.refusal ∙ given)
