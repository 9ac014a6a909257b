-- What a refusal says of the disk; and that a creation harms no database.
use Rattle.std.proofs.Common.{◌≡◌, ◌⊎◌, ⊎_elim, ◌∙◌, ℕ, Bool, true, false, List, Option, None, Some, if◌then◌else◌, refl, subst, sym}
use Rattle.std.specs.Prelude.{IsTrue}
use Rattle.command_arguments.specs.CommandLine.{Create, create_arguments}
use Rattle.host_io.specs.Files.{FileState}
use Rattle.host_io.specs.Out.{OutState}
use Rattle.abl_values.specs.Schema.{SchemaData}
use Rattle.bank_run.specs.declared.inputs.bank.Bank.{Bank as BankNumbers}
use Rattle.bank_run.specs.Result.{BankNotRun, BankPrevented, BankRan, BankResult, PreventsBank, bank_wants, schema_breaks as bank_schema_breaks, source_breaks as bank_source_breaks}
use Rattle.database_protocol.specs.declared.ends.ClientEnd.{ClientEnd}
use Rattle.disk_database.specs.Answers.{IsNoDatabase, IsRefused as IsRefusedFor}
use Rattle.disk_database.specs.declared.refusals.CreateRefusal.{CreateRefusal}
use Rattle.disk_database.specs.declared.refusals.CreateRefusal.TheVariants as create
use Rattle.disk_database.specs.declared.refusals.DumpRefusal.{DumpRefusal}
use Rattle.disk_database.specs.declared.refusals.DumpRefusal.TheVariants as dump
use Rattle.disk_database.specs.declared.refusals.OpenRefusal.{OpenRefusal}
use Rattle.disk_database.specs.declared.refusals.OpenRefusal.TheVariants as opening
use Rattle.preprocessor.specs.declared.texts.NamedText.{NamedText}
use Rattle.run_report.specs.declared.ending.Report.{Report}
use Rattle.run_report.specs.declared.refusal.Refusal.{Refusal}
use Rattle.run_report.specs.declared.refusal.Refusal.TheVariants.{Client, Disk, NoMemory, Output}
use Rattle.run_report.specs.Ending.{failure_refusal, first_failure, has_closed, one_lacks_memory, output_refusal, refusal_after}
use Rattle.run_works.specs.declared.outcome.Outcome.{Outcome}
use Rattle.run_works.specs.Disks.{DiskState, IsUntouched, opening_refusal}
use Rattle.run_works.specs.Works.{HasNotRun}
use Rattle.source_files.specs.declared.files.ClientTexts.{ClientTexts}
use Rattle.source_files.specs.Compiled.{BreaksSchema, BreaksSource, OneSourceBreaks, breaks_f, breaks_rule, later_source, schema_wants, source_wants, this_source}
use Rattle.source_files.specs.Files.{IsNotRead, OneIsNotRead, is_missing, is_too_long, later_one, reading_wants, this_one}
use Rattle.abl_cli.specs.Check.{OneBreaks, later_breaks, this_breaks}
use Rattle.abl_cli.specs.Command.{Banked, Cause, Checked, CommandResult, Created, Dumped, NotRun, Prevents, PreventsCheck, Ran, Refused, bank_of, check_prevented, create_prevented, dump_prevented, no_checked_file, no_file, no_named_input, one_breaks, prevented, run_wants, schema_breaks, schema_is_broken, source_breaks, wrong_argument}
use Rattle.abl_cli.specs.Stored.{CreateResult, IsDumpCause, Made, NotMade, PreventsDump, PreventsSchema, SaysOfDisk, creation_refusal, df_breaks, dump_refusal, dump_wants, no_df, no_schema, no_table}
use Rattle.abl_cli.proofs.Marks.{check_or_create, create_or_bank, create_or_dump, run_or_create}

-- ---- what comes before the disk says nothing of it

module _ (files : FileState) (faults : ℕ) (disk : DiskState) where
  of_unread : {name : List ℕ} {refusal : Refusal} → IsNotRead files faults name refusal → SaysOfDisk disk refusal
  of_unread (is_missing rose none) = tt
  of_unread (is_too_long long) = tt
  of_unread reading_wants = tt

  of_one_unread : {names : List (List ℕ)} {refusal : Refusal} → OneIsNotRead files faults names refusal → SaysOfDisk disk refusal
  of_one_unread (this_one h) = of_unread h
  of_one_unread (later_one has h) = of_one_unread h

  of_schema : {text : List ℕ} {refusal : Refusal} → BreaksSchema text refusal → SaysOfDisk disk refusal
  of_schema (breaks_f found) = tt
  of_schema schema_wants = tt

  of_source : {schema : SchemaData} {number : ℕ} {texts : List NamedText} {refusal : Refusal} → BreaksSource schema number texts refusal → SaysOfDisk disk refusal
  of_source (breaks_rule at found) = tt
  of_source source_wants = tt

  of_one_source : {schema : SchemaData} {number : ℕ} {texts : List ClientTexts} {refusal : Refusal} → OneSourceBreaks schema number texts refusal → SaysOfDisk disk refusal
  of_one_source (this_source h) = of_source h
  of_one_source (later_source tree is h) = of_one_source h

  of_one_program : {schema : SchemaData} {number : ℕ} {sources : List (List NamedText)} {refusal : Refusal} → OneBreaks schema number sources refusal → SaysOfDisk disk refusal
  of_one_program (this_breaks h) = of_source h
  of_one_program (later_breaks is h) = of_one_program h

  of_schema_file : {name : List ℕ} {refusal : Refusal} → PreventsSchema files faults name refusal → SaysOfDisk disk refusal
  of_schema_file (no_df h) = of_unread h
  of_schema_file (df_breaks has h) = of_schema h

  of_cause : {arguments names : List (List ℕ)} {refusal : Refusal} → Cause arguments files faults names refusal → SaysOfDisk disk refusal
  of_cause (wrong_argument wrong) = tt
  of_cause (prevented run is_run are (no_file h)) = of_unread h.unread
  of_cause (prevented run is_run are (schema_breaks texts h)) = of_schema h
  of_cause (prevented run is_run are (source_breaks texts clean h)) = of_one_source h
  of_cause (prevented run is_run are (no_named_input texts clean trees denote h)) = of_one_unread h
  of_cause (prevented run is_run are run_wants) = tt
  of_cause (check_prevented check is_check are (no_checked_file h)) = of_unread h.unread
  of_cause (check_prevented check is_check are (schema_is_broken texts h)) = of_schema h
  of_cause (check_prevented check is_check are (one_breaks texts clean h)) = of_one_program h
  of_cause (create_prevented named is_create are h) = of_schema_file h
  of_cause (dump_prevented named is_dump are (no_schema h)) = of_schema_file h
  of_cause (dump_prevented named is_dump are (no_table schema has none)) = tt
  of_cause (dump_prevented named is_dump are dump_wants) = tt

  of_bank : {bank : BankNumbers} {refusal : Refusal} → PreventsBank bank refusal → SaysOfDisk disk refusal
  of_bank (bank_schema_breaks h) = of_schema h
  of_bank (bank_source_breaks h) = of_one_source h
  of_bank bank_wants = tt

-- ---- what comes of the disk

module _ {D : Type 0} (seen : D → DiskState) (disk : D) (arguments : List (List ℕ)) (files : FileState) (faults : ℕ) (old new : OutState) (result : Outcome D) (known : IsTrue (seen disk).observable) where
  abbrev report : Report
  report = result.report

  abbrev Says : Refusal → Type 0
  Says refusal = SaysOfDisk (seen disk) refusal

  says : (a b : Refusal) → Some a ≡ Some b → Says a → Says b
  says a b e told = let same : a ≡ b = cc e in subst (λ (r : Refusal). SaysOfDisk (seen disk) r) same told

  of_ends : (lacks : Bool) (first : Option ℕ) (whole : Bool) (refusal : Refusal) → (if lacks then Some NoMemory else failure_refusal first whole) ≡ Some refusal → Says refusal
  of_ends true first whole refusal e = says NoMemory refusal e tt
  of_ends false None true refusal e = absurd (cc e)
  of_ends false None false refusal e = says Output refusal e tt
  of_ends false (Some n) whole refusal e = says (Client n) refusal e tt

  of_run : (closed whole : Bool) (ends : List ClientEnd) (refusal : Refusal) → refusal_after closed ends whole ≡ Some refusal → Says refusal
  of_run true whole ends refusal e = says Disk refusal e tt
  of_run false whole ends refusal e = of_ends (one_lacks_memory ends) (first_failure 0 ends) whole refusal e

  of_output : (whole : Bool) (refusal : Refusal) → output_refusal whole ≡ Some refusal → Says refusal
  of_output true refusal e = absurd (cc e)
  of_output false refusal e = says Output refusal e tt

  of_opening : (schema : SchemaData) (why : OpenRefusal) → IsRefusedFor schema (seen disk).observable (seen disk).seen why → Says (opening_refusal why)
  of_opening schema opening.NotCreated cause = cause known
  of_opening schema (opening.SchemaDiffers stored given) cause = (cause.1, cause.2 known)
  of_opening schema opening.Disk cause = tt
  of_opening schema opening.NoMemory cause = tt

  of_not_run : (schema : SchemaData) (names : List (List ℕ)) → HasNotRun schema names (seen disk) (seen result.disk) old new report → (refusal : Refusal) → report.refusal ≡ Some refusal → Says refusal
  of_not_run schema names not_run refusal given =
      says not_run.refusal refusal (sym not_run.reported.refusal ∙ given)
      (subst (λ (r : Refusal). SaysOfDisk (seen disk) r) (sym not_run.cause.is) (of_opening schema not_run.cause.why not_run.cause.cause))

  of_dump : (schema : SchemaData) (why : Option DumpRefusal) → IsDumpCause schema (seen disk) (seen result.disk) why → (refusal : Refusal) → dump_refusal why ≡ Some refusal → Says refusal
  of_dump schema None cause refusal e = absurd (cc e)
  of_dump schema (Some (dump.Database why)) cause refusal e = says (opening_refusal why) refusal e (of_opening schema why cause.0)
  of_dump schema (Some dump.Output) cause refusal e = says Output refusal e tt

  of_creation : (why : CreateRefusal) → (why ≡ create.AlreadyCreated → IsTrue (seen disk).observable → Says (creation_refusal create.AlreadyCreated)) → Says (creation_refusal why)
  of_creation create.AlreadyCreated already = already refl known
  of_creation create.Disk already = tt
  of_creation create.NoMemory already = tt

  of_created : (schema : SchemaData) → CreateResult schema (seen disk) (seen result.disk) old new report → (refusal : Refusal) → report.refusal ≡ Some refusal → Says refusal
  of_created schema (Made steps made done) refusal given = absurd (cc (sym done.refusal ∙ given))
  of_created schema (NotMade {refusal = told} steps cause is) refusal given =
      says told refusal (sym is.refusal ∙ given) (subst (λ (r : Refusal). SaysOfDisk (seen disk) r) (sym cause.is) (of_creation cause.why cause.already))

  of_banked : (bank : BankNumbers) → BankResult bank seen disk old new result → (refusal : Refusal) → report.refusal ≡ Some refusal → Says refusal
  of_banked bank (BankPrevented told prevents same is) refusal given = says told refusal (sym is.refusal ∙ given) (of_bank files faults (seen disk) prevents)
  of_banked bank (BankNotRun not_run) refusal given = of_not_run _ _ not_run refusal given
  of_banked bank (BankRan works are ran) refusal given = of_run (has_closed report.trace) ran.reported.whole ran.ends refusal (sym ran.reported.refusal ∙ given)

  pub says_of_disk : CommandResult seen disk arguments files faults old new result → (refusal : Refusal) → report.refusal ≡ Some refusal → SaysOfDisk (seen disk) refusal
  says_of_disk (Refused names told cause same is) refusal given = says told refusal (sym is.refusal ∙ given) (of_cause files faults (seen disk) cause)
  says_of_disk (NotRun run is_run are texts clean works are_works not_run) refusal given = of_not_run _ _ not_run refusal given
  says_of_disk (Ran run is_run are texts clean works are_works ran) refusal given = of_run (has_closed report.trace) ran.reported.whole ran.ends refusal (sym ran.reported.refusal ∙ given)
  says_of_disk (Checked check is_check are listings listed same told) refusal given = of_output told.whole refusal (sym told.refusal ∙ given)
  says_of_disk (Banked bank is_bank are did) refusal given = of_banked (bank_of bank) did refusal given
  says_of_disk (Created named is_create are schema has did) refusal given = of_created schema did refusal given
  says_of_disk (Dumped named is_dump are schema table has did) refusal given = of_dump schema did.why did.cause refusal (sym did.refusal ∙ given)

-- ---- a creation harms no database

-- a disk is as it was where nothing was done
pub unchanged : (disk : DiskState) → IsUntouched disk disk
unchanged disk = record { same_observable = refl; same = λ known. refl; moment = refl; nothing_else = λ m image there. there; stays = λ m image there. there }

module _ (was now : DiskState) (known : IsTrue was.observable) (there : IsNoDatabase was.seen → ⊥) where
  was_left : (why : CreateRefusal) → ((why ≡ create.Disk → ⊥) → IsUntouched was now) → (why ≡ create.Disk → IsTrue was.observable → IsUntouched was now ⊎ IsNoDatabase was.seen) → IsUntouched was now
  was_left create.AlreadyCreated stays harmless = stays (λ e. cc e)
  was_left create.NoMemory stays harmless = stays (λ e. cc e)
  was_left create.Disk stays harmless = ⊎_elim (λ (still : IsUntouched was now). still) (λ (none : IsNoDatabase was.seen). absurd (there none)) (harmless refl known)

  -- the disk holds a database, so it is as it was
  pub creation_stays : {schema : SchemaData} {old new : OutState} {report : Report} → CreateResult schema was now old new report → IsUntouched was now
  creation_stays (Made steps made done) = absurd (there (made.fresh known))
  creation_stays (NotMade steps cause is) = was_left cause.why cause.stays cause.harmless

module _ {D : Type 0} (seen : D → DiskState) (disk : D) (arguments : List (List ℕ)) (files : FileState) (faults : ℕ) (old new : OutState) (result : Outcome D) (known : IsTrue (seen disk).observable) (there : IsNoDatabase (seen disk).seen → ⊥)
    (creation : Create) (args : arguments ≡ create_arguments creation) where
  pub creation_harmless : CommandResult seen disk arguments files faults old new result → IsUntouched (seen disk) (seen result.disk)
  creation_harmless (Refused names refusal cause same is) = subst (λ (other : D). IsUntouched (seen disk) (seen other)) (sym same) (unchanged (seen disk))
  creation_harmless (NotRun run is_run are texts clean works are_works not_run) = absurd (run_or_create arguments run creation are args)
  creation_harmless (Ran run is_run are texts clean works are_works ran) = absurd (run_or_create arguments run creation are args)
  creation_harmless (Checked check is_check are listings listed same told) = absurd (check_or_create arguments check creation are args)
  creation_harmless (Banked bank is_bank are did) = absurd (create_or_bank arguments creation bank args are)
  creation_harmless (Created named is_create are schema has did) = creation_stays (seen disk) (seen result.disk) known there did
  creation_harmless (Dumped named is_dump are schema table has did) = absurd (create_or_dump arguments creation named args are)
