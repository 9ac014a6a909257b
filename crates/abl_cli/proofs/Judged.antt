-- What follows from what a command did.
use Rattle.std.proofs.Common.{◌≡◌, inl, inr, ◌≤◌, ◌+◌, ℕ, Bool, true, false, List, [], Option, Some, None, refl, sym, ap, ◌∙◌, subst, arith, take, drop}
use Rattle.std.specs.Prelude.{IsTrue, if◌then◌else◌}
use Rattle.source_files.specs.declared.files.ClientTexts.{ClientTexts}
use Rattle.std.proofs.lemmas.List.{take-append-drop}
use Rattle.storage.specs.faults.Faults.{Rose}
use Rattle.database_protocol.specs.declared.ends.ClientEnd.{ClientEnd}
use Rattle.client_output.specs.declared.section.Section.{Section}
use Rattle.preprocessor.specs.declared.texts.NamedText.{NamedText}
use Rattle.run_report.specs.declared.refusal.Refusal.{Refusal}
use Rattle.run_report.specs.declared.refusal.Refusal.TheVariants.{Usage, File, TooLong, Schema, NoTable, Source, NotCreated, AlreadyCreated, SchemaDiffers, Disk, Client, Output, NoMemory}
use Rattle.run_report.specs.declared.ending.Report.{Report}
use Rattle.command_arguments.specs.CommandLine.{Bank, ClientFiles, Check, Dump, HaveForm, BeginForm, IsWrong, at_argument, missing, number_of}
use Rattle.bank_run.specs.Texts.{bank_names}
use Rattle.bank_run.specs.Result.{BankResult, BankPrevented, BankNotRun, BankRan, PreventsBank, bank_schema}
use Rattle.disk_database.specs.declared.refusals.OpenRefusal.{OpenRefusal}
use Rattle.disk_database.specs.declared.refusals.OpenRefusal.TheVariants as opening
use Rattle.disk_database.specs.declared.refusals.CreateRefusal.{CreateRefusal}
use Rattle.disk_database.specs.declared.refusals.CreateRefusal.TheVariants as create
use Rattle.disk_database.specs.declared.refusals.DumpRefusal.{DumpRefusal}
use Rattle.disk_database.specs.declared.refusals.DumpRefusal.TheVariants as dump
use Rattle.run_works.specs.declared.outcome.Outcome.{Outcome}
use Rattle.run_works.specs.Disks.{DiskState, opening_refusal}
use Rattle.abl_cli.specs.Stored.{CreateResult, Made, NotMade, DumpResult, PreventsSchema, no_df, df_breaks, PreventsDump, no_schema, creation_refusal, dump_refusal, has_all_rows, has_whole_lines}
use Rattle.abl_cli.proofs.Banks.{no_bank_output, no_bank_usage}
use Rattle.abl_values.specs.Schema.{SchemaData}
use Rattle.command_arguments.specs.declared.parts.Mode.{Mode}
use Rattle.command_arguments.specs.declared.parts.Mode.TheVariants.{Quiet}
use Rattle.run_report.specs.Report.{status_of}
use Rattle.host_io.specs.Out.{OutState}
use Rattle.host_io.specs.Files.{FileState}
use Rattle.abl_cli.specs.Check.{OneBreaks, this_breaks, later_breaks}
use Rattle.source_files.specs.Files.{IsNotRead, OneIsNotRead, this_one, later_one}
use Rattle.abl_cli.specs.Command.{Prevents, no_file, schema_breaks, source_breaks, no_named_input, PreventsCheck, no_checked_file, schema_is_broken, one_breaks, Cause, wrong_argument, prevented, check_prevented, create_prevented, dump_prevented, HasChecked, CommandResult, Refused, NotRun, Ran, Checked, Banked, Created, Dumped, bank_of, client_names, IsUsage, HasWholeText, of_run, of_bank, of_check, of_create, of_dump}
use Rattle.source_files.specs.Compiled.{OneSourceBreaks, this_source, later_source, schema_in}
use Rattle.run_report.specs.Ending.{IsReported, output_refusal, WritesStatus, refusal_after, failure_refusal, first_failure, has_closed, one_lacks_memory, status_after}

-- ---- arguments

begin_of_form : (arguments : List (List ℕ)) (k : ℕ) → HaveForm arguments → BeginForm HaveForm (take k arguments)
begin_of_form arguments k form = (drop k arguments, subst HaveForm (sym (take-append-drop k arguments)) form)

-- wrong arguments have no form
pub wrong_or_formed : (arguments : List (List ℕ)) (n : ℕ) → IsWrong arguments n → HaveForm arguments → ⊥
wrong_or_formed arguments n (at_argument ws k below begins ends) form = ends (begin_of_form ws (k + 1) form)
wrong_or_formed arguments n (missing ws begins formless) form = formless form

-- ---- the refusal of a run

no_usage_by : (lacks : Bool) (first : Option ℕ) (whole : Bool) (arg : ℕ) → (if lacks then Some NoMemory else failure_refusal first whole) ≡ Some (Usage arg) → ⊥
no_usage_by true first whole arg e = cc e
no_usage_by false None true arg e = cc e
no_usage_by false None false arg e = cc e
no_usage_by false (Some n) whole arg e = cc e

no_usage : (closed whole : Bool) (ends : List ClientEnd) (arg : ℕ) → refusal_after closed ends whole ≡ Some (Usage arg) → ⊥
no_usage true whole ends arg e = cc e
no_usage false whole ends arg e = no_usage_by (one_lacks_memory ends) (first_failure 0 ends) whole arg e

-- ---- the refusals of a disk

no_open_usage : (why : OpenRefusal) (arg : ℕ) → opening_refusal why ≡ Usage arg → ⊥
no_open_usage opening.NotCreated arg e = cc e
no_open_usage (opening.SchemaDiffers stored given) arg e = cc e
no_open_usage opening.Disk arg e = cc e
no_open_usage opening.NoMemory arg e = cc e

no_open_output : (why : OpenRefusal) → opening_refusal why ≡ Output → ⊥
no_open_output opening.NotCreated e = cc e
no_open_output (opening.SchemaDiffers stored given) e = cc e
no_open_output opening.Disk e = cc e
no_open_output opening.NoMemory e = cc e

no_creation_usage : (why : CreateRefusal) (arg : ℕ) → creation_refusal why ≡ Usage arg → ⊥
no_creation_usage create.AlreadyCreated arg e = cc e
no_creation_usage create.Disk arg e = cc e
no_creation_usage create.NoMemory arg e = cc e

no_creation_output : (why : CreateRefusal) → creation_refusal why ≡ Output → ⊥
no_creation_output create.AlreadyCreated e = cc e
no_creation_output create.Disk e = cc e
no_creation_output create.NoMemory e = cc e

no_dump_usage : (why : Option DumpRefusal) (arg : ℕ) → dump_refusal why ≡ Some (Usage arg) → ⊥
no_dump_usage None arg e = cc e
no_dump_usage (Some (dump.Database why)) arg e = no_open_usage why arg (cc e)
no_dump_usage (Some dump.Output) arg e = cc e

-- the output is at fault only where it did not take a whole line
dump_output : (why : Option DumpRefusal) → dump_refusal why ≡ Some Output → has_whole_lines why ≡ false
dump_output None e = absurd (cc e)
dump_output (Some (dump.Database why)) e = absurd (no_open_output why (cc e))
dump_output (Some dump.Output) e = refl

is_usage : (refusal : Option Refusal) → IsUsage refusal → (arg : ℕ) × (refusal ≡ Some (Usage arg))
is_usage None h = absurd h
is_usage (Some (Usage arg)) h = (arg, refl)
is_usage (Some (File file)) h = absurd h
is_usage (Some (TooLong file most)) h = absurd h
is_usage (Some (Schema rule line)) h = absurd h
is_usage (Some (NoTable name)) h = absurd h
is_usage (Some (Source client file rule place)) h = absurd h
is_usage (Some NotCreated) h = absurd h
is_usage (Some AlreadyCreated) h = absurd h
is_usage (Some (SchemaDiffers stored given)) h = absurd h
is_usage (Some Disk) h = absurd h
is_usage (Some (Client first)) h = absurd h
is_usage (Some Output) h = absurd h
is_usage (Some NoMemory) h = absurd h

-- ---- the wrong argument

module _ {D : Type 0} (seen : D → DiskState) (disk : D) (arguments : List (List ℕ)) (files : FileState) (faults : ℕ) (old new : OutState) (result : Outcome D) where
  abbrev report : Report
  report = result.report

  -- nothing that prevents a run is reported as a wrong argument, or as a fault of the output
  no_unread_usage : {file : List ℕ} {arg : ℕ} → IsNotRead files faults file (Usage arg) → ⊥
  no_unread_usage h = elim h [ ]

  no_named_usage : {inputs : List (List ℕ)} {arg : ℕ} → OneIsNotRead files faults inputs (Usage arg) → ⊥
  no_named_usage (this_one h) = no_unread_usage h
  no_named_usage (later_one has h) = no_named_usage h

  no_source_usage : {schema : SchemaData} {number arg : ℕ} {texts : List ClientTexts} → OneSourceBreaks schema number texts (Usage arg) → ⊥
  no_source_usage (this_source h) = elim h [ ]
  no_source_usage (later_source tree is h) = no_source_usage h

  no_prevents_usage : (schema : List ℕ) (clients : List ClientFiles) {arg : ℕ} → Prevents files faults schema clients (Usage arg) → ⊥
  no_prevents_usage schema clients (no_file h) = no_unread_usage h.unread
  no_prevents_usage schema clients (schema_breaks texts h) = elim h [ ]
  no_prevents_usage schema clients (source_breaks texts clean h) = no_source_usage h
  no_prevents_usage schema clients (no_named_input texts clean trees are h) = no_named_usage h

  no_unread_output : {file : List ℕ} → IsNotRead files faults file Output → ⊥
  no_unread_output h = elim h [ ]

  no_named_output : {inputs : List (List ℕ)} → OneIsNotRead files faults inputs Output → ⊥
  no_named_output (this_one h) = no_unread_output h
  no_named_output (later_one has h) = no_named_output h

  no_source_output : {schema : SchemaData} {number : ℕ} {texts : List ClientTexts} → OneSourceBreaks schema number texts Output → ⊥
  no_source_output (this_source h) = elim h [ ]
  no_source_output (later_source tree is h) = no_source_output h

  no_prevents_output : (schema : List ℕ) (clients : List ClientFiles) → Prevents files faults schema clients Output → ⊥
  no_prevents_output schema clients (no_file h) = no_unread_output h.unread
  no_prevents_output schema clients (schema_breaks texts h) = elim h [ ]
  no_prevents_output schema clients (source_breaks texts clean h) = no_source_output h
  no_prevents_output schema clients (no_named_input texts clean trees are h) = no_named_output h

  -- nor what prevents a check
  no_break_usage : {schema : SchemaData} {number arg : ℕ} {sources : List (List NamedText)} → OneBreaks schema number sources (Usage arg) → ⊥
  no_break_usage (this_breaks h) = elim h [ ]
  no_break_usage (later_breaks is h) = no_break_usage h

  no_check_usage : (check : Check) {arg : ℕ} → PreventsCheck files faults check (Usage arg) → ⊥
  no_check_usage check (no_checked_file h) = no_unread_usage h.unread
  no_check_usage check (schema_is_broken texts h) = elim h [ ]
  no_check_usage check (one_breaks texts clean h) = no_break_usage h

  no_break_output : {schema : SchemaData} {number : ℕ} {sources : List (List NamedText)} → OneBreaks schema number sources Output → ⊥
  no_break_output (this_breaks h) = elim h [ ]
  no_break_output (later_breaks is h) = no_break_output h

  no_check_output : (check : Check) → PreventsCheck files faults check Output → ⊥
  no_check_output check (no_checked_file h) = no_unread_output h.unread
  no_check_output check (schema_is_broken texts h) = elim h [ ]
  no_check_output check (one_breaks texts clean h) = no_break_output h

  -- nor what prevents a creation or a dump
  no_schema_usage : {name : List ℕ} {arg : ℕ} → PreventsSchema files faults name (Usage arg) → ⊥
  no_schema_usage (no_df h) = no_unread_usage h
  no_schema_usage (df_breaks has h) = elim h [ ]

  no_schema_output : {name : List ℕ} → PreventsSchema files faults name Output → ⊥
  no_schema_output (no_df h) = no_unread_output h
  no_schema_output (df_breaks has h) = elim h [ ]

  no_prevents_dump_usage : (named : Dump) {arg : ℕ} → PreventsDump files faults named (Usage arg) → ⊥
  no_prevents_dump_usage named (no_schema h) = no_schema_usage h

  no_prevents_dump_output : (named : Dump) → PreventsDump files faults named Output → ⊥
  no_prevents_dump_output named (no_schema h) = no_schema_output h

  usage_is_wrong : (names : List (List ℕ)) (arg : ℕ) → Cause arguments files faults names (Usage arg) → IsWrong arguments arg
  usage_is_wrong name arg (wrong_argument wrong) = wrong
  usage_is_wrong name arg (prevented run is_run are prevents) = absurd (no_prevents_usage run.schema run.clients prevents)
  usage_is_wrong name arg (check_prevented check is_check are prevents) = absurd (no_check_usage check prevents)
  usage_is_wrong name arg (create_prevented named is_create are prevents) = absurd (no_schema_usage prevents)
  usage_is_wrong name arg (dump_prevented named is_dump are prevents) = absurd (no_prevents_dump_usage named prevents)

  no_output_cause : (names : List (List ℕ)) → Cause arguments files faults names Output → ⊥
  no_output_cause name (prevented run is_run are prevents) = no_prevents_output run.schema run.clients prevents
  no_output_cause name (check_prevented check is_check are prevents) = no_check_output check prevents
  no_output_cause name (create_prevented named is_create are prevents) = no_schema_output prevents
  no_output_cause name (dump_prevented named is_dump are prevents) = no_prevents_dump_output named prevents

  no_usage_checked : (whole : Bool) (arg : ℕ) → output_refusal whole ≡ Some (Usage arg) → ⊥
  no_usage_checked true arg e = cc e
  no_usage_checked false arg e = cc e

  -- a run that did not begin is reported by why the database was not opened
  no_usage_opening : (why : OpenRefusal) (refusal : Refusal) (arg : ℕ) → refusal ≡ opening_refusal why → report.refusal ≡ Some refusal → report.refusal ≡ Some (Usage arg) → ⊥
  no_usage_opening why refusal arg is told given = let same : refusal ≡ Usage arg = cc (told, given) in no_open_usage why arg (sym is ∙ same)

  no_output_opening : (why : OpenRefusal) (refusal : Refusal) → refusal ≡ opening_refusal why → report.refusal ≡ Some refusal → report.refusal ≡ Some Output → ⊥
  no_output_opening why refusal is told given = let same : refusal ≡ Output = cc (told, given) in no_open_output why (sym is ∙ same)

  no_usage_banked : (bank : Bank) (arg : ℕ) → BankResult (bank_of bank) seen disk old new result → report.refusal ≡ Some (Usage arg) → ⊥
  no_usage_banked bank arg (BankPrevented refusal prevents same_disk is) given = let same : refusal ≡ Usage arg = cc (is.refusal, given) in no_bank_usage (bank_of bank) (subst (λ r. PreventsBank (bank_of bank) r) same prevents)
  no_usage_banked bank arg (BankNotRun not_run) given = no_usage_opening not_run.cause.why not_run.refusal arg not_run.cause.is not_run.reported.refusal given
  no_usage_banked bank arg (BankRan works are ran) given = no_usage (has_closed report.trace) ran.reported.whole ran.ends arg (sym ran.reported.refusal ∙ given)

  no_usage_created : (schema : SchemaData) (arg : ℕ) → CreateResult schema (seen disk) (seen result.disk) old new report → report.refusal ≡ Some (Usage arg) → ⊥
  no_usage_created schema arg (Made steps made done) given = cc (sym done.refusal ∙ given)
  no_usage_created schema arg (NotMade {refusal = refusal} steps cause is) given = let same : refusal ≡ Usage arg = cc (is.refusal, given) in no_creation_usage cause.why arg (sym cause.is ∙ same)

  pub wrong_is_reported : (arg : ℕ) → CommandResult seen disk arguments files faults old new result → report.refusal ≡ Some (Usage arg) → IsWrong arguments arg
  wrong_is_reported arg (Refused name refusal cause same_disk is) given =
      let same : refusal ≡ Usage arg = cc (is.refusal, given) in usage_is_wrong name arg (subst (λ r. Cause arguments files faults name r) same cause)
  wrong_is_reported arg (NotRun named is_run are texts clean works are_works not_run) given =
      absurd (no_usage_opening not_run.cause.why not_run.refusal arg not_run.cause.is not_run.reported.refusal given)
  wrong_is_reported arg (Ran named is_run are texts clean works are_works ran) given =
      absurd (no_usage (has_closed report.trace) ran.reported.whole ran.ends arg (sym ran.reported.refusal ∙ given))
  wrong_is_reported arg (Checked check is_check are listings listed same_disk told) given = absurd (no_usage_checked told.whole arg (sym told.refusal ∙ given))
  wrong_is_reported arg (Banked bank is_bank are did) given = absurd (no_usage_banked bank arg did given)
  wrong_is_reported arg (Created named is_create are schema has did) given = absurd (no_usage_created schema arg did given)
  wrong_is_reported arg (Dumped named is_dump are schema table has did) given = absurd (no_dump_usage did.why arg (sym did.refusal ∙ given))

  formless_is_usage : (name : List (List ℕ)) (refusal : Refusal) → Cause arguments files faults name refusal → (HaveForm arguments → ⊥) → IsUsage (Some refusal)
  formless_is_usage name refusal (wrong_argument wrong) formless = tt
  formless_is_usage name refusal (prevented run is_run are prevents) formless = absurd (formless (inl (run, (is_run, are))))
  formless_is_usage name refusal (check_prevented check is_check are prevents) formless = absurd (formless (inr (inl (check, (is_check, are)))))
  formless_is_usage name refusal (create_prevented named is_create are prevents) formless = absurd (formless (inr (inr (inr (inl (named, (is_create, are)))))))
  formless_is_usage name refusal (dump_prevented named is_dump are prevents) formless = absurd (formless (inr (inr (inr (inr (named, (is_dump, are)))))))

  pub formless_is_reported : CommandResult seen disk arguments files faults old new result → (HaveForm arguments → ⊥) → IsUsage report.refusal
  formless_is_reported (Refused name refusal cause same_disk is) formless = subst IsUsage (sym is.refusal) (formless_is_usage name refusal cause formless)
  formless_is_reported (NotRun named is_run are texts clean works are_works not_run) formless = absurd (formless (inl (named, (is_run, are))))
  formless_is_reported (Ran named is_run are texts clean works are_works ran) formless = absurd (formless (inl (named, (is_run, are))))
  formless_is_reported (Checked check is_check are listings listed same_disk told) formless = absurd (formless (inr (inl (check, (is_check, are)))))
  formless_is_reported (Banked bank is_bank are did) formless = absurd (formless (inr (inr (inl (bank, (is_bank, are))))))
  formless_is_reported (Created named is_create are schema has did) formless = absurd (formless (inr (inr (inr (inl (named, (is_create, are)))))))
  formless_is_reported (Dumped named is_dump are schema table has did) formless = absurd (formless (inr (inr (inr (inr (named, (is_dump, are)))))))

  pub formed_is_no_usage : CommandResult seen disk arguments files faults old new result → HaveForm arguments → IsUsage report.refusal → ⊥
  formed_is_no_usage did form usage = let arg = is_usage report.refusal usage in wrong_or_formed arguments arg.0 (wrong_is_reported arg.0 did arg.1) form

  -- ---- faults of the output

  -- what was written later has no lower count
  faults_later : (name : List (List ℕ)) (ends : List ClientEnd) (refusal : Option Refusal) (before after : OutState) → WritesStatus name ends refusal before after → before.faults ≤ after.faults
  faults_later name ends None before after is = let e = ap (λ (w : OutState). w.faults) is in omega (arith, e)
  faults_later name ends (Some refusal) before after is = is.1.later

  -- a count that rose rose to a later one too
  rose_to : (mid : ℕ) → mid ≤ new.faults → Rose old.faults mid → Rose old.faults new.faults
  rose_to mid later (inl below) = inl (omega (arith, later, below))
  rose_to mid later (inr last) = inr last

  pub rose_in_check : (names listings : List (List ℕ)) (told : HasChecked names listings old new report) → told.whole ≡ false → Rose old.faults new.faults
  rose_in_check names listings told broken = rose_to told.between.faults (faults_later [] [] report.refusal told.between new told.lines) (told.text.cause broken)

  pub rose_in_report : (mode : Mode) (schema : SchemaData) (names : List (List ℕ)) (ends : List ClientEnd) (parts : List (List Section)) (r : IsReported mode schema names ends parts old new report) → r.whole ≡ false → Rose old.faults new.faults
  rose_in_report mode schema names ends parts r broken =
      rose_to r.between.faults (faults_later names report.ends report.refusal r.between new r.lines) (r.text.cause broken)

  output_by : (lacks : Bool) (first : Option ℕ) (whole : Bool) → (if lacks then Some NoMemory else failure_refusal first whole) ≡ Some Output → whole ≡ false
  output_by true first whole e = absurd (cc e)
  output_by false None true e = absurd (cc e)
  output_by false None false e = refl
  output_by false (Some n) whole e = absurd (cc e)

  output_breaks : (closed whole : Bool) (ends : List ClientEnd) → refusal_after closed ends whole ≡ Some Output → whole ≡ false
  output_breaks true whole ends e = absurd (cc e)
  output_breaks false whole ends e = output_by (one_lacks_memory ends) (first_failure 0 ends) whole e

  -- a dump whose output did not take a whole line
  pub dump_rose : (schema : SchemaData) (table : ℕ) (did : DumpResult schema table (seen disk) (seen result.disk) old new report) → dump_refusal did.why ≡ Some Output → Rose old.faults new.faults
  dump_rose schema table did output = rose_to did.between.faults (faults_later [] [] report.refusal did.between new did.lines) (did.written.lines.cause (dump_output did.why output))

  pub output_rose : CommandResult seen disk arguments files faults old new result → report.refusal ≡ Some Output → Rose old.faults new.faults
  output_rose (Refused name refusal cause same_disk is) given =
      let same : refusal ≡ Output = cc (is.refusal, given) in absurd (no_output_cause name (subst (λ r. Cause arguments files faults name r) same cause))
  output_rose (NotRun named is_run are texts clean works are_works not_run) given =
      absurd (no_output_opening not_run.cause.why not_run.refusal not_run.cause.is not_run.reported.refusal given)
  output_rose (Ran named is_run are texts clean works are_works ran) given =
      rose_in_report named.mode (schema_in texts.df) (client_names named) ran.ends ran.parts ran.reported (output_breaks (has_closed report.trace) ran.reported.whole ran.ends (sym ran.reported.refusal ∙ given))
  output_rose (Checked check is_check are listings listed same_disk told) given = rose_in_check check.programs listings told (breaks_checked told.whole (sym told.refusal ∙ given))
    where
      breaks_checked : (whole : Bool) → output_refusal whole ≡ Some Output → whole ≡ false
      breaks_checked true e = absurd (cc e)
      breaks_checked false e = refl
  output_rose (Banked bank is_bank are did) given = by_bank did
    where
      by_bank : BankResult (bank_of bank) seen disk old new result → Rose old.faults new.faults
      by_bank (BankPrevented refusal prevents same_disk is) = let same : refusal ≡ Output = cc (is.refusal, given) in absurd (no_bank_output (bank_of bank) (subst (λ r. PreventsBank (bank_of bank) r) same prevents))
      by_bank (BankNotRun not_run) = absurd (no_output_opening not_run.cause.why not_run.refusal not_run.cause.is not_run.reported.refusal given)
      by_bank (BankRan works are_works ran) =
          rose_in_report Quiet bank_schema (bank_names (number_of bank.clients)) ran.ends ran.parts ran.reported (output_breaks (has_closed report.trace) ran.reported.whole ran.ends (sym ran.reported.refusal ∙ given))
  output_rose (Created named is_create are schema has did) given = by_creation did
    where
      by_creation : CreateResult schema (seen disk) (seen result.disk) old new report → Rose old.faults new.faults
      by_creation (Made steps made done) = absurd (cc (sym done.refusal ∙ given))
      by_creation (NotMade {refusal = refusal} steps cause is) = let same : refusal ≡ Output = cc (is.refusal, given) in absurd (no_creation_output cause.why (sym cause.is ∙ same))
  output_rose (Dumped named is_dump are schema table has did) given = dump_rose schema table did (sym did.refusal ∙ given)

  -- ---- status 0

  status_by : (lacks : Bool) (first : Option ℕ) (whole : Bool) → status_after (if lacks then Some NoMemory else failure_refusal first whole) ≡ 0 → (whole ≡ true) × ((if lacks then Some NoMemory else failure_refusal first whole) ≡ None)
  status_by true first whole e = absurd (cc e)
  status_by false None true e = (refl, refl)
  status_by false None false e = absurd (cc e)
  status_by false (Some n) whole e = absurd (cc e)

  status_of_run : (closed whole : Bool) (ends : List ClientEnd) → status_after (refusal_after closed ends whole) ≡ 0 → (whole ≡ true) × (refusal_after closed ends whole ≡ None)
  status_of_run true whole ends e = absurd (cc e)
  status_of_run false whole ends e = status_by (one_lacks_memory ends) (first_failure 0 ends) whole e

  pub no_status_0 : (refusal : Refusal) → status_of refusal ≡ 0 → ⊥
  no_status_0 (Usage arg) e = cc e
  no_status_0 (File file) e = cc e
  no_status_0 (TooLong file most) e = cc e
  no_status_0 (Schema rule line) e = cc e
  no_status_0 (NoTable name) e = cc e
  no_status_0 (Source client file rule place) e = cc e
  no_status_0 NotCreated e = cc e
  no_status_0 AlreadyCreated e = cc e
  no_status_0 (SchemaDiffers stored given) e = cc e
  no_status_0 Disk e = cc e
  no_status_0 (Client first) e = cc e
  no_status_0 Output e = cc e
  no_status_0 NoMemory e = cc e

  -- a dump with status 0 was not refused
  status_of_dump : (why : Option DumpRefusal) → status_after (dump_refusal why) ≡ 0 → why ≡ None
  status_of_dump None e = refl
  status_of_dump (Some (dump.Database why)) e = absurd (no_status_0 (opening_refusal why) e)
  status_of_dump (Some dump.Output) e = absurd (cc e)

  status_of_check : (whole : Bool) → status_after (output_refusal whole) ≡ 0 → (whole ≡ true) × (output_refusal whole ≡ None)
  status_of_check true e = (refl, refl)
  status_of_check false e = absurd (cc e)

  -- the whole text of a run or of a check was appended
  pub whole_at_0 : CommandResult seen disk arguments files faults old new result → report.status ≡ 0 → IsTrue old.observable → HasWholeText seen disk arguments files report old new
  whole_at_0 (Refused name refusal cause same_disk is) zero given = absurd (no_status_0 refusal (sym is.status ∙ zero))
  whole_at_0 (NotRun named is_run are texts clean works are_works not_run) zero given = absurd (no_status_0 not_run.refusal (sym not_run.reported.status ∙ zero))
  whole_at_0 (Ran named is_run are texts clean works are_works ran) zero given =
      let r = ran.reported in
      let ok = status_of_run (has_closed report.trace) r.whole ran.ends (ap status_after (sym r.refusal) ∙ sym r.status ∙ zero) in
      let same : new ≡ r.between = subst (λ refusal. WritesStatus (client_names named) report.ends refusal r.between new) (r.refusal ∙ ok.1) r.lines in
      of_run named are texts ran.parts (ap (λ (w : OutState). w.texts) same ∙ r.text.all ok.0 given)
  whole_at_0 (Checked check is_check are listings listed same_disk told) zero given =
      let ok = status_of_check told.whole (ap status_after (sym told.refusal) ∙ sym told.status ∙ zero) in
      let same : new ≡ told.between = subst (λ refusal. WritesStatus [] [] refusal told.between new) (told.refusal ∙ ok.1) told.lines in
      of_check check are listings listed (ap (λ (w : OutState). w.texts) same ∙ told.text.all ok.0 given)
  whole_at_0 (Banked bank is_bank are did) zero given = by_bank did
    where
      by_bank : BankResult (bank_of bank) seen disk old new result → HasWholeText seen disk arguments files report old new
      by_bank (BankPrevented refusal prevents same_disk is) = absurd (no_status_0 refusal (sym is.status ∙ zero))
      by_bank (BankNotRun not_run) = absurd (no_status_0 not_run.refusal (sym not_run.reported.status ∙ zero))
      by_bank (BankRan works are_works ran) =
          let r = ran.reported in
          let ok = status_of_run (has_closed report.trace) r.whole ran.ends (ap status_after (sym r.refusal) ∙ sym r.status ∙ zero) in
          let same : new ≡ r.between = subst (λ refusal. WritesStatus (bank_names (number_of bank.clients)) report.ends refusal r.between new) (r.refusal ∙ ok.1) r.lines in
          of_bank bank are ran.parts (ap (λ (w : OutState). w.texts) same ∙ r.text.all ok.0 given)
  whole_at_0 (Created named is_create are schema has did) zero given = by_creation did
    where
      by_creation : CreateResult schema (seen disk) (seen result.disk) old new report → HasWholeText seen disk arguments files report old new
      by_creation (Made steps made done) = of_create named are (ap (λ (w : OutState). w.texts) done.out)
      by_creation (NotMade {refusal = refusal} steps cause is) = absurd (no_status_0 refusal (sym is.status ∙ zero))
  whole_at_0 (Dumped named is_dump are schema table has did) zero given =
      let none = status_of_dump did.why (ap status_after (sym did.refusal) ∙ sym did.status ∙ zero) in
      let quiet : report.refusal ≡ None = did.refusal ∙ ap dump_refusal none in
      let same : new ≡ did.between = subst (λ refusal. WritesStatus [] [] refusal did.between new) quiet did.lines in
      of_dump named are schema table has did.written.list (did.written.all (ap has_all_rows none)) (ap (λ (w : OutState). w.texts) same ∙ did.written.lines.all (ap has_whole_lines none) given)
