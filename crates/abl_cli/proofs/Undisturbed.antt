-- What a run, a creation and a dump come to that nothing prevents.
use Rattle.std.proofs.Common.{◌≡◌, ◌⊎◌, inl, inr, ◌∙◌, ℕ, List, Option, Some, None, ap, refl, subst, sym}
use Rattle.std.specs.Prelude.{IsTrue}
use Rattle.storage.specs.faults.Faults.{Rose}
use Rattle.schema_reader.proofs.ObservableSound.{files-sound}
use Rattle.schema_text.proofs.HeldLemmas.Held.{files-held}
use Rattle.schema_reader.specs.Rules.{violation_of}
use Rattle.abl_values.specs.Schema.{SchemaData, table_named}
use Rattle.abl_values.specs.Sound.{IsSound}
use Rattle.schema_text.specs.Written.{IsHeld}
use Rattle.host_io.specs.Files.{FileState}
use Rattle.host_io.specs.Out.{OutState}
use Rattle.command_arguments.specs.CommandLine.{Create, Dump, create_arguments, dump_arguments}
use Rattle.disk_database.specs.declared.refusals.OpenRefusal.TheVariants as opening
use Rattle.disk_database.specs.declared.refusals.CreateRefusal.{CreateRefusal}
use Rattle.disk_database.specs.declared.refusals.CreateRefusal.TheVariants as create
use Rattle.disk_database.specs.declared.refusals.DumpRefusal.{DumpRefusal}
use Rattle.disk_database.specs.declared.refusals.DumpRefusal.TheVariants as dump
use Rattle.disk_database.specs.Answers.{IsDatabaseOf, IsNoDatabase}
use Rattle.run_report.specs.declared.ending.Report.{Report}
use Rattle.run_report.specs.declared.refusal.Refusal.{Refusal}
use Rattle.run_report.specs.declared.refusal.Refusal.TheVariants.{NoMemory}
use Rattle.run_report.specs.Ending.{status_after}
use Rattle.run_report.specs.Report.{status_of}
use Rattle.run_works.specs.declared.outcome.Outcome.{Outcome}
use Rattle.run_works.specs.Disks.{DiskState}
use Rattle.source_files.specs.Files.{HasText}
use Rattle.source_files.specs.Compiled.{schema_in}
use Rattle.abl_cli.specs.Command.{CommandResult, Refused, NotRun, Ran, Checked, Banked, Created, Dumped, wrong_argument, prevented, check_prevented, create_prevented, dump_prevented, IsThere}
use Rattle.abl_cli.specs.Stored.{CreateResult, Made, NotMade, DumpResult, HasSchema, HasTable, IsDumpCause, IsMade, PreventsSchema, no_df, df_breaks, PreventsDump, no_schema, no_table, dump_wants, creation_refusal, dump_refusal}
use Rattle.abl_cli.specs.Undisturbed.{HasDatabase, NamesCreation, NamesTable, RunEnd, memory_was_out, IsDone, ended, not_opened}
use Rattle.abl_cli.proofs.Databases.{not_opened_by, only_memory}
use Rattle.abl_cli.proofs.FileCauses.{no_violation, same_text, unread}
use Rattle.abl_cli.proofs.Judged.{dump_rose, no_status_0, wrong_or_formed}
use Rattle.abl_cli.proofs.Marks.{check_or_create, check_or_dump, create_or_bank, create_or_dump, dump_or_bank, run_or_create, run_or_dump}

-- ---- a run

pub run_is_ended : {D : Type 0} (seen : D → DiskState) (disk : D) (schema : SchemaData) (result : Outcome D) → IsSound schema → IsHeld schema → HasDatabase schema (seen disk) → (seen disk).left (seen disk).time (seen disk).seen → (Rose (seen disk).failures (seen result.disk).failures → ⊥) → IsDone seen disk schema result → RunEnd result.report
run_is_ended seen disk schema result sound named has there quiet (ended how) = how
run_is_ended seen disk schema result sound named has there quiet (not_opened refusal given status cause) =
    memory_was_out (status ∙ ap status_of (not_opened_by schema sound named (seen disk) has there (seen result.disk) refusal quiet cause))

-- ---- the schema file

module _ (files : FileState) (observable : IsTrue files.observable) (sound : IsTrue files.sound) (name df : List ℕ) (there : IsThere files name df) where
  same_df : (read : List ℕ) → HasText files name read → read ≡ df
  same_df read has = same_text files observable sound has there.there

  pub schema_is : (schema : SchemaData) → HasSchema files name schema → schema ≡ schema_in df
  schema_is schema has = has.is ∙ ap (λ (text : List ℕ). schema_in text) (same_df has.df has.has)

  pub schema_wants : (faults : ℕ) (refusal : Refusal) → violation_of df ≡ None → PreventsSchema files faults name refusal → refusal ≡ NoMemory
  schema_wants faults refusal clean (no_df h) = unread files observable sound faults there h
  schema_wants faults refusal clean (df_breaks {df = read} has breaks) = no_violation (ap violation_of (same_df read has) ∙ clean) breaks

-- ---- a creation

one_create : (a b : Create) → create_arguments a ≡ create_arguments b → a ≡ b
one_create a b same = let s : a.schema ≡ b.schema = cc same in λ i. record { schema = s i }

one_dump : (a b : Dump) → dump_arguments a ≡ dump_arguments b → a ≡ b
one_dump a b same = let s : a.schema ≡ b.schema = cc same in let t : a.table ≡ b.table = cc same in λ i. record { schema = s i; table = t i }

module _ {D : Type 0} (seen : D → DiskState) (disk : D) (arguments : List (List ℕ)) (files : FileState) (faults : ℕ) (old new : OutState) (result : Outcome D) where
  abbrev report : Report
  report = result.report

  -- the command did its work, or memory was out
  abbrev IsDoneOrWants : Type 0
  IsDoneOrWants = (report.status ≡ 0) ⊎ (report.status ≡ 7)

  lacks : (refusal : Refusal) → report.status ≡ status_of refusal → refusal ≡ NoMemory → IsDoneOrWants
  lacks refusal status is = inr (status ∙ ap status_of is)

  module _ (creation : Create) (names : NamesCreation arguments files creation) (df : List ℕ) (there : IsThere files creation.schema df) (clean : violation_of df ≡ None) (known : IsTrue (seen disk).observable) (fresh : IsNoDatabase (seen disk).seen)
      (quiet : Rose (seen disk).failures (seen result.disk).failures → ⊥) where
    -- it holds none
    none_there : (other : SchemaData) × IsDatabaseOf (seen disk).seen other → ⊥
    none_there found = fresh found.0 found.1

    not_made : (why : CreateRefusal) → (why ≡ create.AlreadyCreated → (other : SchemaData) × IsDatabaseOf (seen disk).seen other) → (why ≡ create.Disk → Rose (seen disk).failures (seen result.disk).failures) → creation_refusal why ≡ NoMemory
    not_made create.AlreadyCreated already rose = absurd (none_there (already refl))
    not_made create.Disk already rose = absurd (quiet (rose refl))
    not_made create.NoMemory already rose = refl

    created : (schema : SchemaData) → CreateResult schema (seen disk) (seen result.disk) old new report → IsDoneOrWants
    created schema (Made steps made done) = inl done.status
    created schema (NotMade {refusal = refusal} steps cause is) = lacks refusal is.status (cause.is ∙ not_made cause.why (λ e. cause.already e known) cause.rose)

    pub creation_is_done : CommandResult seen disk arguments files faults old new result → IsDoneOrWants
    creation_is_done (Refused given refusal (wrong_argument wrong) same_disk is) = absurd (wrong_or_formed arguments _ wrong (inr (inr (inr (inl (creation, (names.is_create, names.arguments_are)))))))
    creation_is_done (Refused given refusal (prevented run is_run are prevents) same_disk is) = absurd (run_or_create arguments run creation are names.arguments_are)
    creation_is_done (Refused given refusal (check_prevented check is_check are prevents) same_disk is) = absurd (check_or_create arguments check creation are names.arguments_are)
    creation_is_done (Refused given refusal (create_prevented other is_create are prevents) same_disk is) =
        lacks refusal is.status (schema_wants files names.observable names.sound creation.schema df there faults refusal clean
        (subst (λ (c : Create). PreventsSchema files faults c.schema refusal) (one_create other creation (sym are ∙ names.arguments_are)) prevents))
    creation_is_done (Refused given refusal (dump_prevented other is_dump are prevents) same_disk is) = absurd (create_or_dump arguments creation other names.arguments_are are)
    creation_is_done (NotRun run is_run are texts fine works are_works not_run) = absurd (run_or_create arguments run creation are names.arguments_are)
    creation_is_done (Ran run is_run are texts fine works are_works ran) = absurd (run_or_create arguments run creation are names.arguments_are)
    creation_is_done (Checked check is_check are listings listed same_disk told) = absurd (check_or_create arguments check creation are names.arguments_are)
    creation_is_done (Banked bank is_bank are did) = absurd (create_or_bank arguments creation bank names.arguments_are are)
    creation_is_done (Created other is_create are schema has did) = created schema did
    creation_is_done (Dumped other is_dump are schema table has did) = absurd (create_or_dump arguments creation other names.arguments_are are)

  -- ---- what a creation with status 0 has made

  -- the disk is observable where it was, and each image that a crash now may leave is that of the new database
  pub record HasMade (schema : SchemaData) : Type 0 where
    pub same_observable : (seen result.disk).observable ≡ (seen disk).observable
    pub made : IsMade schema (seen disk) (seen result.disk)

  module _ (creation : Create) (names : NamesCreation arguments files creation) (df : List ℕ) (there : IsThere files creation.schema df) (zero : report.status ≡ 0) where
    made_by : (schema : SchemaData) → schema ≡ schema_in df → CreateResult schema (seen disk) (seen result.disk) old new report → HasMade (schema_in df)
    made_by schema is (Made steps made done) = subst (λ (s : SchemaData). HasMade s) is (record { same_observable = steps.observable; made = made })
    made_by schema is (NotMade {refusal = refusal} steps cause why) = absurd (no_status_0 seen disk arguments files faults old new result refusal (sym why.status ∙ zero))

    pub creation_has_made : CommandResult seen disk arguments files faults old new result → HasMade (schema_in df)
    creation_has_made (Refused given refusal cause same_disk is) = absurd (no_status_0 seen disk arguments files faults old new result refusal (sym is.status ∙ zero))
    creation_has_made (NotRun run is_run are texts fine works are_works not_run) = absurd (run_or_create arguments run creation are names.arguments_are)
    creation_has_made (Ran run is_run are texts fine works are_works ran) = absurd (run_or_create arguments run creation are names.arguments_are)
    creation_has_made (Checked check is_check are listings listed same_disk told) = absurd (check_or_create arguments check creation are names.arguments_are)
    creation_has_made (Banked bank is_bank are did) = absurd (create_or_bank arguments creation bank names.arguments_are are)
    creation_has_made (Dumped other is_dump are schema table has did) = absurd (create_or_dump arguments creation other names.arguments_are are)
    creation_has_made (Created other is_create are schema has did) =
        made_by schema
        (schema_is files names.observable names.sound creation.schema df there schema (subst (λ (c : Create). HasSchema files c.schema schema) (one_create other creation (sym are ∙ names.arguments_are)) has)) did

  -- ---- a dump

  module _ (named : Dump) (names : NamesTable arguments files named) (df : List ℕ) (there : IsThere files named.schema df) (clean : violation_of df ≡ None) (table : ℕ) (is_table : table_named (schema_in df) named.table ≡ Some table) (has : HasDatabase (schema_in df) (seen disk)) (at : (seen disk).left (seen disk).time (seen disk).seen)
      (quiet : Rose (seen disk).failures (seen result.disk).failures → ⊥) (unbroken : Rose old.faults new.faults → ⊥) where
    -- the schema of a file that breaks no rule
    sound : IsSound (schema_in df)
    sound = files-sound df clean

    held : IsHeld (schema_in df)
    held = files-held df clean

    dump_prevents : (refusal : Refusal) → PreventsDump files faults named refusal → refusal ≡ NoMemory
    dump_prevents refusal (no_schema h) = schema_wants files names.observable names.sound named.schema df there faults refusal clean h
    dump_prevents refusal (no_table schema is none) =
        let found : table_named schema named.table ≡ Some table = ap (λ (s : SchemaData). table_named s named.table) (schema_is files names.observable names.sound named.schema df there schema is) ∙ is_table in
        absurd (cc (sym none ∙ found))
    dump_prevents refusal dump_wants = refl

    by_cause : (why : Option DumpRefusal) → IsDumpCause (schema_in df) (seen disk) (seen result.disk) why → (dump_refusal why ≡ dump_refusal (Some dump.Output) → ⊥) → report.status ≡ status_after (dump_refusal why) → IsDoneOrWants
    by_cause None cause whole status = inl status
    by_cause (Some (dump.Database opening.Disk)) cause whole status = absurd (quiet (cause.1 refl))
    by_cause (Some (dump.Database opening.NotCreated)) cause whole status = inr (status ∙ ap status_of (only_memory (schema_in df) sound held (seen disk) has at opening.NotCreated cause.0 (λ e. cc e)))
    by_cause (Some (dump.Database (opening.SchemaDiffers stored given))) cause whole status = inr (status ∙ ap status_of (only_memory (schema_in df) sound held (seen disk) has at (opening.SchemaDiffers stored given) cause.0 (λ e. cc e)))
    by_cause (Some (dump.Database opening.NoMemory)) cause whole status = inr status
    by_cause (Some dump.Output) cause whole status = absurd (whole refl)

    dumped : (schema : SchemaData) (number : ℕ) → HasTable files named schema number → DumpResult schema number (seen disk) (seen result.disk) old new report → IsDoneOrWants
    dumped schema number is did =
        by_cause did.why
        (subst (λ (s : SchemaData). IsDumpCause s (seen disk) (seen result.disk) did.why) (schema_is files names.observable names.sound named.schema df there schema is.has) did.cause)
        (λ output. unbroken (dump_rose seen disk arguments files faults old new result schema number did output))
        (did.status ∙ ap status_after did.refusal)

    pub dump_is_done : CommandResult seen disk arguments files faults old new result → IsDoneOrWants
    dump_is_done (Refused given refusal (wrong_argument wrong) same_disk is) = absurd (wrong_or_formed arguments _ wrong (inr (inr (inr (inr (named, (names.is_dump, names.arguments_are)))))))
    dump_is_done (Refused given refusal (prevented run is_run are prevents) same_disk is) = absurd (run_or_dump arguments run named are names.arguments_are)
    dump_is_done (Refused given refusal (check_prevented check is_check are prevents) same_disk is) = absurd (check_or_dump arguments check named are names.arguments_are)
    dump_is_done (Refused given refusal (create_prevented other is_create are prevents) same_disk is) = absurd (create_or_dump arguments other named are names.arguments_are)
    dump_is_done (Refused given refusal (dump_prevented other is_dump are prevents) same_disk is) =
        lacks refusal is.status (dump_prevents refusal (subst (λ (d : Dump). PreventsDump files faults d refusal) (one_dump other named (sym are ∙ names.arguments_are)) prevents))
    dump_is_done (NotRun run is_run are texts fine works are_works not_run) = absurd (run_or_dump arguments run named are names.arguments_are)
    dump_is_done (Ran run is_run are texts fine works are_works ran) = absurd (run_or_dump arguments run named are names.arguments_are)
    dump_is_done (Checked check is_check are listings listed same_disk told) = absurd (check_or_dump arguments check named are names.arguments_are)
    dump_is_done (Banked bank is_bank are did) = absurd (dump_or_bank arguments named bank names.arguments_are are)
    dump_is_done (Created other is_create are schema is did) = absurd (create_or_dump arguments other named are names.arguments_are)
    dump_is_done (Dumped other is_dump are schema number is did) =
        dumped schema number (subst (λ (d : Dump). HasTable files d schema number) (one_dump other named (sym are ∙ names.arguments_are)) is) did
