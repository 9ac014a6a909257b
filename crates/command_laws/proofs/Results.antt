-- A command over its database keeps the contents, or it is a run whose commits survive.
use Rattle.std.proofs.Common.{◌≡◌, ◌⊎◌, inl, inr, ℕ, ◌+◌, ◌≤◌, List, [], None, length, IsTrue, refl, sym, ap, ◌∙◌, subst, arith}
use Rattle.schema_reader.proofs.ObservableSound.{files-sound}
use Rattle.schema_text.proofs.HeldLemmas.Held.{files-held}
use Rattle.schema_reader.specs.Rules.{violation_of}
use Rattle.command_arguments.specs.CommandLine.{Bank, number_of}
use Rattle.abl_cli.proofs.FileCauses.{same_text}
use Rattle.abl_cli.proofs.Refusals.{creation_stays}
use Rattle.abl_cli.specs.Command.{Banked, Checked, Created, Dumped, NotRun, Ran, Refused, bank_of}
use Rattle.abl_cli.specs.Stored.{CreateResult, Made, NotMade}
use Rattle.host_io.specs.Files.{FileState}
use Rattle.storage.specs.Disk.{IsImage}
use Rattle.storage.specs.declared.disk.Disk.{Ghosts}
use Rattle.abl_values.specs.Schema.{SchemaData}
use Rattle.abl_values.specs.Sound.{IsSound}
use Rattle.schema_text.specs.Written.{IsHeld}
use Rattle.bank_run.specs.declared.inputs.sources.TheConstants.{BANK_SCHEMA}
use Rattle.bank_run.specs.Result.{BankNotRun, BankPrevented, BankRan, BankResult}
use Rattle.database_meaning.specs.Traces.{IsSoundContents}
use Rattle.database_meaning.specs.declared.contents.Contents.{Contents}
use Rattle.disk_database.proofs.Reopenings.{not_missing}
use Rattle.disk_database.specs.Answers.{IsNoDatabase}
use Rattle.disk_database.specs.Images.{IsImageOf}
use Rattle.log_meaning.specs.steps.Steps.{Image}
use Rattle.run_works.proofs.Disks.{untouched}
use Rattle.run_works.specs.Disks.{HoldsContents, IsDurable, IsUntouched, KeepsContents, state_of}
use Rattle.source_files.specs.Compiled.{schema_in}
use Rattle.source_files.specs.Files.{HasText}
use Rattle.command_laws.specs.Databases.{HasFile, IsOver}
use Rattle.command_laws.specs.History.{HasResult, PastCommand}

-- a file of this text has one schema
pub same_schema : (files : FileState) (name df : List ℕ) → HasFile files name df → (text : List ℕ) → HasText files name text → schema_in text ≡ schema_in df
same_schema files name df file text has = ap (λ (t : List ℕ). schema_in t) (same_text files file.observable file.sound has file.there.there)

module _ {D : Type 0} (d : Ghosts D) (known : (disk : D) (m : ℕ) (image : Image) → d.left disk m image → IsImage (d.observable disk) (d.time disk) m image) (reads : (disk : D) → IsTrue (d.observable disk) → d.left disk (d.time disk) (d.seen disk)) where
  -- it keeps sound contents, and has no events
  pub record Keeps (schema : SchemaData) (command : PastCommand D) : Type 0 where
    pub silent : command.outcome.report.trace ≡ []
    pub kept : (contents : Contents) → IsSoundContents (record { schema = schema; clients = 0 }) contents → HoldsContents (state_of d command.disk) schema contents →
        (m : ℕ) (image : Image) → d.time command.disk ≤ m → d.left command.outcome.disk m image → ∥ IsImageOf schema contents image ∥₁

  -- or it is a run of so many clients
  abbrev pub KeepsOrRuns : SchemaData → PastCommand D → Type 0
  KeepsOrRuns schema command = Keeps schema command
      ⊎ ((clients : ℕ) × IsDurable (record { schema = schema; clients = clients }) command.outcome.report.trace (state_of d command.disk) (state_of d command.outcome.disk))

  module _ (schema : SchemaData) (command : PastCommand D) where
    -- what keeps any contents of a schema keeps sound ones of the same schema
    other_keeps : {other : SchemaData} → other ≡ schema → command.outcome.report.trace ≡ [] → KeepsContents other (state_of d command.disk) (state_of d command.outcome.disk) → Keeps schema command
    other_keeps same silent keeps = record {
      silent = silent;
      kept = λ contents sound. subst (λ (s : SchemaData). KeepsContents s (state_of d command.disk) (state_of d command.outcome.disk)) same keeps contents;
    }

    not_touched : command.outcome.report.trace ≡ [] → command.outcome.disk ≡ command.disk → Keeps schema command
    not_touched silent same =
        other_keeps refl silent (subst (λ (disk : D). KeepsContents schema (state_of d command.disk) (state_of d disk)) (sym same) (untouched (state_of d command.disk) (known command.disk) schema))

    other_runs : {other : SchemaData} (clients : ℕ) → other ≡ schema → IsDurable (record { schema = other; clients = clients }) command.outcome.report.trace (state_of d command.disk) (state_of d command.outcome.disk) → KeepsOrRuns schema command
    other_runs clients same durable =
        inr (clients, subst (λ (s : SchemaData). IsDurable (record { schema = s; clients = clients }) command.outcome.report.trace (state_of d command.disk) (state_of d command.outcome.disk)) same durable)

    -- ---- a creation, of whatever schema

    -- a disk that is as it was has the images that it had
    as_it_was : (contents : Contents) → HoldsContents (state_of d command.disk) schema contents → IsUntouched (state_of d command.disk) (state_of d command.outcome.disk) → (m : ℕ) (image : Image) → d.time command.disk ≤ m → d.left command.outcome.disk m image → IsImageOf schema contents image
    as_it_was contents holds stays m image from there =
        let past = (known command.outcome.disk m image there).past in
        let moment = stays.moment in
        let same : m ≡ d.time command.disk = omega (arith, from, past, moment) in
        holds.all image (subst (λ (n : ℕ). d.left command.disk n image) same (stays.nothing_else m image there))

    -- what the disk reads is a database
    not_none : IsSound schema → IsHeld schema → (contents : Contents) → IsSoundContents (record { schema = schema; clients = 0 }) contents → HoldsContents (state_of d command.disk) schema contents → IsNoDatabase (d.seen command.disk) → ⊥
    not_none sound named contents are holds none = not_missing (record { schema = schema; clients = 0 }) contents (d.seen command.disk) sound named are (holds.all (d.seen command.disk) (reads command.disk holds.seen)) (λ observable. none)

    no_events : (other : SchemaData) → CreateResult other (state_of d command.disk) (state_of d command.outcome.disk) command.old command.new command.outcome.report → command.outcome.report.trace ≡ []
    no_events other (Made steps made silent) = silent.trace
    no_events other (NotMade steps cause is) = is.trace

    creation_keeps : IsSound schema → IsHeld schema → (other : SchemaData) → CreateResult other (state_of d command.disk) (state_of d command.outcome.disk) command.old command.new command.outcome.report → Keeps schema command
    creation_keeps sound named other result = record {
      silent = no_events other result;
      kept = λ contents are holds m image from there. ∣ as_it_was contents holds (creation_stays (state_of d command.disk) (state_of d command.outcome.disk) holds.seen (not_none sound named contents are holds) result) m image from there ∣₁;
    }

  bank_kept_or_run : (df : List ℕ) (command : PastCommand D) (bank : Bank) → df ≡ BANK_SCHEMA.now → BankResult (bank_of bank) (state_of d) command.disk command.old command.new command.outcome → KeepsOrRuns (schema_in df) command
  bank_kept_or_run df command bank is (BankPrevented refusal prevents same refused) = inl (not_touched (schema_in df) command refused.trace same)
  bank_kept_or_run df command bank is (BankNotRun not_run) = inl (other_keeps (schema_in df) command (ap (λ (t : List ℕ). schema_in t) (sym is)) not_run.reported.trace not_run.kept)
  bank_kept_or_run df command bank is (BankRan works are ran) = other_runs (schema_in df) command (number_of bank.clients + 2) (ap (λ (t : List ℕ). schema_in t) (sym is)) ran.durable

  pub kept_or_run : (df : List ℕ) → violation_of df ≡ None → (command : PastCommand D) → HasResult d command → IsOver df command → KeepsOrRuns (schema_in df) command
  kept_or_run df clean command (Refused names refusal cause same refused) over = inl (not_touched (schema_in df) command refused.trace same)
  kept_or_run df clean command (NotRun named form args texts fine works are not_run) over =
      inl (other_keeps (schema_in df) command (same_schema command.files named.schema df (over.of_run named args) texts.df texts.has_schema) not_run.reported.trace not_run.kept)
  kept_or_run df clean command (Ran named form args texts fine works are ran) over =
      other_runs (schema_in df) command (length works) (same_schema command.files named.schema df (over.of_run named args) texts.df texts.has_schema) ran.durable
  kept_or_run df clean command (Checked check form args listings listed same checked) over = inl (not_touched (schema_in df) command checked.trace same)
  kept_or_run df clean command (Banked bank form args result) over = bank_kept_or_run df command bank (over.of_bank bank args) result
  kept_or_run df clean command (Created made form args schema has result) over = inl (creation_keeps (schema_in df) command (files-sound df clean) (files-held df clean) schema result)
  kept_or_run df clean command (Dumped dump form args schema table has result) over =
      inl (other_keeps (schema_in df) command (has.has.is ∙ same_schema command.files dump.schema df (over.of_dump dump args) has.has.df has.has.has) result.trace result.kept)
