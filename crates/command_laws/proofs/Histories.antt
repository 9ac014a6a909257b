-- A history of commands is one of runs.
use Rattle.std.proofs.Common.{◌≡◌, ℕ, List, [], ◌∷◌, None, sym, ap, ◌∙◌, subst}
use Rattle.std.specs.Prelude.{map}
use Rattle.command_arguments.specs.CommandLine.{Create, create_arguments}
use Rattle.schema_reader.proofs.ObservableSound.{files-sound}
use Rattle.schema_text.proofs.HeldLemmas.Held.{files-held}
use Rattle.schema_reader.specs.Rules.{violation_of}
use Rattle.abl_values.specs.Schema.{SchemaData}
use Rattle.storage.specs.declared.disk.Disk.{Ghosts}
use Rattle.disk_database.specs.Images.{created}
use Rattle.source_files.specs.Compiled.{schema_in}
use Rattle.source_files.specs.Files.{HasText}
use Rattle.run_works.specs.Disks.{state_of}
use Rattle.abl_cli.proofs.FileCauses.{same_text}
use Rattle.abl_cli.proofs.Judged.{no_status_0}
use Rattle.abl_cli.proofs.Marks.{check_or_create, create_or_bank, create_or_dump, run_or_create}
use Rattle.abl_cli.proofs.Undisturbed.{creation_has_made}
use Rattle.abl_cli.specs.Command.{Banked, Checked, Created, Dumped, NotRun, Ran, Refused}
use Rattle.crash_laws.specs.Disks.{ComesNext, IsMade, view_of}
use Rattle.crash_laws.specs.History.{AreRuns, IsLeftBy, NothingIsLost, PastRun}
use Rattle.crash_laws.proofs.Histories.{history_kept}
use Rattle.command_laws.specs.History.{AreRunsOver, ClientsRun, CommandHistory, HasCreated, HasResult, IsCommandHistory, PastCommand, past_run}

-- ---- the schema file of a creation with status 0

one_name : (a b : Create) → create_arguments a ≡ create_arguments b → a.schema ≡ b.schema
one_name a b same = cc same

module _ {D : Type 0} (d : Ghosts D) (df : List ℕ) (command : PastCommand D) (has : HasCreated d df command) where
  -- it breaks no rule
  pub has_clean : HasResult d command → violation_of df ≡ None
  has_clean (Refused given refusal cause same is) = absurd (no_status_0 (state_of d) command.disk command.arguments command.files command.faults command.old command.new command.outcome refusal (sym is.status ∙ has.done))
  has_clean (NotRun run form args texts clean works are not_run) = absurd (run_or_create command.arguments run has.named args has.names.arguments_are)
  has_clean (Ran run form args texts clean works are ran) = absurd (run_or_create command.arguments run has.named args has.names.arguments_are)
  has_clean (Checked check form args listings listed same checked) = absurd (check_or_create command.arguments check has.named args has.names.arguments_are)
  has_clean (Banked bank form args result) = absurd (create_or_bank command.arguments has.named bank has.names.arguments_are args)
  has_clean (Dumped dump form args schema table is result) = absurd (create_or_dump command.arguments has.named dump has.names.arguments_are args)
  has_clean (Created made form args schema is result) =
      let name : made.schema ≡ has.named.schema = one_name made has.named (sym args ∙ has.names.arguments_are) in
      let text : HasText command.files has.named.schema is.df = subst (λ (n : List ℕ). HasText command.files n is.df) name is.has in
      let same : is.df ≡ df = same_text command.files has.names.observable has.names.sound text has.there.there in
      ap violation_of (sym same) ∙ is.clean

pub made_view : {D : Type 0} (d : Ghosts D) (df : List ℕ) (command : PastCommand D) → HasCreated d df command → IsMade (schema_in df) (view_of d command.outcome.disk)
made_view d df command has =
    let made = creation_has_made (state_of d) command.disk command.arguments command.files command.faults command.old command.new command.outcome has.named has.names df has.there has.done has.result in
    record { sound = files-sound df (has_clean d df command has has.result); held = files-held df (has_clean d df command has has.result); short = made.made.short; born = made.made.born }

-- ---- the runs after it

are_runs : {D : Type 0} (d : Ghosts D) (schema : SchemaData) (left : D → Type 0) (runs : List (ClientsRun D)) (last : D) → AreRunsOver d schema left runs last → AreRuns (view_of d) schema left (map {B = PastRun D} past_run runs) last
are_runs d schema left [] last are = are
are_runs d schema left (run ∷ runs) last are = (are.0, (are.1.0.durable, are_runs d schema (IsLeftBy (view_of d) (past_run run)) runs last are.1.1))

pub commands_kept : {D : Type 0} (d : Ghosts D) (history : CommandHistory D) → IsCommandHistory d history
    → ∥ NothingIsLost (view_of d) (schema_in history.df) (created (schema_in history.df)) (map {B = PastRun D} past_run history.runs) history.last ∥₁
commands_kept {D} d history is =
    history_kept (view_of d) (record { schema = schema_in history.df; made = history.creation.outcome.disk; runs = map {B = PastRun D} past_run history.runs; last = history.last }) (record {
      made = made_view d history.df history.creation is.made;
      runs = are_runs d (schema_in history.df) (λ disk. ComesNext (view_of d history.creation.outcome.disk) (view_of d disk)) history.runs history.last is.runs;
    })
