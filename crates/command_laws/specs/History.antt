-- The history of a database as commands make it: a creation, then runs, each over what was left of the one before.
use Rattle.std.specs.Prelude.{◌≡◌, ℕ, List, [], ◌∷◌, length}
use Rattle.abl_values.specs.Schema.{SchemaData}
use Rattle.storage.specs.declared.disk.Disk.{Ghosts}
use Rattle.host_io.specs.Files.{FileState}
use Rattle.host_io.specs.Out.{OutState}
use Rattle.command_arguments.specs.CommandLine.{Create}
use Rattle.command_arguments.specs.declared.parts.Mode.{Mode}
use Rattle.source_files.specs.Compiled.{schema_in}
use Rattle.client_threads.specs.served.Works.{Work}
use Rattle.run_works.specs.declared.outcome.Outcome.{Outcome}
use Rattle.run_works.specs.Disks.{state_of}
use Rattle.run_works.specs.Works.{HasRun}
use Rattle.abl_cli.specs.Command.{CommandResult, IsThere}
use Rattle.abl_cli.specs.Undisturbed.{NamesCreation}
use Rattle.crash_laws.specs.Disks.{ComesNext, view_of}
use Rattle.crash_laws.specs.History.{IsLeftBy, PastRun}

-- a command: the disk and the arguments that it was given, the files, their count of faults after it, the streams before and after it, and its
-- outcome
pub record PastCommand (D : Type 0) : Type 0 where
  pub disk : D
  pub arguments : List (List ℕ)
  pub files : FileState
  pub faults : ℕ
  pub old : OutState
  pub new : OutState
  pub outcome : Outcome D

-- the result that `run_abl` promises
abbrev pub HasResult : {D : Type 0} → Ghosts D → PastCommand D → Type 0
HasResult d command = CommandResult (state_of d) command.disk command.arguments command.files command.faults command.old command.new command.outcome

-- the command made the database of the schema file with this text: it is a creation, and its status is 0
pub record HasCreated {D : Type 0} (d : Ghosts D) (df : List ℕ) (command : PastCommand D) : Type 0 where
  pub named : Create
  pub names : NamesCreation command.arguments command.files named
  pub there : IsThere command.files named.schema df
  pub result : HasResult d command
  pub done : command.outcome.report.status ≡ 0

-- a run: the command, the mode, the names, the units and the works of its clients, and the moment at which it crashed, or its last one
pub record ClientsRun (D : Type 0) : Type 0 where
  pub command : PastCommand D
  pub mode : Mode
  pub names : List (List ℕ)
  pub units : ℕ
  pub works : List Work
  pub moment : ℕ

-- it ran these clients over the database of this schema (`Ran` of `CommandResult`)
abbrev pub HasRunOver : {D : Type 0} → Ghosts D → SchemaData → ClientsRun D → Type 0
HasRunOver d schema run =
    HasRun run.mode schema run.names run.units run.works (state_of d run.command.disk) (state_of d run.command.outcome.disk) run.command.old run.command.new run.command.outcome.report

-- the run as the laws of crashes see it
abbrev pub past_run : {D : Type 0} → ClientsRun D → PastRun D
past_run run = record { clients = length run.works; was = run.command.disk; now = run.command.outcome.disk; trace = run.command.outcome.report.trace; moment = run.moment }

-- the first run is over a disk that is left so, and each other one over what the run before it left
abbrev pub AreRunsOver : {D : Type 0} → Ghosts D → SchemaData → (D → Type 0) → List (ClientsRun D) → D → Type 0
AreRunsOver d schema left [] last = left last
AreRunsOver d schema left (run ∷ runs) last = left run.command.disk × (HasRunOver d schema run × AreRunsOver d schema (IsLeftBy (view_of d) (past_run run)) runs last)

-- a creation over the schema file with this text, the runs after it in order, and the disk that is left
pub record CommandHistory (D : Type 0) : Type 0 where
  pub df : List ℕ
  pub creation : PastCommand D
  pub runs : List (ClientsRun D)
  pub last : D

-- the creation made the database, and each run was over what was left
pub record IsCommandHistory {D : Type 0} (d : Ghosts D) (history : CommandHistory D) : Type 0 where
  pub made : HasCreated d history.df history.creation
  pub runs : AreRunsOver d (schema_in history.df) (λ disk. ComesNext (view_of d history.creation.outcome.disk) (view_of d disk)) history.runs history.last
