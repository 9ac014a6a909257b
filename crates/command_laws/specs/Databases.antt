-- Commands over one database, the images that their crashes leave, and what they keep.
use Rattle.std.specs.Prelude.{◌≡◌, ℕ, ◌≤◌, IsTrue, List, [], ◌∷◌}
use Rattle.command_arguments.specs.CommandLine.{Bank, Dump, Run, arguments_of, bank_arguments, dump_arguments}
use Rattle.abl_cli.specs.Command.{IsThere}
use Rattle.host_io.specs.Files.{FileState}
use Rattle.storage.specs.declared.disk.Disk.{Ghosts}
use Rattle.abl_values.specs.Schema.{SchemaData}
use Rattle.bank_run.specs.declared.inputs.sources.TheConstants.{BANK_SCHEMA}
use Rattle.crash_laws.specs.Disks.{ComesNext, IsAfterCrash, MayBeOpened, view_of}
use Rattle.crash_laws.specs.History.{AreKept, IsNeverClosed}
use Rattle.database_meaning.specs.Traces.{IsLegal, after_commits}
use Rattle.database_meaning.specs.declared.contents.Contents.{Contents}
use Rattle.disk_database.specs.Images.{stored_contents}
use Rattle.log_meaning.specs.steps.Steps.{Image}
use Rattle.database_layout.specs.contents.Born.{IsBorn}
use Rattle.command_laws.specs.History.{HasResult, PastCommand}

-- ---- one command

-- the files are observable and fail for a missing file alone, and have this text under the name
pub record HasFile (files : FileState) (name text : List ℕ) : Type 0 where
  pub observable : IsTrue files.observable
  pub sound : IsTrue files.sound
  pub there : IsThere files name text

-- The command is over the database of the schema file with this text, if it comes to one: a run and a dump name such a file, and a bank is one
-- only where the file is that of a bank. A creation may name any file, and the disk may fail in it
pub record IsOver {D : Type 0} (df : List ℕ) (command : PastCommand D) : Type 0 where
  pub of_run : (run : Run) → command.arguments ≡ arguments_of run → HasFile command.files run.schema df
  pub of_dump : (dump : Dump) → command.arguments ≡ dump_arguments dump → HasFile command.files dump.schema df
  pub of_bank : (bank : Bank) → command.arguments ≡ bank_arguments bank → df ≡ BANK_SCHEMA.now

-- the image is that of a database of this schema: it is born, with some contents
abbrev pub IsDatabase : SchemaData → Image → Type 0
IsDatabase schema image = (contents : Contents) × IsBorn image (stored_contents schema contents)

-- each image that a crash at a moment of the command may leave, from its call to its return, is a database of this schema
abbrev pub LeavesDatabases : {D : Type 0} → Ghosts D → SchemaData → PastCommand D → Type 0
LeavesDatabases d schema command = (m : ℕ) (image : Image) → d.time command.disk ≤ m → d.left command.outcome.disk m image → ∥ IsDatabase schema image ∥₁

-- ---- a history

-- a command, and the moment at which it crashed, or its last one
pub record TimedCommand (D : Type 0) : Type 0 where
  pub command : PastCommand D
  pub moment : ℕ

-- what it leaves: at a crash, or at its end
pub data IsLeftByCommand {D : Type 0} (d : Ghosts D) (c : TimedCommand D) (disk : D) : Type 0 where
  -- it crashed at that moment, which is not before its call
  CommandCrashed : d.time c.command.disk ≤ c.moment → IsAfterCrash (view_of d c.command.outcome.disk) c.moment (view_of d disk) → IsLeftByCommand d c disk
  -- it ended, no event was answered Closed, and the disk that it handed back is the next one
  CommandEnded : c.moment ≡ d.time c.command.outcome.disk → d.time c.command.disk ≤ c.moment → IsNeverClosed c.command.outcome.report.trace → ComesNext (view_of d c.command.outcome.disk) (view_of d disk) →
      IsLeftByCommand d c disk

-- the first command is over a disk that is left so, and each other one over what the command before it left; each has the result that `run_abl`
-- promises, and is over the database of the schema file with this text
abbrev pub AreCommandsOver : {D : Type 0} → Ghosts D → List ℕ → (D → Type 0) → List (TimedCommand D) → D → Type 0
AreCommandsOver d df left [] last = left last
AreCommandsOver d df left (c ∷ cs) last = left c.command.disk × (HasResult d c.command × (IsOver df c.command × AreCommandsOver d df (IsLeftByCommand d c) cs last))

-- EACH CRASH LEAVES A DATABASE: so does each command, and so is each image of the disk that is left at last
abbrev pub LeaveDatabases : {D : Type 0} → Ghosts D → SchemaData → List (TimedCommand D) → D → Type 0
LeaveDatabases d schema [] last = (image : Image) → d.left last (d.time last) image → ∥ IsDatabase schema image ∥₁
LeaveDatabases d schema (c ∷ cs) last = LeavesDatabases d schema c.command × LeaveDatabases d schema cs last

-- NO COMMAND LOSES WHAT WAS ACKNOWLEDGED: the first command is over a disk that may be opened with these contents, each other one over one with those
-- that the command before it left, and so is whoever opens the disk that is left at last. A command leaves the contents after the first `done`
-- commits of its trace, which is legal from what it found: each one that was acknowledged by its moment, and at most one more. What is no run has an
-- empty trace, and leaves what it found
abbrev pub LoseNothing : {D : Type 0} → Ghosts D → SchemaData → Contents → List (TimedCommand D) → D → Type 0
LoseNothing d schema contents [] last = MayBeOpened schema contents (view_of d last)
LoseNothing d schema contents (c ∷ cs) last =
    MayBeOpened schema contents (view_of d c.command.disk)
    × ((clients : ℕ) × (IsLegal (record { schema = schema; clients = clients }) contents c.command.outcome.report.trace
    × ((done : ℕ) × (AreKept (record { schema = schema; clients = clients }) contents c.command.outcome.report.trace c.moment done
    × LoseNothing d schema (after_commits (record { schema = schema; clients = clients }) contents c.command.outcome.report.trace done) cs last))))
