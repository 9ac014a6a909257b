-- The history of a database: a creation, and runs, each over what was left of the one before.
use Rattle.std.specs.Prelude.{◌≡◌, ℕ, ◌+◌, ◌≤◌, false, List, [], ◌∷◌, ◌++◌, IsTrue}
use Rattle.abl_values.specs.Schema.{SchemaData}
use Rattle.database_protocol.specs.declared.event.Event.{Event}
use Rattle.database_meaning.specs.declared.contents.Contents.{Contents}
use Rattle.database_meaning.specs.Setting.{Setting}
use Rattle.database_meaning.specs.Steps.{is_closed}
use Rattle.database_meaning.specs.Traces.{IsLegal, acknowledged, after_commits, commits, is_acknowledged}
use Rattle.disk_database.specs.Images.{AreImagesOf, SurvivesCrashes}
use Rattle.crash_laws.specs.Disks.{ComesNext, DiskView, IsAfterCrash, IsMade, MayBeOpened}

-- ---- one run

-- A run: its number of clients, the disk that it opened, the disk and the trace at its end, and the moment at which it crashed, or its last one.
-- Where it crashed, its end is the one that it would have come to: what a crash leaves is told of each moment of a whole run
pub record PastRun (D : Type 0) : Type 0 where
  pub clients : ℕ
  pub was : D
  pub now : D
  pub trace : List Event
  pub moment : ℕ

abbrev pub setting_of : {D : Type 0} → SchemaData → PastRun D → Setting
setting_of schema run = record { schema = schema; clients = run.clients }

-- What is proved of each run (`open` and `close` of `disk_database`, `HasRun` of `run_works`): whatever contents the disk held, the trace is
-- legal from these, and a crash at any moment from the opening on leaves them after the commits that were acknowledged by then, or after one more
abbrev pub IsDurable : {D : Type 0} → (D → DiskView) → SchemaData → PastRun D → Type 0
IsDurable view schema run =
    (contents : Contents) → AreImagesOf (view run.was).observable (view run.was).time (view run.was).left schema contents
    → IsLegal (setting_of schema run) contents run.trace × SurvivesCrashes (view run.was).time (view run.now).time (view run.now).left (setting_of schema run) contents run.trace

-- no event was answered Closed, so each commit was answered
abbrev pub IsNeverClosed : List Event → Type 0
IsNeverClosed [] = Unit {0}
IsNeverClosed (e ∷ es) = (is_closed e.answer ≡ false) × IsNeverClosed es

-- What a run leaves: at a crash, or at its end
pub data IsLeftBy {D : Type 0} (view : D → DiskView) (run : PastRun D) (disk : D) : Type 0 where
  -- it crashed at that moment, which is not before the opening
  Crashed : (view run.was).time ≤ run.moment → IsAfterCrash (view run.now) run.moment (view disk) → IsLeftBy view run disk
  -- it ended, no event was answered Closed, and the disk that it handed back is the next one
  Ended : run.moment ≡ (view run.now).time → IsNeverClosed run.trace → ComesNext (view run.now) (view disk) → IsLeftBy view run disk

-- The first `done` commits of the trace were kept: each one that was acknowledged by that moment is among them, and of the others at most one
pub record AreKept (f : Setting) (contents : Contents) (trace : List Event) (moment done : ℕ) : Type 0 where
  pub all : (before later : List Event) (e : Event) → trace ≡ before ++ e ∷ later → IsTrue (is_acknowledged moment e.answer) → commits f contents (before ++ e ∷ []) ≤ done
  pub least : acknowledged moment trace ≤ done
  pub most : done ≤ acknowledged moment trace + 1
  pub there : done ≤ commits f contents trace

-- WHAT SURVIVES IS OPENED AGAIN: the disk may be opened, with the contents after some first commits of the run, among which is each acknowledged one
pub record IsOpenedAfter {D : Type 0} (view : D → DiskView) (schema : SchemaData) (contents : Contents) (run : PastRun D) (disk : D) : Type 0 where
  pub done : ℕ
  pub kept : AreKept (setting_of schema run) contents run.trace run.moment done
  pub opened : MayBeOpened schema (after_commits (setting_of schema run) contents run.trace done) (view disk)

-- ---- a whole history

-- A history: the disk as `create` handed it back, the runs in order, and the disk that is left
pub record History (D : Type 0) : Type 0 where
  pub schema : SchemaData
  pub made : D
  pub runs : List (PastRun D)
  pub last : D

-- the first run opens a disk that is left so, and each other one what the run before it left; each keeps its promise
abbrev pub AreRuns : {D : Type 0} → (D → DiskView) → SchemaData → (D → Type 0) → List (PastRun D) → D → Type 0
AreRuns view schema left [] last = left last
AreRuns view schema left (run ∷ runs) last = left run.was × (IsDurable view schema run × AreRuns view schema (IsLeftBy view run) runs last)

-- the database was created, and each run opened what was left
pub record IsHistory {D : Type 0} (view : D → DiskView) (history : History D) : Type 0 where
  pub made : IsMade history.schema (view history.made)
  pub runs : AreRuns view history.schema (λ disk. ComesNext (view history.made) (view disk)) history.runs history.last

-- NOTHING ACKNOWLEDGED IS LOST: the first run opens these contents, each other one those after the kept commits of the run before it, and so
-- does whoever opens the disk that is left; and each run's trace is legal from what it opened
abbrev pub NothingIsLost : {D : Type 0} → (D → DiskView) → SchemaData → Contents → List (PastRun D) → D → Type 0
NothingIsLost view schema contents [] last = MayBeOpened schema contents (view last)
NothingIsLost view schema contents (run ∷ runs) last =
    MayBeOpened schema contents (view run.was) × (IsLegal (setting_of schema run) contents run.trace
    × ((done : ℕ) × (AreKept (setting_of schema run) contents run.trace run.moment done × NothingIsLost view schema (after_commits (setting_of schema run) contents run.trace done) runs last)))
