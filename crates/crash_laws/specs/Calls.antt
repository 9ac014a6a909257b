-- The history of a database with every call on it: runs, and the calls that keep its contents, as a dump and a refused command do.
use Rattle.std.specs.Prelude.{ℕ, ◌≤◌, List, [], ◌∷◌}
use Rattle.abl_values.specs.Schema.{SchemaData}
use Rattle.database_meaning.specs.declared.contents.Contents.{Contents}
use Rattle.database_meaning.specs.Traces.{IsLegal, IsSoundContents, after_commits}
use Rattle.log_meaning.specs.steps.Steps.{Image}
use Rattle.disk_database.specs.Images.{AreImagesOf, IsImageOf}
use Rattle.crash_laws.specs.Disks.{ComesNext, DiskView, IsAfterCrash, IsMade, MayBeOpened}
use Rattle.crash_laws.specs.History.{AreKept, IsDurable, IsLeftBy, PastRun, setting_of}

-- ---- a call that keeps the contents

-- A call that keeps the contents: the disk at its beginning and at its end, and the moment at which it crashed, or its last one
pub record KeptCall (D : Type 0) : Type 0 where
  pub was : D
  pub now : D
  pub moment : ℕ

-- what is proved of each such call (`KeepsContents` of `run_works`): whatever sound contents the disk held, a crash at any moment from its
-- beginning on leaves them
abbrev pub IsKeeping : {D : Type 0} → (D → DiskView) → SchemaData → KeptCall D → Type 0
IsKeeping view schema call =
    (contents : Contents) → IsSoundContents (record { schema = schema; clients = 0 }) contents
    → AreImagesOf (view call.was).observable (view call.was).time (view call.was).left schema contents
    → (m : ℕ) (image : Image) → (view call.was).time ≤ m → (view call.now).left m image → ∥ IsImageOf schema contents image ∥₁

-- what such a call leaves: at a crash, or at its end
pub data IsLeftByKept {D : Type 0} (view : D → DiskView) (call : KeptCall D) (disk : D) : Type 0 where
  -- it crashed at that moment, which is not before its beginning
  KeptCrashed : (view call.was).time ≤ call.moment → IsAfterCrash (view call.now) call.moment (view disk) → IsLeftByKept view call disk
  -- it ended, and the disk that it handed back is the next one
  KeptEnded : (view call.was).time ≤ (view call.now).time → ComesNext (view call.now) (view disk) → IsLeftByKept view call disk

-- ---- a whole history

-- a call on the database: a run of clients, of a bank too, or one that keeps the contents
pub data PastCall (D : Type 0) : Type 0 where
  Running : PastRun D → PastCall D
  Keeping : KeptCall D → PastCall D

-- the disk that the call was given
abbrev pub opened_by : {D : Type 0} → PastCall D → D
opened_by (Running run) = run.was
opened_by (Keeping call) = call.was

-- The history of a database: the disk as `create` handed it back, the calls in order, and the disk that is left
pub record CallHistory (D : Type 0) : Type 0 where
  pub schema : SchemaData
  pub made : D
  pub calls : List (PastCall D)
  pub last : D

-- the first call is over a disk that is left so, and each other one over what the call before it left; each keeps its promise
abbrev pub AreCalls : {D : Type 0} → (D → DiskView) → SchemaData → (D → Type 0) → List (PastCall D) → D → Type 0
AreCalls view schema left [] last = left last
AreCalls view schema left (Running run ∷ calls) last = left run.was × (IsDurable view schema run × AreCalls view schema (IsLeftBy view run) calls last)
AreCalls view schema left (Keeping call ∷ calls) last = left call.was × (IsKeeping view schema call × AreCalls view schema (IsLeftByKept view call) calls last)

-- the database was created, and each call was over what was left
pub record IsCallHistory {D : Type 0} (view : D → DiskView) (history : CallHistory D) : Type 0 where
  pub made : IsMade history.schema (view history.made)
  pub calls : AreCalls view history.schema (λ disk. ComesNext (view history.made) (view disk)) history.calls history.last

-- NOTHING ACKNOWLEDGED IS LOST: the first call is over these contents, each other one over those that the call before it left, and so is whoever
-- opens the disk that is left at last. A run leaves the contents after its kept commits, and its trace is legal from what it opened; every other
-- call leaves what it found
abbrev pub NothingIsLostIn : {D : Type 0} → (D → DiskView) → SchemaData → Contents → List (PastCall D) → D → Type 0
NothingIsLostIn view schema contents [] last = MayBeOpened schema contents (view last)
NothingIsLostIn view schema contents (Running run ∷ calls) last =
    MayBeOpened schema contents (view run.was) × (IsLegal (setting_of schema run) contents run.trace
    × ((done : ℕ) × (AreKept (setting_of schema run) contents run.trace run.moment done × NothingIsLostIn view schema (after_commits (setting_of schema run) contents run.trace done) calls last)))
NothingIsLostIn view schema contents (Keeping call ∷ calls) last = MayBeOpened schema contents (view call.was) × NothingIsLostIn view schema contents calls last
