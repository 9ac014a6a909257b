-- What the crashes of a run, and of a history, leave: images that are born.
use Rattle.std.specs.Prelude.{◌⊎◌, ℕ, ◌+◌, ◌<◌, ◌≤◌, List, [], ◌∷◌}
use Rattle.abl_values.specs.Schema.{SchemaData}
use Rattle.database_protocol.specs.declared.event.Event.{Event}
use Rattle.database_meaning.specs.declared.contents.Contents.{Contents}
use Rattle.database_meaning.specs.Setting.{Setting}
use Rattle.database_meaning.specs.Traces.{acknowledged, after_commits, commits}
use Rattle.log_meaning.specs.steps.Steps.{Image}
use Rattle.database_layout.specs.contents.Born.{IsBorn}
use Rattle.disk_database.specs.Images.{stored_contents}
use Rattle.crash_laws.specs.Calls.{KeptCall, Keeping, PastCall, Running}
use Rattle.crash_laws.specs.Disks.{DiskView}
use Rattle.crash_laws.specs.History.{AreKept, PastRun, setting_of}

-- ---- one run

-- the image is born with the contents after n commits, or after n + 1 where the trace has so many
abbrev pub IsBornFrom : Setting → Contents → List Event → ℕ → Image → Type 0
IsBornFrom f contents trace n image =
    IsBorn image (stored_contents f.schema (after_commits f contents trace n)) ⊎ ((n < commits f contents trace) × IsBorn image (stored_contents f.schema (after_commits f contents trace (n + 1))))

-- ---- a whole history

-- the image is born with these contents
abbrev pub IsBornWith : SchemaData → Contents → Image → Type 0
IsBornWith schema contents image = IsBorn image (stored_contents schema contents)

-- each image of each moment from the opening on is born with the contents after the commits that were acknowledged by then, or after one more
abbrev pub RunLeavesBorn : {D : Type 0} → (D → DiskView) → SchemaData → Contents → PastRun D → Type 0
RunLeavesBorn view schema contents run =
    (m : ℕ) (image : Image) → (view run.was).time ≤ m → (view run.now).left m image → ∥ IsBornFrom (setting_of schema run) contents run.trace (acknowledged m run.trace) image ∥₁

-- each image of each moment from the beginning of the call on is born with these contents
abbrev pub CallLeavesBorn : {D : Type 0} → (D → DiskView) → SchemaData → Contents → KeptCall D → Type 0
CallLeavesBorn view schema contents call = (m : ℕ) (image : Image) → (view call.was).time ≤ m → (view call.now).left m image → ∥ IsBornWith schema contents image ∥₁

-- EACH CRASH LEAVES A DATABASE: each image of each moment of each call is born; of a run with the contents after the commits that were acknowledged
-- by then, or after one more, counted from those that the run opened, and of every other call with those that it found. A run hands on the
-- contents after its kept commits. So the images of the disk that is left at last are born with what was kept of all runs
abbrev pub LeavesBorn : {D : Type 0} → (D → DiskView) → SchemaData → Contents → List (PastCall D) → D → Type 0
LeavesBorn view schema contents [] last = (image : Image) → (view last).left (view last).time image → ∥ IsBornWith schema contents image ∥₁
LeavesBorn view schema contents (Running run ∷ calls) last =
    RunLeavesBorn view schema contents run
    × ((done : ℕ) × (AreKept (setting_of schema run) contents run.trace run.moment done × LeavesBorn view schema (after_commits (setting_of schema run) contents run.trace done) calls last))
LeavesBorn view schema contents (Keeping call ∷ calls) last = CallLeavesBorn view schema contents call × LeavesBorn view schema contents calls last
