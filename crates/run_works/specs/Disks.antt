-- What a call does to the disk, by the images that a crash at its moments may leave.
use Rattle.std.specs.Prelude.{◌≡◌, ℕ, ◌≤◌, Bool, true, IsTrue, List}
use Rattle.storage.specs.faults.Faults.{Rose}
use Rattle.abl_values.specs.Schema.{SchemaData}
use Rattle.storage.specs.Disk.{Stays}
use Rattle.storage.specs.declared.disk.Disk.{Ghosts}
use Rattle.database_protocol.specs.declared.event.Event.{Event}
use Rattle.database_meaning.specs.declared.contents.Contents.{Contents}
use Rattle.database_meaning.specs.Setting.{Setting}
use Rattle.database_meaning.specs.Traces.{IsLegal}
use Rattle.bi_log.specs.Lengths.{IsShort}
use Rattle.log_meaning.specs.steps.Steps.{Image}
use Rattle.disk_database.specs.declared.refusals.OpenRefusal.{OpenRefusal}
use Rattle.disk_database.specs.declared.refusals.OpenRefusal.TheVariants as opening
use Rattle.disk_database.specs.Answers.{IsBornOf, IsRefused, is_judgement}
use Rattle.disk_database.specs.Images.{AreImagesOf, IsImageOf, SurvivesCrashes}
use Rattle.run_report.specs.declared.refusal.Refusal.{Refusal}
use Rattle.run_report.specs.declared.refusal.Refusal.TheVariants.{Disk, NoMemory, NotCreated, SchemaDiffers}

-- A disk as contracts see it: whether its areas are observable, the moment, the bytes that reads give, the images that a crash at each
-- moment may leave, and how often a call has failed
pub record DiskState : Type 1 where
  pub observable : Bool
  pub time : ℕ
  pub seen : Image
  pub left : ℕ → Image → Type 0
  pub failures : ℕ

abbrev pub state_of : {D : Type 0} → Ghosts D → D → DiskState
state_of d disk = record { observable = d.observable disk; time = d.time disk; seen = d.seen disk; left = d.left disk; failures = d.failures disk }

-- THE PREMISE of all that is promised of contents: the disk is observable, and each image that a crash now may leave is that of a database
-- of this schema with these contents
abbrev pub HoldsContents : DiskState → SchemaData → Contents → Type 0
HoldsContents disk schema contents = AreImagesOf disk.observable disk.time disk.left schema contents

-- the disk, where it is observable, reads as an image that is born of this schema: it holds a database of it
abbrev pub ReadsAsDatabase : DiskState → SchemaData → Type 0
ReadsAsDatabase disk schema = IsTrue disk.observable → IsBornOf disk.seen schema

-- THE DISK IS UNTOUCHED: it reads as before, no write and no sync was made, and a crash leaves the same images at the same moments
abbrev pub IsUntouched : DiskState → DiskState → Type 0
IsUntouched old new = Stays old.observable new.observable old.seen new.seen old.time new.time old.left new.left

-- whatever contents of this schema the disk held, it holds at each moment from the call to its return
abbrev pub KeepsContents : SchemaData → DiskState → DiskState → Type 0
KeepsContents schema old new =
    (contents : Contents) → HoldsContents old schema contents → (m : ℕ) (image : Image) → old.time ≤ m → new.left m image → ∥ IsImageOf schema contents image ∥₁

-- where none of these images has an area of the log longer than 167,772,160 bytes, no image of a moment from `since` on has one
abbrev pub LogStaysShort : (Image → Type 0) → ℕ → (ℕ → Image → Type 0) → Type 0
LogStaysShort images since left = ((image : Image) → images image → IsShort image) → (m : ℕ) (image : Image) → since ≤ m → left m image → IsShort image

-- THE BOUND ON THE LOG. Where no image that a crash at the call may leave has an area 1 or 2 longer than 167,772,160 bytes, no image that a
-- crash at a moment from the call to its return may leave has one
abbrev pub KeepsLogShort : DiskState → DiskState → Type 0
KeepsLogShort old new = LogStaysShort (old.left old.time) old.time new.left

-- WHAT A RUN PROMISES OF THE DISK. Whatever contents it held, the trace is legal from these; and at each moment from the call to its return
-- a crash leaves them after the commits that were acknowledged by then, or after one more
abbrev pub IsDurable : Setting → List Event → DiskState → DiskState → Type 0
IsDurable f trace old new = (contents : Contents) → HoldsContents old f.schema contents → IsLegal f contents trace × SurvivesCrashes old.time new.time new.left f contents trace

-- the refusal of an opening, as a command reports it
abbrev pub opening_refusal : OpenRefusal → Refusal
opening_refusal opening.NotCreated = NotCreated
opening_refusal (opening.SchemaDiffers stored given) = SchemaDiffers stored given
opening_refusal opening.Disk = Disk
opening_refusal opening.NoMemory = NoMemory

-- why the database of this schema was not opened on the disk: by what its reads give, which is no database of any schema, or one of a schema with
-- another text (`IsRefused`), and Disk only where its count rose. Where the disk holds no database, or one of another schema, it is untouched
pub record IsNotOpened (schema : SchemaData) (old new : DiskState) (refusal : Refusal) : Type 0 where
  pub why : OpenRefusal
  pub is : refusal ≡ opening_refusal why
  pub cause : IsRefused schema old.observable old.seen why
  pub rose : why ≡ opening.Disk → Rose old.failures new.failures
  pub untouched : is_judgement why ≡ true → IsUntouched old new
