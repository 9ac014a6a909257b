-- A disk as a law sees it, what a crash or a creation makes of it, and that it may be opened.
use Rattle.std.specs.Prelude.{◌≡◌, ℕ, ◌≤◌, Bool, List, length, IsTrue}
use Rattle.abl_values.specs.Schema.{SchemaData, canonical_text}
use Rattle.abl_values.specs.Sound.{IsSound}
use Rattle.schema_text.specs.Written.{IsHeld}
use Rattle.storage.specs.declared.disk.Disk.{Ghosts}
use Rattle.database_meaning.specs.declared.contents.Contents.{Contents}
use Rattle.database_meaning.specs.Traces.{IsSoundContents}
use Rattle.log_meaning.specs.steps.Steps.{Image, Run}
use Rattle.database_layout.specs.creation.Created.{CreatesNew}
use Rattle.log_meaning.specs.Images.{Recovers}
use Rattle.database_layout.specs.contents.Born.{IsBorn}
use Rattle.database_layout.specs.contents.Contents.{new_contents}
use Rattle.disk_database.specs.Answers.{IsRefused}
use Rattle.disk_database.specs.Images.{AreImagesOf}
use Rattle.disk_database.specs.declared.refusals.OpenRefusal.TheVariants.{NotCreated, SchemaDiffers}

-- a disk: whether its areas are observable, the moment, what reads give, and the images that a crash at each moment may leave
pub record DiskView : Type 1 where
  pub observable : Bool
  pub time : ℕ
  pub seen : Image
  pub left : ℕ → Image → Type 0

abbrev pub view_of : {D : Type 0} → Ghosts D → D → DiskView
view_of d disk = record { observable = d.observable disk; time = d.time disk; seen = d.seen disk; left = d.left disk }

-- a crash at this moment made this disk of that one: it reads an image that the crash may leave, and another crash before any call leaves the
-- same image
pub record IsAfterCrash (before : DiskView) (moment : ℕ) (disk : DiskView) : Type 0 where
  pub observable : IsTrue disk.observable
  pub there : before.left moment disk.seen
  pub again : (image : Image) → disk.left disk.time image → image ≡ disk.seen

-- the disk comes after that one with no call between, with a crash or without: what it reads, and each image that a crash may leave, was an
-- image that a crash might leave then
pub record ComesNext (before disk : DiskView) : Type 0 where
  pub observable : IsTrue disk.observable
  pub there : before.left before.time disk.seen
  pub images : (image : Image) → disk.left disk.time image → before.left before.time image

-- `create` answered Ok (`disk_database`): each image that a crash may leave is born of the schema, which is sound and one that a `Schema` can hold,
-- as that of each file is, and whose text is short enough
pub record IsMade (schema : SchemaData) (disk : DiskView) : Type 0 where
  pub sound : IsSound schema
  pub held : IsHeld schema
  pub short : length (canonical_text schema) ≤ 1048576
  pub born : (image : Image) → disk.left disk.time image → IsBorn image (new_contents schema)

-- What `create` promises of its moments, whatever it answers, over a disk that holds nothing: no image at the call recovers to slots, and what
-- an image of a later moment recovers to is the new database
pub record IsBeingMade (schema : SchemaData) (was now : DiskView) : Type 0 where
  pub short : length (canonical_text schema) ≤ 1048576
  pub empty : (image : Image) (slots : ℕ → List ℕ) → was.left was.time image → Recovers image slots → ⊥
  pub creates : Run was.time now.time was.left now.left (CreatesNew schema)

-- The disk meets the premise of a run: the contents are sound, and each image that a crash may leave holds them, with the text of the schema. And
-- `open` never refuses it for what it holds: it does not answer NotCreated, nor SchemaDiffers
pub record MayBeOpened (schema : SchemaData) (contents : Contents) (disk : DiskView) : Type 0 where
  pub sound : IsSoundContents (record { schema = schema; clients = 0 }) contents
  pub holds : AreImagesOf disk.observable disk.time disk.left schema contents
  pub created : IsRefused schema disk.observable disk.seen NotCreated → ⊥
  pub same : (stored given : List ℕ) → IsRefused schema disk.observable disk.seen (SchemaDiffers stored given) → ⊥
