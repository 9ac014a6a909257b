-- What the images that a crash may leave hold, and what of it survives.
use Rattle.std.specs.Prelude.{◌≡◌, ◌⊎◌, ℕ, ◌+◌, ◌<◌, ◌≤◌, Bool, List, [], map, IsTrue}
use Rattle.std.specs.FinMap.{get}
use Rattle.abl_values.specs.Schema.{SchemaData, canonical_text}
use Rattle.database_protocol.specs.declared.event.Event.{Event}
use Rattle.database_meaning.specs.declared.contents.Contents.{Contents}
use Rattle.database_meaning.specs.Setting.{Setting}
use Rattle.database_meaning.specs.Waiting.{IsAscending}
use Rattle.database_meaning.specs.Traces.{acknowledged, after_commits, commits, identity_of, rows_of}
use Rattle.db_core.specs.Crashes.{AreMoments, Holds}
use Rattle.row_fragments.specs.Chains.{AreChains}
use Rattle.sequence_slots.specs.Values.{HoldValues}
use Rattle.slot_rows.specs.Durable.{durable_in}
use Rattle.database_layout.specs.stored_text.Held.{HoldText}
use Rattle.database_layout.specs.contents.Contents.{initial_values}
use Rattle.database_layout.specs.contents.Contents as stored
use Rattle.log_meaning.specs.steps.Steps.{Image}
use Rattle.log_meaning.specs.Images.{Recovers}
use Rattle.slot_txn.specs.logged.Stops.{IsRecoverable, StayRecoverable}
use Rattle.bi_log.specs.Lengths.{StayShort}
use Rattle.disk_database.specs.Parts.{LeaveUnused}

-- the slots hold these rows and sequence values, the text of the schema byte for byte, and the values so too; each slot for rows is free or
-- in the chain of just one row, and what belongs to nothing is zeros
pub record AreSlotsOf (schema : SchemaData) (contents : Contents) (slots : ℕ → List ℕ) : Type 0 where
  pub holds : Holds (durable_in schema slots) contents
  pub text : HoldText slots (canonical_text schema)
  pub values : HoldValues slots contents.sequences
  pub chains : ∥ AreChains slots ∥₁
  pub unused : LeaveUnused schema slots

-- the image recovers to slots, and what it recovers to are these contents
pub record IsImageOf (schema : SchemaData) (contents : Contents) (image : Image) : Type 0 where
  pub some : IsRecoverable image
  pub each : (slots : ℕ → List ℕ) → Recovers image slots → AreSlotsOf schema contents slots

-- each of these images is one of these contents
abbrev pub AllAreOf : SchemaData → Contents → (Image → Type 0) → Type 0
AllAreOf schema contents images = (image : Image) → images image → IsImageOf schema contents image

-- the disk is observable, and each image that a crash now may leave is one of these contents, whose rows ascend
pub record AreImagesOf (observable : Bool) (now : ℕ) (left : ℕ → Image → Type 0) (schema : SchemaData) (contents : Contents) : Type 0 where
  pub seen : IsTrue observable
  pub ascending : IsAscending (map identity_of contents.rows)
  pub all : (image : Image) → left now image → IsImageOf schema contents image

-- each image that a crash at a moment from `was` on may leave recovers only to what an image of the moment `was` recovered to
abbrev pub RecoversAsBefore : ℕ → (ℕ → Image → Type 0) → (ℕ → Image → Type 0) → Type 0
RecoversAsBefore was before after =
    (m : ℕ) (image : Image) (slots : ℕ → List ℕ) → was ≤ m → after m image → Recovers image slots → (old : Image) × before was old × Recovers old slots

-- each image that a crash at a moment from `since` on may leave recovers only to what an image of that moment recovers to, or to chains of rows
abbrev pub RecoversToChains : ℕ → (ℕ → Image → Type 0) → Type 0
RecoversToChains since left =
    (m : ℕ) (image : Image) (slots : ℕ → List ℕ) → since ≤ m → left m image → Recovers image slots → ∥ ((old : Image) × left since old × Recovers old slots) ⊎ AreChains slots ∥₁

-- an image recovered to slots with the rows and sequence values of these
pub record ComesFrom (schema : SchemaData) (before : Image → Type 0) (slots : ℕ → List ℕ) : Type 0 where
  pub old : Image
  pub there : before old
  pub other : ℕ → List ℕ
  pub recovers : Recovers old other
  pub same : durable_in schema slots ≡ durable_in schema other

-- each image that a crash at a moment from `was` on may leave recovers only to rows and sequence values to which an image of the moment `was`
-- recovered
abbrev pub HoldsAsBefore : SchemaData → ℕ → (ℕ → Image → Type 0) → (ℕ → Image → Type 0) → Type 0
HoldsAsBefore schema was before after =
    (m : ℕ) (image : Image) (slots : ℕ → List ℕ) → was ≤ m → after m image → Recovers image slots → ∥ ComesFrom schema (before was) slots ∥₁

-- The disk handed back is observable where it was, its moment is no earlier, each image from the call on recovers only to what an image at the
-- call recovered to, and where the images at the call recover, or have a short log, they all do
pub record IsGivenBack (was_observable observable : Bool) (was now : ℕ) (before after : ℕ → Image → Type 0) : Type 0 where
  pub same_observable : observable ≡ was_observable
  pub later : was ≤ now
  pub images : RecoversAsBefore was before after
  pub recoverable : StayRecoverable after was
  pub short : StayShort after was

-- each of these images recovers to slots
abbrev pub AllRecover : (Image → Type 0) → Type 0
AllRecover left = (image : Image) → left image → IsRecoverable image

-- the image is one of the contents after n commits, or after n + 1 where the trace has so many
abbrev pub IsImageFrom : Setting → Contents → List Event → ℕ → Image → Type 0
IsImageFrom f contents trace n image =
    IsImageOf f.schema (after_commits f contents trace n) image ⊎ ((n < commits f contents trace) × IsImageOf f.schema (after_commits f contents trace (n + 1)) image)

-- At each moment from `from` on each image is one of the contents after the commits acknowledged by then, or after one more. The moments of
-- commits never fall
pub record SurvivesCrashes (from now : ℕ) (left : ℕ → Image → Type 0) (f : Setting) (contents : Contents) (trace : List Event) : Type 0 where
  pub each : (m : ℕ) (image : Image) → from ≤ m → left m image → ∥ IsImageFrom f contents trace (acknowledged m trace) image ∥₁
  pub moments : AreMoments from trace now

-- these contents as an image is born with them (`database_layout::contents`)
abbrev pub stored_contents : SchemaData → Contents → stored.Contents
stored_contents schema contents = record { text = canonical_text schema; rows = λ row. get (rows_of contents.rows) row; values = contents.sequences }

-- the contents of a new database: no rows, and each sequence at its initial value
abbrev pub created : SchemaData → Contents
created schema = record { rows = []; sequences = initial_values schema }
