-- The log of an image while slots are written: its notes, and the bytes of area 0 below them.
use Rattle.std.specs.Prelude.{◌≡◌, ◌≢◌, ◌⊎◌, ℕ, ◌+◌, ◌*◌, ◌<◌, ◌≤◌, List, [], length}
use Rattle.std.specs.List.{flat_map}
use Rattle.storage.specs.Disk.{Others}
use Rattle.log_meaning.specs.steps.Steps.{Image}
use Rattle.log_meaning.specs.declared.note.Note.{Note}
use Rattle.log_meaning.specs.Bytes.{log_bytes}
use Rattle.log_meaning.specs.Images.{IsNewest, HoldsLog, slot_of}
use Rattle.log_meaning.specs.Recovered.{changes_of}

-- the notes of all batches
abbrev pub notes_in : List (List Note) → List Note
notes_in batches = flat_map (λ b. b) batches

-- The log of the image is in this area, with this generation and these batches. Area 0 has at least `extent` slots, and each slot without a note has the bytes `base` there.
pub record LogState (area generation extent : ℕ) (batches : List (List Note)) (base : ℕ → List ℕ) (image : Image) : Type 0 where
  pub newest : IsNewest image area generation
  pub log : HoldsLog (image area) generation batches
  pub there : 256 * extent ≤ length (image 0)
  pub below : (slot : ℕ) → changes_of slot (notes_in batches) ≡ [] → slot_of (image 0) slot ≡ base slot

-- the closed gate after the open batches is at this place, within the area
pub record HasGate (area : List ℕ) (generation : ℕ) (batches : List (List Note)) (gate : ℕ) : Type 0 where
  pub at : gate ≡ length (log_bytes generation batches)
  pub there : gate < length area

-- `n` bytes of area 0 may be written at `at`: each slot without a note ends before them and is one of the slots that area 0 had when the generation was opened, or begins after them.
abbrev pub MayWrite : ℕ → List (List Note) → ℕ → ℕ → Type 0
MayWrite extent batches at n = (slot : ℕ) → changes_of slot (notes_in batches) ≡ [] → ((slot < extent) × (256 * slot + 256 ≤ at)) ⊎ (at + n ≤ 256 * slot)

-- The rule for the write of a slot: it has a note, and so has each slot before it that area 0 did not have when the generation was opened.
pub record HasNotesTo (extent : ℕ) (batches : List (List Note)) (slot : ℕ) : Type 0 where
  pub own : changes_of slot (notes_in batches) ≢ []
  pub gap : (k : ℕ) → extent ≤ k → k < slot → changes_of k (notes_in batches) ≢ []

-- Where a slot has a note, so has each slot before it that area 0 did not have when the generation was opened.
abbrev pub IsFilled : ℕ → List Note → Type 0
IsFilled extent notes = (slot k : ℕ) → changes_of slot notes ≢ [] → extent ≤ k → k < slot → changes_of k notes ≢ []

-- the other areas stay, area 0 gets no shorter, and each slot without a note stays
pub record WritesNoted (batches : List (List Note)) (old new : Image) : Type 0 where
  pub others : Others 0 old new
  pub no_shorter : length (old 0) ≤ length (new 0)
  pub same : (slot : ℕ) → changes_of slot (notes_in batches) ≡ [] → slot_of (new 0) slot ≡ slot_of (old 0) slot
