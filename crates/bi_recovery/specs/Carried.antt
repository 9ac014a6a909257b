-- The notes that a new generation carries over a gap.
use Rattle.std.specs.Prelude.{◌≡◌, ◌⊎◌, ℕ, zero, suc, List, [], ◌∷◌, ◌++◌}
use Rattle.storage.specs.Disk.{Others}
use Rattle.log_meaning.specs.steps.Steps.{Image}
use Rattle.log_meaning.specs.declared.note.Note.{Note}
use Rattle.log_meaning.specs.declared.note.Note.TheVariants.{Change as Changed}
use Rattle.log_meaning.specs.LogState.{notes_in}
use Rattle.log_meaning.specs.Images.{IsOpened}
use Rattle.bi_log.specs.Appending.{Held, RestsAt}
use Rattle.bi_log.specs.Generations.{IsPrepared}
use Rattle.bi_recovery.specs.ReadNotes.{HoldsNotes}

-- a note of a slot with the same bytes before and after
abbrev pub still : (ℕ → List ℕ) → ℕ → Note
still slots s = Changed (record { tx = 0; slot = s; old = slots s; new = slots s })

-- those of the first n slots
abbrev pub stills : (ℕ → List ℕ) → ℕ → List Note
stills slots zero = []
stills slots (suc n) = stills slots n ++ still slots n ∷ []

-- in every image the area is prepared for a log of this generation with these notes
pub record IsCarried (left : Image → Type 0) (area gate generation : ℕ) (notes : List Note) : Type 0 where
  pub held : Held
  pub is_generation : held.generation ≡ generation
  pub prepared : (image : Image) → left image → IsPrepared (image area) held gate
  pub are : notes ≡ notes_in held.batches

-- every image holds a log of this generation with these notes, and its next gate is there
pub record IsOpenLog (left : Image → Type 0) (area gate generation : ℕ) (notes : List Note) : Type 0 where
  pub held : Held
  pub is_generation : held.generation ≡ generation
  pub rests : (image : Image) → left image → RestsAt (image area) held gate
  pub are : notes ≡ notes_in held.batches

-- the other areas stay, and this one holds a log of this generation with these notes, or has an open header only where it had one
pub record CarriesTo (area generation : ℕ) (notes : List Note) (old new : Image) : Type 0 where
  pub others : Others area old new
  pub either : HoldsNotes (new area) generation notes ⊎ ((h : ℕ) → IsOpened (new area) h → IsOpened (old area) h)
