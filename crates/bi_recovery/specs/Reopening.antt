-- What `recover` does to an image.
use Rattle.std.specs.Prelude.{◌≡◌, ◌⊎◌, ℕ, ◌*◌, ◌<◌, Bool, true, List}
use Rattle.storage.specs.Disk.{Others}
use Rattle.storage.specs.declared.slots.Undo.{Undo}
use Rattle.storage.specs.Slots.{wrote, undone}
use Rattle.log_meaning.specs.steps.Steps.{Image}
use Rattle.log_meaning.specs.declared.note.Note.{Note}
use Rattle.log_meaning.specs.Recovered.{changes_of, given, recovered}
use Rattle.log_meaning.specs.LogState.{notes_in, MayWrite, LogState, HasGate, IsFilled}
use Rattle.log_meaning.specs.Images.{IsNewest, IsOpened, Recovers}
use Rattle.bi_log.specs.Appending.{Holds, fresh}
use Rattle.bi_recovery.specs.ReadNotes.{HoldsNotes}
use Rattle.bi_recovery.specs.NoteSlots.{AreRecovered}

-- the other areas do not change. This area holds the new generation, or each header that is open in it was open before
pub record StepsTo (area generation : ℕ) (old new : Image) : Type 0 where
  pub others : Others area old new
  pub either : Holds (new area) (fresh generation) ⊎ ((h : ℕ) → IsOpened (new area) h → IsOpened (old area) h)

-- the image recovers to what the other one recovers to
pub record SameRecovery (old new : Image) : Type 0 where
  pub to : (slots : ℕ → List ℕ) → Recovers old slots → Recovers new slots
  pub from : (slots : ℕ → List ℕ) → Recovers new slots → Recovers old slots

-- areas 0 to 2 are these
abbrev pub SameAreas : Image → Image → Type 0
SameAreas seen image = (k : ℕ) → k < 3 → image k ≡ seen k

-- these slots over any base are what the notes recover to over that base, and each of them may be written
pub record Gives (extent : ℕ) (batches : List (List Note)) (slots : List Undo) : Type 0 where
  pub are : (below : ℕ → List ℕ) (s : ℕ) → undone slots below s ≡ recovered (notes_in batches) below s
  pub may : (s : ℕ) → wrote slots s ≡ true → MayWrite extent batches (256 * s) 256

-- the log of the image is in this area, and has these notes
pub record LogIs (image : Image) (area generation : ℕ) (notes : List Note) : Type 0 where
  pub newest : IsNewest image area generation
  pub holds : HoldsNotes (image area) generation notes

-- the log of the image is in this area, and its notes recover to these slots
pub record IsReadAs (image : Image) (area generation : ℕ) (slots : List Undo) : Type 0 where
  pub notes : List Note
  pub log : LogIs image area generation notes
  pub are : AreRecovered notes slots

-- In every image, the log is in this area and the next gate is at this place. Whichever transactions are committed, each slot recovers to
-- these bytes. Each slot that has a note may be written to area 0.
pub record NewLog (left : Image → Type 0) (area generation extent gate : ℕ) (slots : ℕ → List ℕ) : Type 0 where
  pub batches : List (List Note)
  pub base : ℕ → List ℕ
  pub agrees : (image : Image) → left image → LogState area generation extent batches base image
  pub rests : (image : Image) → left image → HasGate (image area) generation batches gate
  pub recovers : (committed : ℕ → Bool) (s : ℕ) → given committed (base s) (changes_of s (notes_in batches)) ≡ slots s
  pub filled : IsFilled extent (notes_in batches)

-- Every image has a new log, and recovers to what that image recovered to.
pub record Reopens (seen : Image) (left : Image → Type 0) (area generation extent gate : ℕ) : Type 0 where
  pub slots : ℕ → List ℕ
  pub was : Recovers seen slots
  pub log : NewLog left area generation extent gate slots
