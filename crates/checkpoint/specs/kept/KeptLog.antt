-- The log that slots with transactions keep.
use Rattle.std.specs.Prelude.{◌≡◌, ◌≢◌, ◌⊎◌, ℕ, ◌*◌, ◌%◌, ◌<◌, ◌≤◌, true, List, [], ◌++◌, Option, Some, None}
use Rattle.storage.specs.declared.slots.Undo.{Undo}
use Rattle.storage.specs.Slots.{wrote}
use Rattle.log_meaning.specs.steps.Steps.{Image}
use Rattle.log_meaning.specs.declared.note.Note.{Note}
use Rattle.log_meaning.specs.Recovered.{changes_of, recovered}
use Rattle.log_meaning.specs.Images.{Recovers}
use Rattle.log_meaning.specs.LogState.{notes_in, LogState, IsFilled}
use Rattle.log_meaning.specs.Logged.{Logged}
use Rattle.bi_log.specs.declared.log.Log.{Log}
use Rattle.bi_log.specs.Appending.{Held}
use Rattle.bi_log.specs.Logs.{Keeps}
use Rattle.checkpoint.specs.kept.Numbers.{is_live, undo_of, AreBelow}

-- each slot from the extent up to `filled` has a note, and no slot from there on
pub record IsFilledTo (extent filled : ℕ) (notes : List Note) : Type 0 where
  pub covered : (k : ℕ) → extent ≤ k → k < filled → changes_of k notes ≢ []
  pub uncovered : (k : ℕ) → filled ≤ k → changes_of k notes ≡ []

-- Each change that area 0 does not have yet has a note, which is in an open batch if its number is one of those that are settled.
abbrev pub AreNoted : (ℕ → Option ℕ) → ℕ → List Note → List Note → Type 0
AreNoted unwritten settled batches notes = (slot note : ℕ) → unwritten slot ≡ Some note → (changes_of slot notes ≢ []) × (note ≤ settled → changes_of slot batches ≢ [])

-- each change stays, or area 0 has it
abbrev pub Stay : (ℕ → Option ℕ) → (ℕ → Option ℕ) → Type 0
Stay before after = (slot : ℕ) → (after slot ≡ before slot) ⊎ (after slot ≡ None)

-- What is committed, what the slots read, the images that a crash now may leave, the log, the changes that area 0 does not have yet, and for each client the number of its transaction and its writes; then the generation, how many slots area 0 had as it was opened, how far slots past them have notes, and the serial number of the next transaction.
pub record KeptLog (committed reads : ℕ → List ℕ) (left : Image → Type 0) (log : Log) (unwritten : ℕ → Option ℕ) (number : ℕ → Option ℕ) (list : ℕ → List Undo) (generation extent filled serial : ℕ) : Type 0 where
  pub held : Held
  pub buffered : List Note
  -- area 0 as the generation was opened over it
  pub base : ℕ → List ℕ
  pub generation_is : held.generation ≡ generation
  pub keeps : Keeps log left held buffered
  -- each image has the settled notes, and area 0 as it was wherever a slot has none
  pub agrees : (image : Image) → left image → LogState log.area held.generation extent held.batches base image
  -- with those in the buffer they are as the transactions want them
  pub logged : Logged (notes_in held.batches ++ buffered) base committed reads (is_live number) (undo_of number list)
  -- the settled ones alone give what is committed
  pub settled : (slot : ℕ) → recovered (notes_in held.batches) base slot ≡ committed slot
  pub numbered : (c n : ℕ) → number c ≡ Some n → (n % 16 ≡ c) × (n < 16 * serial)
  pub below : AreBelow (16 * serial) (notes_in held.batches ++ buffered)
  pub settled_filled : IsFilled extent (notes_in held.batches)
  pub filled_to : IsFilledTo extent filled (notes_in held.batches ++ buffered)
  pub changes : AreNoted unwritten log.settled (notes_in held.batches) (notes_in held.batches ++ buffered)
  -- each slot that a client wrote has a note
  pub noted : (c slot : ℕ) → wrote (list c) slot ≡ true → changes_of slot (notes_in held.batches ++ buffered) ≢ []

-- at each moment after this one each image that a crash may leave recovers to these slots
abbrev pub Leaves : ℕ → (ℕ → Image → Type 0) → (ℕ → List ℕ) → Type 0
Leaves was after slots = (m : ℕ) (image : Image) → was < m → after m image → ∥ Recovers image slots ∥₁
