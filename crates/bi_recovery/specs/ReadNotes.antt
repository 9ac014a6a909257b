-- What reading all notes of a log means.
use Rattle.std.specs.Prelude.{◌≡◌, ℕ, List, ◌++◌, Option, Some, None, Vec}
use Rattle.std.specs.declared.alloc.Global.{Global}
use Rattle.log_meaning.specs.declared.note.Note.{Note}
use Rattle.log_meaning.specs.Images.{HoldsLog}
use Rattle.log_meaning.specs.LogState.{notes_in}
use Rattle.bi_log.specs.Appending.{Held}
use Rattle.bi_log.specs.Reading.{HasRead}

-- the area has been read to this place: these notes
pub record HasReadTo (area : List ℕ) (generation at left : ℕ) (notes : List Note) : Type 0 where
  pub log : Held
  pub part : List Note
  pub is_generation : log.generation ≡ generation
  pub read : HasRead area log part at left
  pub are : notes ≡ notes_in log.batches ++ part

-- the area holds a log with these notes
pub record HoldsNotes (area : List ℕ) (generation : ℕ) (notes : List Note) : Type 0 where
  pub batches : List (List Note)
  pub log : HoldsLog area generation batches
  pub are : notes ≡ notes_in batches

-- these are all its notes, or the bytes of the log are no notes
abbrev pub ReadAnswer : List ℕ → ℕ → Option (Vec Note Global) → Type 0
ReadAnswer area generation (Some notes) = HoldsNotes area generation notes.items
ReadAnswer area generation None = (batches : List (List Note)) → HoldsLog area generation batches → ⊥
