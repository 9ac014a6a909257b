-- Notes that are carried into a new generation before it is opened.
use Rattle.std.specs.Prelude.{◌≡◌, ℕ, List, ◌++◌}
use Rattle.log_meaning.specs.steps.Steps.{Image}
use Rattle.log_meaning.specs.declared.note.Note.{Note}
use Rattle.log_meaning.specs.LogState.{notes_in}
use Rattle.bi_log.specs.declared.note_buffer.NoteBuffer.{NoteBuffer}
use Rattle.bi_log.specs.Appending.{Held}
use Rattle.bi_log.specs.Generations.{IsPrepared}
use Rattle.bi_log.specs.Logs.{HasNotes}

-- in every image the area is prepared for a log of this generation, whose notes and those of the buffer are these
pub record Carries (left : Image → Type 0) (area gate : ℕ) (buffer : NoteBuffer) (generation : ℕ) (notes : List Note) : Type 0 where
  pub held : Held
  pub buffered : List Note
  pub is_generation : held.generation ≡ generation
  pub has : HasNotes buffer buffered
  pub prepared : (image : Image) → left image → IsPrepared (image area) held gate
  pub are : notes ≡ notes_in held.batches ++ buffered
