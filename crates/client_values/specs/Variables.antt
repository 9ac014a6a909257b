-- The states that have the variables and the buffers of a client.
use Rattle.std.specs.Prelude.{◌≡◌, length}
use Rattle.client_memory.specs.Memory.{Remembered}
pub use Rattle.client_memory.specs.Frames.{frames_out, state_with, AreEven}

-- the same procedures and copies; the values may differ
pub record HasSameShape (old new : Remembered) : Type 0 where
  pub copies : new.copies ≡ old.copies
  pub undoable : length new.undoable ≡ length old.undoable
  pub no_undo : length new.no_undo ≡ length old.no_undo
  pub buffers : length new.buffers ≡ length old.buffers
