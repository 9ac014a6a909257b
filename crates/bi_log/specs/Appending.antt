-- How a log grows by a batch.
use Rattle.std.specs.Prelude.{◌≡◌, ◌⊎◌, ℕ, ◌<◌, List, [], ◌∷◌, ◌++◌, length}
use Rattle.storage.specs.Disk.{Others}
use Rattle.log_meaning.specs.steps.Steps.{Image}
use Rattle.log_meaning.specs.declared.note.Note.{Note}
use Rattle.log_meaning.specs.Bytes.{log_bytes, after_gate, IsBatch}
use Rattle.log_meaning.specs.Images.{HoldsLog}

-- a log: the number of its generation, and its open batches
pub record Held : Type 0 where
  pub generation : ℕ
  pub batches : List (List Note)

-- a log without batches
abbrev pub fresh : ℕ → Held
fresh generation = record { generation = generation; batches = [] }

-- one batch more
abbrev pub with_batch : Held → List Note → Held
with_batch log batch = record { generation = log.generation; batches = log.batches ++ batch ∷ [] }

abbrev pub Holds : List ℕ → Held → Type 0
Holds area log = HoldsLog area log.generation log.batches

-- the area holds this log, and the closed gate after its batches is at this place, within the area
pub record RestsAt (area : List ℕ) (held : Held) (gate : ℕ) : Type 0 where
  pub log : Holds area held
  pub at : gate ≡ length (log_bytes held.generation held.batches)
  pub there : gate < length area

-- this area holds this log, or with one batch more, and the other areas are as they were
pub record Appends (area : ℕ) (held : Held) (batch : List Note) (old new : Image) : Type 0 where
  pub others : Others area old new
  pub log : Holds (new area) held ⊎ Holds (new area) (with_batch held batch)

-- every image holds this log in this area, and these bytes, to be written after its closed gate, are this batch
pub record IsToBe (left : Image → Type 0) (area gate : ℕ) (bytes : List ℕ) (held : Held) (batch : List Note) : Type 0 where
  pub bytes_are : bytes ≡ after_gate batch
  pub sound : IsBatch batch
  pub rests : (image : Image) → left image → RestsAt (image area) held gate
