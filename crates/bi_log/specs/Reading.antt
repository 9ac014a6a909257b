-- What any bytes mean as a log, and how far they have been read.
use Rattle.std.specs.Prelude.{◌≡◌, ◌⊎◌, ℕ, ◌+◌, ◌<◌, ◌≤◌, ◌^◌, List, [], ◌∷◌, length, take, All}
use Rattle.std.specs.List.{flat_map}
use Rattle.storage.specs.Disk.{Reads}
use Rattle.log_meaning.specs.declared.note.Note.{Note}
use Rattle.log_meaning.specs.Bytes.{four, note_bytes, log_bytes, IsNote, IsBatch}
use Rattle.log_meaning.specs.Images.{IsOpened, HoldsLog}
use Rattle.bi_log.specs.Appending.{Held}

-- the bytes begin with this note, which has at most `left` bytes
pub record BeginsWith (bytes : List ℕ) (left : ℕ) (n : Note) : Type 0 where
  pub sound : IsNote n
  pub within : length (note_bytes n) ≤ left
  pub is : take (length (note_bytes n)) bytes ≡ note_bytes n

-- the area has an open header and these open batches, whatever follows
pub record HasBatches (area : List ℕ) (log : Held) : Type 0 where
  pub opened : IsOpened area log.generation
  pub reads : Reads area 0 (log_bytes log.generation log.batches)
  pub sound : All IsBatch log.batches

-- the place of the gate after these batches
abbrev pub gate_of : Held → ℕ
gate_of log = length (log_bytes log.generation log.batches)

-- one more batch has begun after these: these of its notes have been read, and `left` of its bytes are left
pub record IsInside (area : List ℕ) (log : Held) (part : List Note) (at left : ℕ) : Type 0 where
  pub some : 0 < left
  pub few : length (flat_map note_bytes part) + left ≤ 2 ^ 20
  pub gate : Reads area (gate_of log) (1 ∷ four (length (flat_map note_bytes part) + left))
  pub reads : Reads area (gate_of log + 5) (flat_map note_bytes part)
  pub at_is : at ≡ gate_of log + 5 + length (flat_map note_bytes part)
  pub sound : All IsNote part

-- the area has been read to this place: these batches, and these notes of the next one
pub record HasRead (area : List ℕ) (log : Held) (part : List Note) (at left : ℕ) : Type 0 where
  pub before : HasBatches area log
  pub place : ((left ≡ 0) × (part ≡ []) × (at ≡ gate_of log)) ⊎ IsInside area log part at left

-- the bytes of the log are no notes: some bytes of an open batch are no note
abbrev pub IsBroken : List ℕ → Held → Type 0
IsBroken area log = (batches : List (List Note)) → HoldsLog area log.generation batches → ⊥
