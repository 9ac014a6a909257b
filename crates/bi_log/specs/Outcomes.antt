-- The answers of a reader, and what each means of the area.
use Rattle.std.specs.Prelude.{◌≡◌, ℕ, ◌+◌, ◌-◌, ◌<◌, ◌≤◌, ◌^◌, List, [], ◌∷◌, ◌++◌, length, Option, Some, None}
use Rattle.log_meaning.specs.declared.note.Note.{Note}
use Rattle.log_meaning.specs.Bytes.{note_bytes}
use Rattle.log_meaning.specs.Images.{IsOpened, IsNewest, HoldsLog}
use Rattle.bi_log.specs.declared.header.Header.{Header}
use Rattle.bi_log.specs.declared.reader.AtGate.{AtGate}
use Rattle.bi_log.specs.declared.reader.AtGate.TheVariants.{Open, Closed, Broken}
use Rattle.bi_log.specs.Appending.{Held, with_batch}
use Rattle.bi_log.specs.Reading.{HasBatches, gate_of, IsInside, IsBroken}

-- at an open gate a batch begins, and at a closed one the log ends; otherwise the bytes of the log are no notes
abbrev pub GateAnswer : List ℕ → Held → AtGate → Type 0
GateAnswer area log (Open n) = IsInside area log [] (gate_of log + 5) n
GateAnswer area log Closed = HoldsLog area log.generation log.batches
GateAnswer area log Broken = IsBroken area log

-- a batch has at least one byte of notes and at most 2^20
abbrev pub IsFewBytes : AtGate → Type 0
IsFewBytes (Open n) = (1 ≤ n) × (n ≤ 2 ^ 20)
IsFewBytes Closed = Unit {0}
IsFewBytes Broken = Unit {0}

-- one note more, after which the batch continues or is whole; without a note the bytes of the log are no notes
abbrev pub NoteAnswer : List ℕ → Held → List Note → ℕ → ℕ → Option Note → Type 0
NoteAnswer area log part at left (Some n) =
    (length (note_bytes n) < left → IsInside area log (part ++ n ∷ []) (at + length (note_bytes n)) (left - length (note_bytes n)))
    × (length (note_bytes n) ≡ left → HasBatches area (with_batch log (part ++ n ∷ [])) × (at + length (note_bytes n) ≡ gate_of (with_batch log (part ++ n ∷ []))))
NoteAnswer area log part at left None = IsBroken area log

-- the area has this open header, or none
abbrev pub HeaderAnswer : List ℕ → Option Header → Type 0
HeaderAnswer area (Some h) = IsOpened area h.generation
HeaderAnswer area None = (generation : ℕ) → IsOpened area generation → ⊥

-- the log of the image is in this area and has this header, or no area has an open one
abbrev pub FindAnswer : (ℕ → List ℕ) → Option (ℕ × Header) → Type 0
FindAnswer image (Some found) = IsNewest image (found.0) (found.1).generation × IsOpened (image (found.0)) (found.1).generation
FindAnswer image None = ((generation : ℕ) → IsOpened (image 1) generation → ⊥) × ((generation : ℕ) → IsOpened (image 2) generation → ⊥)
