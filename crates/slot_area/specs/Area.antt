-- What slots read, some of them in memory and the others in area 0.
use Rattle.std.specs.Prelude.{◌≡◌, ◌⊎◌, ℕ, ◌*◌, ◌≤◌, nat_lt, Bool, ◌||◌, if◌then◌else◌, List, length, replicate, Option, Some, None, is_some}
use Rattle.std.specs.List.{list_any}
use Rattle.log_meaning.specs.declared.note.Note.{Note}
use Rattle.log_meaning.specs.Images.{slot_of}
use Rattle.log_meaning.specs.LogState.{HasNotesTo}
use Rattle.slot_area.specs.declared.frame.Frame.{Frame}
use Rattle.slot_area.specs.declared.slot_area.SlotArea.{SlotArea}
use Rattle.slot_area.specs.Frames.{note_of, is_free}
use Rattle.slot_area.specs.Held.{frame_in}

abbrev pub zeros : List ℕ
zeros = replicate 256 0

-- what a slot without a frame reads: area 0 below its end, zeros from there on
abbrev pub below : ℕ → List ℕ → ℕ → List ℕ
below end stored slot = if nat_lt slot end then slot_of stored slot else zeros

-- the bytes of the frame, if there is one
abbrev pub bytes_or : List ℕ → Option Frame → List ℕ
bytes_or otherwise None = otherwise
bytes_or otherwise (Some f) = f.bytes

-- what a slot reads, over these bytes of area 0
abbrev pub view : SlotArea → List ℕ → ℕ → List ℕ
view area stored slot = bytes_or (below area.end stored slot) (frame_in area.frames slot)

-- the number of the note of a changed slot: area 0 does not have its bytes yet
abbrev pub unwritten : SlotArea → ℕ → Option ℕ
unwritten area slot = note_of (frame_in area.frames slot)

-- these bytes of area 0 are those that the area has left there: each slot without a change is as it reads, and no slot below the end is missing
pub record IsKept (area : SlotArea) (stored : List ℕ) : Type 0 where
  pub unchanged : (slot : ℕ) → unwritten area slot ≡ None → view area stored slot ≡ below area.end stored slot
  pub there : 256 * area.end ≤ length stored

-- area 0 has zeros from the end on
abbrev pub IsWhole : ℕ → List ℕ → Type 0
IsWhole end stored = (slot : ℕ) → end ≤ slot → slot_of stored slot ≡ zeros

-- the slot has a frame, or a frame may be given to it
abbrev pub is_ready : SlotArea → ℕ → ℕ → Bool
is_ready area settled slot = is_some (frame_in area.frames slot) || list_any (is_free settled) area.frames.frames.items

-- each changed slot whose note is settled may be written to area 0
abbrev pub AreNoted : SlotArea → ℕ → ℕ → List (List Note) → Type 0
AreNoted area settled extent batches = (slot note : ℕ) → unwritten area slot ≡ Some note → note ≤ settled → HasNotesTo extent batches slot

-- the change of a slot stays, or area 0 has it
abbrev pub StaysOrEnds : (ℕ → Option ℕ) → (ℕ → Option ℕ) → ℕ → Type 0
StaysOrEnds before after slot = (after slot ≡ before slot) ⊎ (after slot ≡ None)
