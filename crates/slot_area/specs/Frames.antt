-- The slots that are in memory.
use Rattle.std.specs.Prelude.{◌≡◌, ◌≢◌, ◌⊎◌, ℕ, zero, suc, ◌+◌, ◌==◌, nat_le, Bool, true, if◌then◌else◌, List, Option, Some, None, get_or, slice_get}
use Rattle.slot_area.specs.declared.frame.Frame.{Frame}

-- the number of the note of a change that area 0 does not have, if there is a frame with one
abbrev pub note_of : Option Frame → Option ℕ
note_of None = None
note_of (Some f) = f.note

-- the frame may be given to another slot: area 0 has its bytes, or the note of its change is settled
abbrev pub is_settled : ℕ → Option ℕ → Bool
is_settled settled None = true
is_settled settled (Some note) = nat_le note settled

abbrev pub is_free : ℕ → Frame → Bool
is_free settled f = is_settled settled f.note

-- the frame, if it has this slot
abbrev pub with_slot : ℕ → Option Frame → Option Frame
with_slot slot None = None
with_slot slot (Some f) = if f.slot == slot then Some f else None

-- the frame at this place, where places count from 1 and 0 is none
abbrev pub frame_at : List Frame → ℕ → Option Frame
frame_at frames zero = None
frame_at frames (suc i) = slice_get frames i

-- the frame of the slot: the one at its place in the table, if that frame has the slot
abbrev pub frame_of : List Frame → List ℕ → ℕ → Option Frame
frame_of frames places slot = with_slot slot (frame_at frames (get_or places slot 0))

-- each changed frame is the frame of its slot
abbrev pub ArePlaced : List Frame → List ℕ → Type 0
ArePlaced frames places = (i : ℕ) (f : Frame) (note : ℕ) → slice_get frames i ≡ Some f → f.note ≡ Some note → get_or places f.slot 0 ≡ i + 1

-- The frame of the slot becomes this one. Each other slot loses its frame only where it has no change.
pub record Sets (slot : ℕ) (frame : Frame) (before after : ℕ → Option Frame) : Type 0 where
  pub here : after slot ≡ Some frame
  pub others : (k : ℕ) → k ≢ slot → (after k ≡ before k) ⊎ ((after k ≡ None) × (note_of (before k) ≡ None))

-- the same frames but the one at this place
abbrev pub SameBut : ℕ → List Frame → List Frame → Type 0
SameBut index before after = (i : ℕ) → i ≢ index → slice_get after i ≡ slice_get before i
