-- What the slots that were written mean; each other slot has zeros.
use Rattle.std.specs.Prelude.{◌≡◌, ℕ, ◌<◌, ◌==◌, ◌||◌, Bool, true, false, List, [], ◌∷◌, Option, Some, None, length, get_or, replicate, nat_eq, is_some}
use Rattle.std.specs.HashMap.{HashMap, get}
use Rattle.storage.specs.declared.slots.Undo.{Undo}
use Rattle.new_database.specs.declared.slots.slot.Slot.{Slot}

-- the bytes of a slot that was never written
unfoldable pub zeros : List ℕ
zeros = replicate 256 0

-- a part of a slot, or zeros where it was never written
abbrev pub part_of : (Slot → List ℕ) → Option Slot → List ℕ
part_of part None = zeros
part_of part (Some s) = part s

-- whether the slot is among these
abbrev pub has_written : List ℕ → ℕ → Bool
has_written [] k = false
has_written (slot ∷ slots) k = (k == slot) || has_written slots k

abbrev pub no_undo : Undo
no_undo = record { slot = 0; old = [] }

module _ {S : Type 0} where
  -- what reads give
  abbrev pub slot_in : HashMap ℕ Slot S → ℕ → List ℕ
  slot_in slots k = part_of (λ s. s.now) (get nat_eq slots k)

  -- what the committed transactions left
  abbrev pub committed_in : HashMap ℕ Slot S → ℕ → List ℕ
  committed_in slots k = part_of (λ s. s.committed) (get nat_eq slots k)

  -- the slot has a place
  abbrev pub holds : HashMap ℕ Slot S → ℕ → Bool
  holds slots k = is_some (get nat_eq slots k)

  -- the slot of each of these writes has a place
  abbrev pub AllHeld : HashMap ℕ Slot S → List Undo → Type 0
  AllHeld slots writes = (i : ℕ) → i < length writes → holds slots (get_or writes i no_undo).slot ≡ true
