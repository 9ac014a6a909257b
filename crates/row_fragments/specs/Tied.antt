-- Which row each slot belongs to, at the present and wherever changes may be undone to: what makes rows lie apart.
use Rattle.std.specs.Prelude.{◌≡◌, ◌⊎◌, ℕ, ◌==◌, if◌then◌else◌, false, List}
use Rattle.storage.specs.Slots.{SlotState}
use Rattle.row_fragments.specs.Fragments.{ends, kind_in, next_in}
use Rattle.row_fragments.specs.Calls.{Covers}

-- the bytes that a slot has, or would have again if writes were undone
abbrev pub IsValue : SlotState → ℕ → List ℕ → Type 0
IsValue s slot bytes = (bytes ≡ s.reads slot) ⊎ ((c : ℕ) × Covers (s.transaction c).undo slot bytes)

-- each slot has one of its values
abbrev pub IsMix : (ℕ → List ℕ → Type 0) → (ℕ → List ℕ) → Type 0
IsMix value slots = (slot : ℕ) → value slot (slots slot)

-- Whatever value each slot has: a first fragment belongs to the row that begins there, and the next fragment to the same row. `row_of` names the row, and is 0 for a free slot.
pub record IsTied (value : ℕ → List ℕ → Type 0) (row_of : ℕ → ℕ) : Type 0 where
  pub first : (slot : ℕ) (bytes : List ℕ) → value slot bytes → ends slot ≡ false → kind_in bytes ≡ 1 → row_of slot ≡ slot
  pub next : (slot : ℕ) (bytes : List ℕ) → value slot bytes → ends slot ≡ false → ends (next_in bytes) ≡ false → row_of (next_in bytes) ≡ row_of slot

-- the slot is a first fragment only of its own row, and points into its row
abbrev pub IsInRow : (ℕ → ℕ) → ℕ → List ℕ → Type 0
IsInRow row_of slot bytes = (kind_in bytes ≡ 1 → row_of slot ≡ slot) × (ends (next_in bytes) ≡ false → row_of (next_in bytes) ≡ row_of slot)

-- a slot that belongs to no row is free, whatever value it has
abbrev pub IsFreeAlone : (ℕ → List ℕ → Type 0) → (ℕ → ℕ) → Type 0
IsFreeAlone value row_of = (slot : ℕ) (bytes : List ℕ) → value slot bytes → ends slot ≡ false → row_of slot ≡ 0 → kind_in bytes ≡ 0

-- the slot belongs to this row, and the others to those that they did
abbrev pub given : (ℕ → ℕ) → ℕ → ℕ → ℕ → ℕ
given row_of at row k = if k == at then row else row_of k
