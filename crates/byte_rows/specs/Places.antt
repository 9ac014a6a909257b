-- Which row each slot belongs to, the slot before it in the row, and the client that changes it.
use Rattle.std.specs.Prelude.{◌≡◌, ◌≢◌, ◌⊎◌, ℕ, ◌+◌, true, false, List, [], ◌∷◌, get_or}
use Rattle.storage.specs.Slots.{SlotState, IsReadable, wrote}
use Rattle.row_fragments.specs.Fragments.{ends, kind_in, next_in}
use Rattle.row_fragments.specs.Tied.{IsValue}
use Rattle.byte_rows.specs.declared.places.Place.{Place}

-- what is known of a free slot
abbrev pub no_place : Place
no_place = record { row = 0; previous = 0; owner = 0 }

-- what is known of a slot; past the end of the list it is free
abbrev pub place_in : List Place → ℕ → Place
place_in places slot = get_or places slot no_place

-- the row that a slot belongs to, 0 where it is free
abbrev pub row_in : List Place → ℕ → ℕ
row_in places slot = (place_in places slot).row

-- the slot before it in the row, 0 at the first
abbrev pub previous_in : List Place → ℕ → ℕ
previous_in places slot = (place_in places slot).previous

-- the client whose transaction changed the slot, counted from 1, or 0
abbrev pub owner_in : List Place → ℕ → ℕ
owner_in places slot = (place_in places slot).owner

-- the slot is free and has no owner, or it follows `previous` in the row and no other client changes it
abbrev pub IsReady : Place → ℕ → ℕ → ℕ → Type 0
IsReady place row previous owner =
    ((place.row ≡ 0) × (place.owner ≡ 0)) ⊎ ((place.row ≡ row) × (place.previous ≡ previous) × ((place.owner ≡ 0) ⊎ (place.owner ≡ owner)))

-- each is a slot for rows, and is ready to follow the one before it in the list
abbrev pub AreReady : List Place → List ℕ → ℕ → ℕ → ℕ → Type 0
AreReady places [] row previous owner = Unit {0}
AreReady places (at ∷ rest) row previous owner =
    (ends at ≡ false) × IsReady (place_in places at) row previous owner × AreReady places rest row at owner

-- these slots are the row's, in this order, and the client changes them
abbrev pub AreLaid : List Place → List ℕ → ℕ → ℕ → ℕ → Type 0
AreLaid places [] row previous owner = Unit {0}
AreLaid places (at ∷ rest) row previous owner =
    (place_in places at ≡ record { row = row; previous = previous; owner = owner }) × AreLaid places rest row at owner

-- Bytes fit what is known of their slot: a first fragment belongs to its own row, the next slot belongs to the same row and comes after this one, and a free slot holds nothing.
pub record Fits (places : List Place) (slot : ℕ) (bytes : List ℕ) : Type 0 where
  pub first : kind_in bytes ≡ 1 → row_in places slot ≡ slot
  pub next : ends (next_in bytes) ≡ false → row_in places (next_in bytes) ≡ row_in places slot
  pub after : ends (next_in bytes) ≡ false → previous_in places (next_in bytes) ≡ slot
  pub free : row_in places slot ≡ 0 → kind_in bytes ≡ 0

-- no slot for rows holds anything
abbrev pub HoldNothing : (ℕ → List ℕ) → Type 0
HoldNothing slots = (k : ℕ) → ends k ≡ false → kind_in (slots k) ≡ 0

-- The invariant of the slots for rows. A slot that a begun transaction wrote, or that an undo would restore, is recorded as its client's. A
-- transaction that is not begun has nothing to undo. Each value that a slot has, or may have again after an undo, fits.
pub record IsKept (s : SlotState) (places : List Place) : Type 0 where
  pub owned : (c k : ℕ) → ends k ≡ false → (s.transaction c).begun ≡ true → (s.transaction c).written k ≡ true → owner_in places k ≡ c + 1
  pub noted : (c k : ℕ) → ends k ≡ false → wrote (s.transaction c).undo k ≡ true → owner_in places k ≡ c + 1
  pub idle : (c : ℕ) → (s.transaction c).begun ≡ false → (s.transaction c).undo ≡ []
  pub fits : IsReadable s → (k : ℕ) (bytes : List ℕ) → ends k ≡ false → IsValue s k bytes → Fits places k bytes

-- The slot is empty. The slot before it, if any, does not point to it, and no other client changes that slot.
pub record IsLeft (reads : ℕ → List ℕ) (places : List Place) (slot : ℕ) : Type 0 where
  pub empty : kind_in (reads slot) ≡ 0
  pub before : ends (previous_in places slot) ≡ false →
      ((owner_in places (previous_in places slot) ≡ 0) ⊎ (owner_in places (previous_in places slot) ≡ owner_in places slot)) × (next_in (reads (previous_in places slot)) ≢ slot)
