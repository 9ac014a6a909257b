-- Which slots a row may still be given: what is noted of slots is no more than that.
use Rattle.std.specs.Prelude.{◌≡◌, ◌≢◌, ℕ, ◌+◌, ◌≤◌, true, false, List}
use Rattle.std.specs.List.{Contains}
use Rattle.storage.specs.Slots.{SlotState, IsReadable}
use Rattle.row_fragments.specs.Fragments.{AreDistinct, ends, kind_in}
use Rattle.byte_rows.specs.declared.places.Place.{Place}
use Rattle.byte_rows.specs.Places.{owner_in, row_in}

-- A slot is vacant where it is one for rows, it holds nothing, and no open transaction wrote it: none drew it, and none freed it.
pub record IsVacant (s : SlotState) (slot : ℕ) : Type 0 where
  pub inside : ends slot ≡ false
  pub empty : kind_in (s.reads slot) ≡ 0
  pub apart : (c : ℕ) → (s.transaction c).begun ≡ true → (s.transaction c).written slot ≡ false

-- these are different vacant slots
pub record AreVacant (s : SlotState) (slots : List ℕ) : Type 0 where
  pub different : AreDistinct slots
  pub each : (k : ℕ) → Contains slots k → IsVacant s k

-- a slot that belongs to a row holds something or a client changes it, and a client changes only what it wrote
pub record IsExact (s : SlotState) (places : List Place) : Type 0 where
  pub held : IsReadable s → (k : ℕ) → ends k ≡ false → row_in places k ≢ 0 → owner_in places k ≡ 0 → kind_in (s.reads k) ≢ 0
  pub marked : (c k : ℕ) → ends k ≡ false → (s.transaction c).begun ≡ true → owner_in places k ≡ c + 1 → (s.transaction c).written k ≡ true
  pub free : (k : ℕ) → ends k ≡ false → row_in places k ≡ 0 → owner_in places k ≡ 0
  pub few : (k : ℕ) → ends k ≡ false → owner_in places k ≤ 16
