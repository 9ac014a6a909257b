-- Slots of a new database, as writes over slots of zeros.
use Rattle.std.specs.Prelude.{◌≡◌, ◌⊎◌, ℕ, ◌+◌, ◌<◌, ◌≤◌, false, List, ℤ}
use Rattle.storage.specs.declared.slots.Undo.{Undo}
use Rattle.storage.specs.Slots.{undone, wrote}
use Rattle.sequence_slots.specs.Values.{slot_bytes, part}
use Rattle.database_layout.specs.contents.Chains.{chain_slot, counted}
use Rattle.database_layout.specs.contents.Contents.{zeros}

-- the slots after these writes into zeros
abbrev pub laid : List Undo → ℕ → List ℕ
laid slots = undone slots (λ slot. zeros)

-- the first i of the slots that a text takes are written, and no other slot
pub record LayText (text : List ℕ) (count i : ℕ) (slots : List Undo) : Type 0 where
  pub parts : (j : ℕ) → j < i → laid slots (j + 1) ≡ chain_slot 3 3 0 (counted 1 count) text j
  pub nothing : (slot : ℕ) → (slot ≡ 0) ⊎ (i < slot) → wrote slots slot ≡ false

-- the slots of a text and the first i slots of values are written, and no other slot
pub record Lay (text : List ℕ) (count : ℕ) (values : List ℤ) (i : ℕ) (slots : List Undo) : Type 0 where
  pub parts : (j : ℕ) → j < count → laid slots (j + 1) ≡ chain_slot 3 3 0 (counted 1 count) text j
  pub values_are : (j : ℕ) → j < i → laid slots (5000 + j) ≡ slot_bytes (part j values)
  pub first : wrote slots 0 ≡ false
  pub between : (slot : ℕ) → count < slot → slot < 5000 → wrote slots slot ≡ false
  pub after : (slot : ℕ) → 5000 + i ≤ slot → wrote slots slot ≡ false
