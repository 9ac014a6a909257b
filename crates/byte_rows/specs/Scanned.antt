-- What is known of slots while a store is opened.
use Rattle.std.specs.Prelude.{◌≡◌, ◌≢◌, ℕ, ◌<◌, true, false, List}
use Rattle.std.specs.List.{Contains}
use Rattle.row_fragments.specs.Chains.{IsWhole}
use Rattle.row_fragments.specs.Fragments.{begins, chain_of, ends, kind_in}
use Rattle.byte_rows.specs.declared.places.Place.{Place}
use Rattle.byte_rows.specs.Places.{AreLaid, row_in}

-- A slot that is noted as a row's is in the chain of that row, which begins below this number. Each row that begins below it is a chain of its
-- bytes, whose slots are noted as its own, in order
pub record AreScanned (slots : ℕ → List ℕ) (places : List Place) (end : ℕ) : Type 0 where
  pub held : (k : ℕ) → row_in places k ≢ 0 → (begins slots (row_in places k) ≡ true) × (row_in places k < end) × Contains (chain_of slots (row_in places k)) k
  pub rows : (row : ℕ) → begins slots row ≡ true → row < end → IsWhole slots row (chain_of slots row) × AreLaid places (chain_of slots row) row 0 0

-- a slot for rows that is not free is noted as nobody's
pub record IsStray (slots : ℕ → List ℕ) (places : List Place) : Type 0 where
  pub slot : ℕ
  pub inside : ends slot ≡ false
  pub used : kind_in (slots slot) ≢ 0
  pub none : row_in places slot ≡ 0
