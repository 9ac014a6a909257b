-- Which slots are free for rows.
use Rattle.std.specs.Prelude.{◌≡◌, ◌≢◌, ℕ, ◌<◌, ◌==◌, ◌||◌, Bool, false, List, [], ◌∷◌}
use Rattle.row_fragments.specs.Fragments.{ends}
use Rattle.byte_rows.specs.declared.places.Place.{Place}
use Rattle.byte_rows.specs.Places.{row_in}

-- the free slots are the slots for rows that belong to no row
pub record IsFreed (free : ℕ → ℕ) (places : List Place) : Type 0 where
  pub taken : (k : ℕ) → row_in places k ≢ 0 → free k ≡ 0
  pub every : (k : ℕ) → ends k ≡ false → row_in places k ≡ 0 → free k ≡ 1

-- the slot is free, and no lower one is
abbrev pub IsLowest : (ℕ → ℕ) → ℕ → Type 0
IsLowest free slot = (free slot ≡ 1) × ((k : ℕ) → k < slot → free k ≡ 0)

-- whether the slot is among these
abbrev pub has : List ℕ → ℕ → Bool
has [] k = false
has (slot ∷ later) k = (k == slot) || has later k
