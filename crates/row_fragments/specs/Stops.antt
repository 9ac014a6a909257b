-- What a stop leaves, in terms of rows instead of slots.
use Rattle.std.specs.Prelude.{◌≡◌, ◌⊎◌, ℕ, ◌<◌, ◌≤◌, List, Option}
use Rattle.row_fragments.specs.Fragments.{StoredBytes, row_at}

-- the rows by identity
abbrev pub Rows : Type 0
Rows = ℕ → Option StoredBytes

-- the rows that are read on reopening after a stop at that moment
abbrev pub rows_left : (ℕ → (ℕ → List ℕ) → Type 0) → ℕ → Rows → Type 0
rows_left stop m rows = (slots : ℕ → List ℕ) × stop m slots × (rows ≡ row_at slots)

-- Time passes over a call: what is known of earlier moments stays. At each moment of the call, a stop leaves the rows
-- committed before it, or those with the one commit that is in doubt.
pub record RowsGo (before after : ℕ → Rows → Type 0) (was now : ℕ) (committed doubt : Rows) : Type 0 where
  pub later : was ≤ now
  pub nothing_else : (m : ℕ) (rows : Rows) → m ≤ was → after m rows → before m rows
  pub stays : (m : ℕ) (rows : Rows) → m ≤ was → before m rows → after m rows
  pub here : (m : ℕ) (rows : Rows) → was < m → after m rows → ∥ (rows ≡ committed) ⊎ (rows ≡ doubt) ∥₁
