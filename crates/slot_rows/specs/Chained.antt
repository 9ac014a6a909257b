-- Slots whose rows are chains, and what a stop leaves of them.
use Rattle.std.specs.Prelude.{◌⊎◌, ℕ, List, IsTrue}
use Rattle.storage.specs.Slots.{SlotState}
use Rattle.abl_values.specs.Schema.{SchemaData}
use Rattle.row_fragments.specs.Chains.{AreChains}
use Rattle.slot_rows.specs.Decoded.{AreRead}

-- each row that begins is a row of its table, and the slots for rows are chains of rows
pub record HoldRows (schema : SchemaData) (slots : ℕ → List ℕ) : Type 0 where
  pub read : AreRead schema slots
  pub chains : ∥ AreChains slots ∥₁

-- each stop leaves slots that a stop at the first moment left, or chains
abbrev pub StayChains : (ℕ → (ℕ → List ℕ) → Type 0) → ℕ → Type 0
StayChains stop since = (m : ℕ) (slots : ℕ → List ℕ) → stop m slots → ∥ stop since slots ⊎ AreChains slots ∥₁

-- what is committed or in doubt are chains, and each stop leaves chains, or what a stop at the first moment left
pub record HaveChains (s : SlotState) (stop : ℕ → (ℕ → List ℕ) → Type 0) : Type 0 where
  pub committed : IsTrue s.observable → ∥ AreChains s.committed ∥₁
  pub doubt : IsTrue s.observable → ∥ AreChains s.doubt ∥₁
  pub stops : StayChains stop s.since
