-- A commit of rows with sequence values, which are in slots outside those for rows.
use Rattle.std.specs.Prelude.{◌≡◌, ◌⊎◌, ℕ, false, List, [], ℤ, IsTrue}
use Rattle.storage.specs.Slots.{SlotState, Becomes, IsReadable}
use Rattle.row_fragments.specs.Fragments.{ends}
use Rattle.sequence_slots.specs.Values.{HoldValues}
use Rattle.sequence_slots.specs.writes.Wrote.{committed_by}

-- the transaction is committed with these values, and it ends
pub record CommitsValues (old new : SlotState) (client : ℕ) (values : List ℤ) : Type 0 where
  pub observable : new.observable ≡ old.observable
  pub reads : IsReadable old → (k : ℕ) → ends k ≡ false → new.reads k ≡ old.reads k
  pub committed : IsReadable old → (k : ℕ) → ends k ≡ false → new.committed k ≡ committed_by old client k
  pub held : IsReadable old → HoldValues new.committed values
  -- each slot reads as it is committed, or it is as it was
  pub settled : IsReadable old → (k : ℕ) → (new.committed k ≡ new.reads k) ⊎ ((new.committed k ≡ old.committed k) × (new.reads k ≡ old.reads k))
  pub doubt : IsTrue old.observable → new.doubt ≡ new.committed
  pub transaction : Becomes client old.transaction new.transaction false [] (λ k. false) 0 0 0

-- the transaction is still begun, and a stop may leave it committed with these values
pub record FailsValues (old new : SlotState) (client : ℕ) (values : List ℤ) : Type 0 where
  pub observable : new.observable ≡ old.observable
  pub committed : IsTrue old.observable → new.committed ≡ old.committed
  pub doubt : IsReadable old → (new.doubt ≡ old.doubt) ⊎ (((k : ℕ) → ends k ≡ false → new.doubt k ≡ committed_by old client k) × HoldValues new.doubt values)
  pub begun : (c : ℕ) → (new.transaction c).begun ≡ (old.transaction c).begun
