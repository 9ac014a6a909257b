-- Writing slots outside those for rows.
use Rattle.std.specs.Prelude.{◌≡◌, ◌⊎◌, ℕ, false, List}
use Rattle.storage.specs.Slots.{SlotState, IsReadable, joined, wrote}
use Rattle.row_fragments.specs.Fragments.{ends}

-- what a commit of the client would leave
abbrev pub committed_by : SlotState → ℕ → ℕ → List ℕ
committed_by s client = joined (s.transaction client).undo s.reads s.committed

-- the client wrote some slots outside those for rows, and no other
pub record WroteLow (old new : SlotState) (client : ℕ) : Type 0 where
  pub failed : new.failed ≡ old.failed
  pub more : (k : ℕ) → wrote (new.transaction client).undo k ≡ false → wrote (old.transaction client).undo k ≡ false
  pub rows : (k : ℕ) → ends k ≡ false → wrote (new.transaction client).undo k ≡ wrote (old.transaction client).undo k
  pub reads : IsReadable old → (k : ℕ) → (ends k ≡ false) ⊎ (wrote (new.transaction client).undo k ≡ false) → new.reads k ≡ old.reads k
