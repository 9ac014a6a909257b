-- Slots outside those for rows, and commits in doubt, between two calls.
use Rattle.std.specs.Prelude.{◌≡◌, ℕ, true, false}
use Rattle.storage.specs.Slots.{SlotState, IsReadable}
use Rattle.row_fragments.specs.Fragments.{ends}

-- while no call has answered Disk
pub record IsQuiet (s : SlotState) : Type 0 where
  -- no begun transaction has written a slot outside those for rows, writes that were undone included
  pub written : s.failed ≡ false → (c k : ℕ) → ends k ≡ true → (s.transaction c).begun ≡ true → (s.transaction c).written k ≡ false
  pub low : s.failed ≡ false → (c : ℕ) → (s.transaction c).begun ≡ true → (s.transaction c).low ≡ 0
  -- no commit is in doubt
  pub certain : IsReadable s → (k : ℕ) → s.doubt k ≡ s.committed k
