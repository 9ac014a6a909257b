-- When a lock conflicts with one that is asked for, and what a grant leaves.
use Rattle.std.specs.Prelude.{ℕ, Bool, true, false, List, Option, Some, None}
use Rattle.record_locks.specs.declared.locks.Client.{Client}
use Rattle.record_locks.specs.Table.{ConflictsOnLock}

-- the lock of some other client conflicts
abbrev pub HasConflict : List Client → ℕ → ℕ → Bool → Type 0
HasConflict table c row exclusive = (d : ℕ) × ConflictsOnLock table c row exclusive d

-- the lock after a grant: exclusive where it was asked so or was so before
abbrev pub granted : Option Bool → Bool → Bool
granted None exclusive = exclusive
granted (Some true) exclusive = true
granted (Some false) exclusive = exclusive
