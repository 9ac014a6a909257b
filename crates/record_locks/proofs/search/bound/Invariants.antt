use Rattle.std.proofs.Common.{◌<◌, ◌≤◌, ℕ, length, get_or}
use Rattle.record_locks.specs.declared.locks.KeyWait.{KeyWait}
use Rattle.record_locks.proofs.search.bound.Given as goal

-- the bound is above the table's clients and those that were looked at
abbrev pub invariant-loop-blocked : goal.invariant-loop-blocked
invariant-loop-blocked l =
    (length l.table ≤ l.bound) × (l.bound ≤ 65536) × ((k : ℕ) (d : KeyWait) → k < l.blocked-index → (get_or l.key_waits k d).client < l.bound)
