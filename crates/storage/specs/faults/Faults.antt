-- Counts of faults, and the numbers of calls, which stay at their last value.
use Rattle.std.specs.Prelude.{◌<◌, ◌≤◌, ◌+◌, ◌-◌, ◌^◌, ◌⊎◌, ℕ, min}

-- one more, or the last value
abbrev pub counted : ℕ → ℕ
counted n = min (n + 1) (2 ^ 64 - 1)

-- the count rose, or it is at its last value
abbrev pub Rose : ℕ → ℕ → Type 0
Rose was now = (was < now) ⊎ (2 ^ 64 ≤ was + 1)
