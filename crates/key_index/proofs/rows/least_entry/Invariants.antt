use Rattle.std.proofs.Common.{◌≡◌, ℕ, Some, None}
use Rattle.key_index.specs.Left.{owner_at}
use Rattle.key_index.specs.Places.{IsAbove}
use Rattle.key_index.proofs.Beyond.{rows_above}
use Rattle.key_index.proofs.rows.least_entry.Given as goal

-- each row above `from` is above the given row, and each entry above the given row is above `from`
abbrev pub invariant-loop-row : goal.invariant-loop-row
invariant-loop-row l =
    ((q : ℕ) → IsAbove l.from q → IsAbove l.fn.above q)
    × ((q : ℕ) → IsAbove l.fn.above q → owner_at l.seats q ≡ Some None → IsAbove l.from q)

abbrev pub decreases-loop-row : goal.decreases-loop-row
decreases-loop-row l = rows_above l.from
