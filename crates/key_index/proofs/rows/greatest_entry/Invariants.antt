use Rattle.std.proofs.Common.{◌≡◌, ℕ, Some, None}
use Rattle.key_index.specs.Left.{owner_at}
use Rattle.key_index.specs.Places.{IsBelow}
use Rattle.key_index.proofs.Beyond.{rows_below}
use Rattle.key_index.proofs.rows.greatest_entry.Given as goal

-- each row below `from` is below the given row, and each entry below the given row is below `from`
abbrev pub invariant-loop-row : goal.invariant-loop-row
invariant-loop-row l =
    ((q : ℕ) → IsBelow l.from q → IsBelow l.fn.below q)
    × ((q : ℕ) → IsBelow l.fn.below q → owner_at l.seats q ≡ Some None → IsBelow l.from q)

abbrev pub decreases-loop-row : goal.decreases-loop-row
decreases-loop-row l = rows_below l.from
