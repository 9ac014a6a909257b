use Rattle.std.proofs.Common.{ℕ}
use Rattle.key_index.specs.Chain.{items_of}
use Rattle.key_index.specs.Left.{Lists, owner_at}
use Rattle.key_index.specs.Places.{IsLeft}
use Rattle.key_index.proofs.left.any_left.Given as goal

-- none of the rows so far is a placeholder
abbrev pub invariant-loop-rest : goal.invariant-loop-rest
invariant-loop-rest l = (row : ℕ) → Lists l.left row → IsLeft (owner_at l.seats row) → Lists (items_of l.rest) row
