use Rattle.std.proofs.Common.{◌≡◌, ◌+◌, ◌≤◌, length}
use Rattle.preprocessor.specs.Places.{past}
use Rattle.preprocessor.proofs.places.past.Given as goal

abbrev pub invariant-loop-rest : goal.invariant-loop-rest
invariant-loop-rest l = (past l.here l.rest ≡ past l.fn.place l.bytes) × (l.here.line + length l.rest ≤ l.fn.place.line + length l.bytes) × (l.here.column + length l.rest ≤ l.fn.place.column + length l.bytes)

abbrev pub decreases-loop-rest : goal.decreases-loop-rest
decreases-loop-rest l = length l.rest
