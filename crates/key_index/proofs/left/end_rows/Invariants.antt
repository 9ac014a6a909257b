use Rattle.std.proofs.Common.{length}
use Rattle.key_index.proofs.LeftRows.{EndsRows}
use Rattle.key_index.proofs.left.end_rows.Given as goal

abbrev pub invariant-loop-row : goal.invariant-loop-row
invariant-loop-row l = EndsRows l.client l.fn.seats l.seats l.left l.rest

abbrev pub decreases-loop-row : goal.decreases-loop-row
decreases-loop-row l = length l.rest
