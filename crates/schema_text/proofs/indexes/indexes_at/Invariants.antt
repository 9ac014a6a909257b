use Rattle.std.proofs.Common.{length}
use Rattle.schema_text.proofs.IndexesSoFar.{IndexesSoFar}
use Rattle.schema_text.proofs.indexes.indexes_at.Given as goal

abbrev pub invariant-loop-alloc : goal.invariant-loop-alloc
invariant-loop-alloc l = IndexesSoFar l.fields l.text l.indexes l.primary l.rest

abbrev pub decreases-loop-alloc : goal.decreases-loop-alloc
decreases-loop-alloc l = length l.rest
