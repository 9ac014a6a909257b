use Rattle.std.proofs.Common.{length}
use Rattle.schema_text.proofs.FieldsSoFar.{FieldsSoFar}
use Rattle.schema_text.proofs.fields.fields_at.Given as goal

abbrev pub invariant-loop-alloc : goal.invariant-loop-alloc
invariant-loop-alloc l = FieldsSoFar l.text l.fields l.rest

abbrev pub decreases-loop-alloc : goal.decreases-loop-alloc
decreases-loop-alloc l = length l.rest
