use Rattle.std.proofs.Common.{length}
use Rattle.schema_text.proofs.SchemaSoFar.{SchemaSoFar}
use Rattle.schema_text.proofs.reading.schema_at.Given as goal

abbrev pub invariant-loop-rest : goal.invariant-loop-rest
invariant-loop-rest l = SchemaSoFar l.text l.entries l.rest

abbrev pub decreases-loop-rest : goal.decreases-loop-rest
decreases-loop-rest l = length l.rest
