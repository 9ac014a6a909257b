use Rattle.std.proofs.Common.{length}
use Rattle.schema_text.proofs.PartsSoFar.{PartsSoFar}
use Rattle.schema_text.proofs.indexes.parts_at.Given as goal

abbrev pub invariant-loop-rest : goal.invariant-loop-rest
invariant-loop-rest l = PartsSoFar l.fields l.text l.parts l.rest

abbrev pub decreases-loop-rest : goal.decreases-loop-rest
decreases-loop-rest l = length l.rest
