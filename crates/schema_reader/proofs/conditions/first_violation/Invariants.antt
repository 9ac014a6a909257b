use Rattle.schema_reader.proofs.SoFar.{AreClean}
use Rattle.schema_reader.proofs.conditions.first_violation.Given as goal

abbrev pub invariant-loop-item : goal.invariant-loop-item
invariant-loop-item l = AreClean l.items l.item-index l.census l.bytes
