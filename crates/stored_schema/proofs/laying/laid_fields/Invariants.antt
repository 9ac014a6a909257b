use Rattle.std.proofs.Common.{◌≡◌, ◌++◌, drop}
use Rattle.stored_schema.specs.Laid.{laid_from}
use Rattle.stored_schema.proofs.laying.laid_fields.Given as goal

abbrev pub invariant-loop-number : goal.invariant-loop-number
invariant-loop-number l = l.stored ++ laid_from l.number (drop l.number l.fields) ≡ laid_from 0 l.fields
