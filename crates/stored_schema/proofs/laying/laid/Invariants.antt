use Rattle.std.proofs.Common.{◌≡◌, take}
use Rattle.stored_schema.specs.Laid.{laid}
use Rattle.stored_schema.proofs.laying.laid.Given as goal

abbrev pub invariant-loop-table : goal.invariant-loop-table
invariant-loop-table l = l.fields ≡ laid (take l.table-index l.tables)
