use Rattle.std.proofs.Common.{◌≡◌, drop}
use Rattle.stored_schema.specs.Agreement.{same_tables}
use Rattle.stored_schema.proofs.agreement.same_tables.Given as goal

abbrev pub invariant-loop-i : goal.invariant-loop-i
invariant-loop-i l = same_tables l.a l.b ≡ same_tables (drop l.i l.a) (drop l.i l.b)
