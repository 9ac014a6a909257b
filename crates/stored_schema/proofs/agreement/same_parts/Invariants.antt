use Rattle.std.proofs.Common.{◌≡◌, drop}
use Rattle.stored_schema.specs.Agreement.{same_parts}
use Rattle.stored_schema.proofs.agreement.same_parts.Given as goal

abbrev pub invariant-loop-i : goal.invariant-loop-i
invariant-loop-i l = same_parts l.a l.b l.p l.q ≡ same_parts l.a l.b (drop l.i l.p) (drop l.i l.q)
