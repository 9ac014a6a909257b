use Rattle.std.proofs.Common.{◌≡◌, drop}
use Rattle.stored_schema.specs.Agreement.{same_sequences}
use Rattle.stored_schema.proofs.agreement.same_sequences.Given as goal

abbrev pub invariant-loop-i : goal.invariant-loop-i
invariant-loop-i l = same_sequences l.a l.b ≡ same_sequences (drop l.i l.a) (drop l.i l.b)
