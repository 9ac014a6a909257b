use Rattle.std.proofs.Common.{◌≡◌}
use Rattle.sequence_slots.specs.Values.{values_of}
use Rattle.sequence_slots.proofs.reads.decode.values_from.Given as goal

abbrev pub invariant-loop-number : goal.invariant-loop-number
invariant-loop-number l = l.values.items ≡ values_of l.number l.bytes
