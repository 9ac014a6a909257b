use Rattle.std.proofs.Common.{◌≡◌, ℕ, ◌<◌, [], get_or}
use Rattle.sequence_slots.specs.Values.{part, slot_bytes}
use Rattle.sequence_slots.proofs.reads.decode.are_of.Given as goal

abbrev pub invariant-loop-number : goal.invariant-loop-number
invariant-loop-number l = (k : ℕ) → k < l.number → get_or l.slots k [] ≡ slot_bytes (part k l.values)
