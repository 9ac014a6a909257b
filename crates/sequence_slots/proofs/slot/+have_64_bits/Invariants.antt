use Rattle.std.proofs.Common.{length}
use Rattle.sequence_slots.proofs.slot.+have_64_bits.Given as goal

abbrev pub decreases-have_64_bits : goal.decreases-have_64_bits
decreases-have_64_bits l = length l.values.now
