use Rattle.std.proofs.Common.{◌≡◌, ℕ, ◌+◌, ◌<◌, [], length, get_or}
use Rattle.storage.specs.Slots.{IsReadable}
use Rattle.byte_rows.specs.Still.{Still}
use Rattle.sequence_slots.proofs.reads.read.nine_slots.Given as goal

abbrev pub invariant-loop-number : goal.invariant-loop-number
invariant-loop-number g l = record {
  still : Still (g.S.Slots.state l.fn.slots) (g.S.Slots.state l.slots) (g.S.Slots.stop l.fn.slots) (g.S.Slots.stop l.slots);
  count : length l.taken.items ≡ l.number;
  bytes : IsReadable (g.S.Slots.state l.fn.slots) → (k : ℕ) → k < l.number → get_or l.taken.items k [] ≡ (g.S.Slots.state l.fn.slots).reads (5000 + k);
}
