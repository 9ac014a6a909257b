use Rattle.std.proofs.Common.{◌≡◌, ℕ, ◌+◌, ◌<◌, [], length, get_or}
use Rattle.storage.specs.Slots.{IsReadable}
use Rattle.byte_rows.specs.Still.{Still}
use Rattle.database_layout.proofs.stored_text.first_slots.first_slots.Given as goal

abbrev pub invariant-loop-i : goal.invariant-loop-i
invariant-loop-i g l = record {
  still : Still (g.S.Slots.state l.fn.slots) (g.S.Slots.state l.slots) (g.S.Slots.stop l.fn.slots) (g.S.Slots.stop l.slots);
  count : length l.taken.items ≡ l.i;
  bytes : IsReadable (g.S.Slots.state l.fn.slots) → (k : ℕ) → k < l.i → get_or l.taken.items k [] ≡ (g.S.Slots.state l.fn.slots).reads (k + 1);
}
