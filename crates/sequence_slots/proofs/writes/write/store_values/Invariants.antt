use Rattle.std.proofs.Common.{◌≡◌, ℕ, ◌+◌, ◌<◌, ◌≤◌, Ok}
use Rattle.storage.specs.Slots.{IsReadable}
use Rattle.row_fragments.specs.Calls.{Touched}
use Rattle.sequence_slots.specs.Values.{part, slot_bytes}
use Rattle.sequence_slots.specs.writes.Wrote.{WroteLow, committed_by}
use Rattle.sequence_slots.proofs.writes.write.store_values.Given as goal

abbrev pub invariant-loop-number : goal.invariant-loop-number
invariant-loop-number g l = record {
  touched : Touched (g.S.Slots.state l.fn.chains.slots) (g.S.Slots.state l.chains.slots) (g.S.Slots.stop l.fn.chains.slots) (g.S.Slots.stop l.chains.slots) l.client (Ok (tt {0}));
  wrote : WroteLow (g.S.Slots.state l.fn.chains.slots) (g.S.Slots.state l.chains.slots) l.client;
  low : ((g.S.Slots.state l.chains.slots).transaction l.client).low ≤ l.number;
  done : IsReadable (g.S.Slots.state l.fn.chains.slots) → (k : ℕ) → k < l.number → committed_by (g.S.Slots.state l.fn.chains.slots) l.client (5000 + k) ≡ slot_bytes (part k l.stored) → committed_by (g.S.Slots.state l.chains.slots) l.client (5000 + k) ≡ slot_bytes (part k l.values);
  rest : IsReadable (g.S.Slots.state l.fn.chains.slots) → (k : ℕ) → l.number ≤ k → committed_by (g.S.Slots.state l.chains.slots) l.client (5000 + k) ≡ committed_by (g.S.Slots.state l.fn.chains.slots) l.client (5000 + k);
}
