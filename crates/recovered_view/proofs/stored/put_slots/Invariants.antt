use Rattle.std.proofs.Common.{◌≡◌, ◌≤◌, ◌^◌, ℕ, length, drop}
use Rattle.storage.specs.Slots.{undone}
use Rattle.recovered_view.specs.View.{slot_in}
use Rattle.recovered_view.proofs.stored.put_slots.Given as goal

abbrev pub invariant-noted : goal.invariant-noted
invariant-noted l = record {
  within : l.i ≤ length l.noted;
  same_noted : l.noted ≡ l.fn.noted;
  few : length l.slots.items ≤ 2 ^ 20;
  put : (k : ℕ) → slot_in l.slots.items k ≡ undone (drop l.i l.noted) (slot_in l.fn.slots.items) k;
}

abbrev pub decreases-noted : goal.decreases-noted
decreases-noted l = l.i
