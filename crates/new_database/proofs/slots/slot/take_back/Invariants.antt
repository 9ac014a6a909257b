use Rattle.std.proofs.Common.{◌≡◌, ◌≤◌, ℕ, length, take, drop, vec_capacity}
use Rattle.std.specs.HashMap.{spare}
use Rattle.storage.specs.Slots.{undone}
use Rattle.new_database.specs.slots.Sparse.{slot_in, committed_in, holds}
use Rattle.new_database.proofs.slots.slot.take_back.Given as goal

abbrev pub invariant-loop-undo : goal.invariant-loop-undo
invariant-loop-undo l = record {
  undo_is : l.undo.items ≡ take (length l.undo.items) l.initial.undo.items;
  stands : l.stand ≤ length l.undo.items;
  size : length l.undo.items ≤ length l.initial.undo.items;
  reads : (k : ℕ) → slot_in l.slots k ≡ undone (drop (length l.undo.items) l.initial.undo.items) (slot_in l.initial.slots) k;
  committed : (k : ℕ) → committed_in l.slots k ≡ committed_in l.initial.slots k;
  same : (k : ℕ) → holds l.slots k ≡ holds l.initial.slots k;
  spare : spare l.slots ≡ spare l.initial.slots;
  capacity : vec_capacity l.undo ≡ vec_capacity l.initial.undo;
}

abbrev pub decreases-loop-undo : goal.decreases-loop-undo
decreases-loop-undo l = length l.undo.items
