use Rattle.std.proofs.Common.{◌≡◌, ℕ, take}
use Rattle.std.specs.HashMap.{spare}
use Rattle.storage.specs.Slots.{joined}
use Rattle.new_database.specs.slots.Sparse.{slot_in, committed_in, holds}
use Rattle.new_database.proofs.slots.slot.keep.Given as goal

abbrev pub invariant-loop-write : goal.invariant-loop-write
invariant-loop-write l = record {
  reads : (k : ℕ) → slot_in l.slots k ≡ slot_in l.initial.slots k;
  committed : (k : ℕ) → committed_in l.slots k ≡ joined (take l.write-index l.writes) (slot_in l.initial.slots) (committed_in l.initial.slots) k;
  same : (k : ℕ) → holds l.slots k ≡ holds l.initial.slots k;
  spare : spare l.slots ≡ spare l.initial.slots;
}
