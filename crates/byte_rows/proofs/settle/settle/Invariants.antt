use Rattle.std.proofs.Common.{◌≡◌, ◌≢◌, ℕ, ◌+◌, ◌<◌, ◌≤◌, true, false, length}
use Rattle.std.specs.BinaryHeap.{heap_capacity, heap_items, heap_len}
use Rattle.free_slots.specs.Free.{free_in}
use Rattle.row_fragments.specs.Fragments.{ends}
use Rattle.byte_rows.specs.Freed.{IsFreed, has}
use Rattle.byte_rows.specs.Exact.{IsExact}
use Rattle.byte_rows.specs.Places.{IsKept, owner_in, place_in}
use Rattle.byte_rows.specs.Still.{Still}
use Rattle.byte_rows.proofs.settle.settle.Given as goal

abbrev pub invariant-loop-slot : goal.invariant-loop-slot
invariant-loop-slot g l = record {
  still : Still (g.S.Slots.state l.fn.slots) (g.S.Slots.state l.slots) (g.S.Slots.stop l.fn.slots) (g.S.Slots.stop l.slots);
  known : IsKept (g.S.Slots.state l.slots) l.places;
  freed : IsFreed (free_in (heap_items l.free.back) l.free.end) l.places;
  exact : IsExact (g.S.Slots.state l.slots) l.places;
  ended : ((g.S.Slots.state l.slots).transaction l.client).begun ≡ false;
  room : heap_len l.free.back + length l.touched.items ≤ heap_capacity l.free.back;
  inside : (k : ℕ) → has l.touched.items k ≡ true → (ends k ≡ false) × (k < length l.places);
  all : (k : ℕ) → ends k ≡ false → owner_in l.places k ≡ l.client + 1 → has l.touched.items k ≡ true;
  others : (k : ℕ) → owner_in l.fn.places k ≢ l.client + 1 → place_in l.places k ≡ place_in l.fn.places k;
  none : (c k : ℕ) → owner_in l.places k ≡ c + 1 → owner_in l.fn.places k ≡ c + 1;
  long : length l.places ≡ length l.fn.places;
}

abbrev pub decreases-loop-slot : goal.decreases-loop-slot
decreases-loop-slot g l = length l.touched.items
