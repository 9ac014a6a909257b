use Rattle.std.proofs.Common.{◌≡◌, ◌≢◌, ℕ, ◌<◌, ◌≤◌}
use Rattle.std.specs.BinaryHeap.{heap_items}
use Rattle.free_slots.specs.Free.{free_in}
use Rattle.byte_rows.specs.Places.{row_in}
use Rattle.byte_rows.proofs.opened.free_of.Given as goal

abbrev pub invariant-loop-slot : goal.invariant-loop-slot
invariant-loop-slot l = record {
  above : (k : ℕ) → l.end ≤ k → k < 1048576 → free_in (heap_items l.free.back) l.free.end k ≡ 1;
  ahead : (k : ℕ) → l.slot ≤ k → k < l.end → free_in (heap_items l.free.back) l.free.end k ≡ 0;
  low : (k : ℕ) → k < 8192 → free_in (heap_items l.free.back) l.free.end k ≡ 0;
  held : (k : ℕ) → k < l.slot → row_in l.places k ≢ 0 → free_in (heap_items l.free.back) l.free.end k ≡ 0;
  given : (k : ℕ) → 8192 ≤ k → k < l.slot → row_in l.places k ≡ 0 → free_in (heap_items l.free.back) l.free.end k ≡ 1;
}
