use Rattle.std.proofs.Common.{◌≡◌, ℕ, ◌<◌, ◌≤◌}
use Rattle.storage.specs.Slots.{IsReadable}
use Rattle.row_fragments.specs.Fragments.{kind_in}
use Rattle.byte_rows.specs.Places.{row_in}
use Rattle.byte_rows.specs.Still.{Still}
use Rattle.byte_rows.proofs.scan.all_noted.Given as goal

abbrev pub invariant-loop-at : goal.invariant-loop-at
invariant-loop-at g l = record {
  still : Still (g.S.Slots.state l.fn.slots) (g.S.Slots.state l.slots) (g.S.Slots.stop l.fn.slots) (g.S.Slots.stop l.slots);
  noted : IsReadable (g.S.Slots.state l.fn.slots) → (k : ℕ) → 8192 ≤ k → k < l.at → row_in l.places k ≡ 0 → kind_in ((g.S.Slots.state l.fn.slots).reads k) ≡ 0;
}
