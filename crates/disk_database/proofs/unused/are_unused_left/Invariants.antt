use Rattle.std.proofs.Common.{◌≡◌, ℕ, ◌<◌}
use Rattle.storage.specs.Slots.{IsReadable}
use Rattle.byte_rows.specs.Still.{Still}
use Rattle.database_layout.specs.contents.Contents.{zeros}
use Rattle.disk_database.specs.Parts.{IsUnused}
use Rattle.disk_database.proofs.unused.are_unused_left.Given as goal

abbrev pub invariant-loop-slot : goal.invariant-loop-slot
invariant-loop-slot g l = record {
  still : Still (g.S.Slots.state l.fn.slots) (g.S.Slots.state l.slots) (g.S.Slots.stop l.fn.slots) (g.S.Slots.stop l.slots);
  left : IsReadable (g.S.Slots.state l.fn.slots) → (k : ℕ) → k < l.slot → IsUnused l.fn.text k → (g.S.Slots.state l.fn.slots).reads k ≡ zeros;
}
