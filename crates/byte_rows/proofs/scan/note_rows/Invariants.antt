use Rattle.std.proofs.Common.{◌≡◌, ℕ}
use Rattle.storage.specs.Slots.{IsReadable}
use Rattle.byte_rows.specs.Places.{owner_in}
use Rattle.byte_rows.specs.Scanned.{AreScanned}
use Rattle.byte_rows.specs.Still.{Still}
use Rattle.byte_rows.proofs.scan.note_rows.Given as goal

abbrev pub invariant-loop-at : goal.invariant-loop-at
invariant-loop-at g l = record {
  still : Still (g.S.Slots.state l.fn.slots) (g.S.Slots.state l.slots) (g.S.Slots.stop l.fn.slots) (g.S.Slots.stop l.slots);
  scanned : IsReadable (g.S.Slots.state l.fn.slots) → AreScanned (g.S.Slots.state l.fn.slots).reads l.places.items l.at;
  unowned : (k : ℕ) → owner_in l.places.items k ≡ 0;
}
