use Rattle.std.proofs.Common.{◌≡◌, ℕ, ◌+◌, ◌*◌, ◌<◌, ◌≤◌, true}
use Rattle.storage.specs.Slots.{IsReadable}
use Rattle.database_meaning.specs.Setting.{fragments}
use Rattle.row_fragments.specs.Fragments.{row_at}
use Rattle.byte_rows.specs.Still.{Still}
use Rattle.slot_rows.specs.Counted.{fragments_below}
use Rattle.slot_rows.specs.Decoded.{decoded, is_read}
use Rattle.slot_rows.proofs.opened.count_rows.Given as goal

abbrev pub invariant-loop-at : goal.invariant-loop-at
invariant-loop-at g l = record {
  still : Still (g.S.Slots.state l.fn.slots) (g.S.Slots.state l.slots) (g.S.Slots.stop l.fn.slots) (g.S.Slots.stop l.slots);
  read : IsReadable (g.S.Slots.state l.fn.slots) → (k : ℕ) → 8192 ≤ k → k < l.at → is_read l.schema (row_at (g.S.Slots.state l.fn.slots).reads k) ≡ true;
  sum : IsReadable (g.S.Slots.state l.fn.slots) → l.used + fragments_below 8192 (decoded l.schema (g.S.Slots.state l.fn.slots).reads) ≡ fragments_below l.at (decoded l.schema (g.S.Slots.state l.fn.slots).reads);
  weighs : IsReadable (g.S.Slots.state l.fn.slots) → (k : ℕ) → 8192 ≤ k → k < l.at → fragments (decoded l.schema (g.S.Slots.state l.fn.slots).reads k) ≤ 125;
  few : l.used ≤ 125 * l.at;
}
