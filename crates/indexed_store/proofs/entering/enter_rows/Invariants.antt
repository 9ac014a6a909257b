use Rattle.std.proofs.Common.{◌≡◌, ◌≢◌, ℕ, List, [], None, Some, length}
use Rattle.storage.specs.Slots.{IsReadable}
use Rattle.byte_rows.specs.Still.{Still}
use Rattle.row_indexes.specs.Places.{keepers_of}
use Rattle.slot_rows.specs.Decoded.{decoded}
use Rattle.slot_rows.specs.State.{state_of}
use Rattle.indexed_store.specs.declared.entering.TheConstants.{CLIENT}
use Rattle.indexed_store.specs.Opened.{AreEntered, rows_before}
use Rattle.indexed_store.specs.State.{no_reserved}
use Rattle.indexed_store.proofs.entering.enter_rows.Given as goal

abbrev pub invariant-loop-at : goal.invariant-loop-at
invariant-loop-at g l = record {
  still : Still (g.S.Slots.state l.fn.rows.chains.slots) (g.S.Slots.state l.rows.chains.slots) (g.S.Slots.stop l.fn.rows.chains.slots) (g.S.Slots.stop l.rows.chains.slots);
  same : state_of l.rows.schema no_reserved [] (g.S.Slots.state l.rows.chains.slots) l.rows.opens.items ≡ state_of l.fn.rows.schema no_reserved [] (g.S.Slots.state l.fn.rows.chains.slots) l.fn.rows.opens.items;
  schema : l.rows.schema ≡ l.fn.rows.schema;
  entered : IsReadable (g.S.Slots.state l.fn.rows.chains.slots) → AreEntered l.fn.rows.schema (λ k. None) l.fn.indexes.items →
      AreEntered l.fn.rows.schema (rows_before l.at (decoded l.fn.rows.schema (g.S.Slots.state l.fn.rows.chains.slots).reads)) l.indexes.items;
  keepers : (j : ℕ) (key : List ℕ) (c : ℕ) → c ≢ CLIENT → keepers_of l.indexes.items j key ≡ Some c → keepers_of l.fn.indexes.items j key ≡ Some c;
  count : length l.indexes.items ≡ length l.fn.indexes.items;
}
