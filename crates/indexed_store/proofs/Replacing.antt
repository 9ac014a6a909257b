-- A change of a row that was read before.
use Rattle.std.proofs.Common.{◌≡◌, inl, inr, ⊎_elim, ℕ, ◌<◌, ◌≤◌, true, false, List, Some, None, Result, IsTrue, ℤ, sym, ap, ◌∙◌, subst, arith, le_trans}
use Rattle.std.proofs.lemmas.Bool.{cases_lt}
use Rattle.storage.specs.faults.Faults.{Rose}
use Rattle.abl_base.specs.declared.value.Value.{Value}
use Rattle.storage.specs.Slots.{SlotState, IsReadable}
use Rattle.abl_values.specs.Schema.{SchemaData}
use Rattle.database_meaning.specs.declared.state.StoredRow.{StoredRow}
use Rattle.database_meaning.specs.Waiting.{row_in}
use Rattle.row_store.specs.declared.store.RowFault.{RowFault}
use Rattle.row_store.specs.Changes.{RowsById}
use Rattle.row_store.specs.Rows.{HasCause, IsObservable, RowState}
use Rattle.key_index.specs.Index.{Keys}
use Rattle.row_indexes.specs.declared.moves.Move.{Move}
use Rattle.row_indexes.specs.declared.moves.Moved.{Moved}
use Rattle.row_indexes.specs.Places.{keepers_of}
use Rattle.row_keys.specs.Moves.{AreMovesOf}
use Rattle.row_keys.specs.Reserved.{reserved_at}
use Rattle.row_moves.specs.Indexed.{IsIndexed}
use Rattle.row_moves.proofs.Kept.{same_indexed}
use Rattle.slot_rows.specs.declared.open.Open.{Open}
use Rattle.slot_rows.specs.Decoded.{decoded}
use Rattle.slot_rows.specs.State.{Reserved, state_of}
use Rattle.slot_rows.proofs.Changed.{rows_known}
use Rattle.indexed_store.specs.State.{store_state}

rose_before : (first next now : ℕ) → first ≤ next → next ≤ now → Rose next now → Rose first now
rose_before first next now le later (inl lt) = inl (omega (arith, le, lt))
rose_before first next now le later (inr last) = ⊎_elim (λ (lt : first < now). inl lt) (λ (ge : now ≤ first). inr (omega (arith, le, later, last, ge))) (cases_lt first now)

-- a cause in the second of two calls is one in both, where the first left the state
pub cause_before : {T : Type 0} (first next now : ℕ) (old middle : RowState) (result : Result T RowFault) → first ≤ next → middle ≡ old → HasCause next now middle result → HasCause first now old result
cause_before first next now old middle result le same cause = record {
  later = le_trans le cause.later;
  disk = λ e. ⊎_elim (λ (r : Rose next now). inl (rose_before first next now le cause.later r)) (λ (f : IsTrue middle.failed). inr (subst (λ (x : RowState). IsTrue x.failed) same f)) (cause.disk e);
}

module _ (schema now_schema : SchemaData) (keys : List Keys) (sequences : List ℤ) (s t : SlotState) (opens left : List Open) (moved : ℕ → List Moved) (row table : ℕ) (old : StoredRow)
    (same_schema : now_schema ≡ schema) (same : (reserved : Reserved) (values : List ℤ) → state_of schema reserved values t left ≡ state_of schema reserved values s opens)
    (h : IsIndexed (store_state schema keys sequences s opens) moved keys) (found : IsReadable s → decoded schema s.reads row ≡ Some old) (of_table : old.table ≡ table) where
  abbrev start : RowState
  start = store_state schema keys sequences s opens

  abbrev middle : RowState
  middle = store_state now_schema keys sequences t left

  pub read_is : middle ≡ start
  read_is = ap (λ (x : SchemaData). store_state x keys sequences t left) same_schema ∙ same (reserved_at schema (keepers_of keys)) sequences

  pub read_indexed : IsIndexed middle moved keys
  read_indexed = same_indexed start middle moved keys read_is h

  pub read_known : IsReadable t → middle.rows row ≡ Some old
  read_known readable =
      let before : IsReadable s = subst IsObservable read_is readable in
      ap (λ (x : RowState). x.rows row) read_is ∙ (ap (λ (f : RowsById). f row) (rows_known s (decoded schema s.reads) before) ∙ found before)

  pub read_there : IsReadable t → decoded now_schema t.reads row ≡ Some old
  read_there readable = sym (ap (λ (f : RowsById). f row) (rows_known t (decoded now_schema t.reads) readable)) ∙ read_known readable

  pub read_fine : s.failed ≡ false → t.failed ≡ false
  read_fine fine = ap (λ (x : RowState). x.failed) read_is ∙ fine

  pub read_begun : (c : ℕ) → (s.transaction c).begun ≡ true → (t.transaction c).begun ≡ true
  read_begun c begun = ap (λ (x : RowState). (x.transaction c).begun) read_is ∙ begun

  pub read_moves : (moves : List Move) (values : List Value) → AreMovesOf now_schema (row_in table old.values) (row_in table values) moves → AreMovesOf now_schema (Some old) (row_in old.table values) moves
  read_moves moves values are = subst (λ (n : ℕ). AreMovesOf now_schema (row_in n old.values) (row_in n values) moves) (sym of_table) are

  pub read_gone : (moves : List Move) → AreMovesOf now_schema (row_in table old.values) None moves → AreMovesOf now_schema (Some old) None moves
  read_gone moves are = subst (λ (n : ℕ). AreMovesOf now_schema (row_in n old.values) None moves) (sym of_table) are
