-- What a call tells of the rows, where they are known.
use Rattle.std.proofs.Common.{◌≡◌, ◌≢◌, ℕ, suc, List, [], ◌∷◌, length, Option, Some, None, Result, Ok, Err, IfOk, MatchOption, ℤ, refl, sym, ap, ◌∙◌}
use Rattle.abl_base.specs.declared.value.Value.{Value}
use Rattle.abl_base.specs.declared.row.RowId.{RowId}
use Rattle.storage.specs.Slots.{SlotState, IsReadable}
use Rattle.abl_values.specs.Schema.{SchemaData}
use Rattle.database_meaning.specs.declared.state.StoredRow.{StoredRow}
use Rattle.database_meaning.specs.Setting.{fragments}
use Rattle.database_meaning.specs.Waiting.{row_in}
use Rattle.database_protocol.specs.declared.row_order.Cursor.{Cursor}
use Rattle.row_store.specs.declared.store.FoundRow.{FoundRow}
use Rattle.row_store.specs.declared.store.RowFault.{RowFault}
use Rattle.row_store.specs.Changes.{RowsById}
use Rattle.row_store.specs.Questions.{table_at, table_in}
use Rattle.row_store.specs.Rows.{IsFree, RowState}
use Rattle.row_store.specs.declared.store.RowChange.{RowChange}
use Rattle.key_index.specs.Index.{Keys}
use Rattle.row_indexes.specs.declared.moves.Moved.{Moved}
use Rattle.row_moves.specs.Indexed.{AreOfSameRows}
use Rattle.slot_rows.specs.declared.log.Undone.{Undone}
use Rattle.slot_rows.specs.Stored.{changes_of}
use Rattle.row_indexes.specs.Places.{keepers_of}
use Rattle.row_keys.specs.Questions.{IsRead}
use Rattle.row_keys.specs.Reserved.{reserved_at}
use Rattle.slot_rows.specs.declared.open.Open.{Open}
use Rattle.slot_rows.specs.Decoded.{decoded}
use Rattle.slot_rows.specs.State.{Reserved, state_of}
use Rattle.slot_rows.proofs.Changed.{rows_known}
use Rattle.indexed_store.specs.State.{store_state}

-- the values of a row, as the trait says it
pub read_is : (table : ℕ) (found : Option (List Value)) (stored : Option StoredRow) → IsRead table found stored → MatchOption found (table_in stored ≢ Some table) (λ values. stored ≡ row_in table values)
read_is table None stored is = is
read_is table (Some values) stored is = is

pub length_changes : (log : List Undone) → length (changes_of log) ≡ length log
length_changes [] = refl
length_changes (u ∷ later) = ap suc (length_changes later)

pub length_moved : (changes : List RowChange) (moved : List Moved) → AreOfSameRows changes moved → length moved ≡ length changes
length_moved [] [] same = refl
length_moved (c ∷ changes) (m ∷ moved) same = ap suc (length_moved changes moved same.1)
length_moved [] (m ∷ moved) same = absurd same
length_moved (c ∷ changes) [] same = absurd same

module _ (schema : SchemaData) (keys : List Keys) (sequences : List ℤ) (s : SlotState) (opens : List Open) where
  abbrev now : RowState
  now = store_state schema keys sequences s opens

  pub table_found : (result : Result (Option ℕ) RowFault) (row : ℕ) → IfOk result (λ found. IsReadable s → found ≡ table_at (decoded schema s.reads) row) → IfOk result (λ found. IsReadable s → found ≡ table_at now.rows row)
  table_found (Ok x) row is = λ readable. is readable ∙ sym (ap (λ (f : RowsById). table_at f row) (rows_known s (decoded schema s.reads) readable))
  table_found (Err e) row is = tt

  pub fragments_found : (result : Result ℕ RowFault) (row : ℕ) → IfOk result (λ count. IsReadable s → count ≡ fragments (decoded schema s.reads row)) → IfOk result (λ count. IsReadable s → count ≡ fragments (now.rows row))
  fragments_found (Ok x) row is = λ readable. is readable ∙ sym (ap (λ (f : RowsById). fragments (f row)) (rows_known s (decoded schema s.reads) readable))
  fragments_found (Err e) row is = tt

  pub free_found : (result : Result RowId RowFault) → IfOk result (λ row. (reserved : Reserved) (values : List ℤ) → IsFree (state_of schema reserved values s opens) row.0) → IfOk result (λ row. IsFree now row.0)
  free_found (Ok x) free = free (reserved_at schema (keepers_of keys)) sequences
  free_found (Err e) free = tt

  pub read_found : (table row : ℕ) (result : Result (Option (List Value)) RowFault) → IfOk result (λ found. (reserved : Reserved) (values : List ℤ) → IsReadable s → IsRead table found ((state_of schema reserved values s opens).rows row))
      → IfOk result (λ found. IsReadable s → MatchOption found (table_at now.rows row ≢ Some table) (λ values. now.rows row ≡ row_in table values))
  read_found table row (Ok found) is = λ readable. read_is table found (now.rows row) (is (reserved_at schema (keepers_of keys)) sequences readable)
  read_found table row (Err e) is = tt

  -- the row that was read at a place
  pub read_at : (table : ℕ) (at : Cursor) (result : Result (Option FoundRow) RowFault)
      → IfOk result (λ found. (reserved : Reserved) (values : List ℤ) → IsReadable s → MatchOption found ⊥ (λ f. (f.row ≡ at.row) × (f.key ≡ at.key) × ((state_of schema reserved values s opens).rows at.row.0 ≡ row_in table f.values)))
      → IfOk result (λ found. IsReadable s → MatchOption found ⊥ (λ f. (f.row ≡ at.row) × (f.key ≡ at.key) × (now.rows at.row.0 ≡ row_in table f.values)))
  read_at table at (Ok found) is = is (reserved_at schema (keepers_of keys)) sequences
  read_at table at (Err e) is = tt
