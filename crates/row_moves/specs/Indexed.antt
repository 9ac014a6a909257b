-- What holds between two calls of a store of rows and its indexes.
use Rattle.std.specs.Prelude.{◌≡◌, ℕ, true, List, [], ◌∷◌, Option, Some, None, length}
use Rattle.abl_values.specs.Schema.{SchemaData}
use Rattle.database_meaning.specs.declared.state.StoredRow.{StoredRow}
use Rattle.database_meaning.specs.Setting.{FitsTable, HasTable}
use Rattle.row_store.specs.declared.store.RowChange.{RowChange}
use Rattle.row_store.specs.Rows.{IsObservable, RowState}
use Rattle.key_index.specs.Index.{Keys}
use Rattle.row_indexes.specs.declared.moves.Moved.{Moved}
use Rattle.row_indexes.specs.Places.{Places, keepers_of, places_of}
use Rattle.row_indexes.specs.Changes.{AreAllKept, AreAllWithin, CanUndoAll, all_undone}
use Rattle.row_keys.specs.Entries.{AreEntries, AreEntriesAt}
use Rattle.row_keys.specs.Numbers.{index_count}

-- the changes and the moves are of the same rows, one by one
abbrev pub AreOfSameRows : List RowChange → List Moved → Type 0
AreOfSameRows [] [] = Unit {0}
AreOfSameRows (change ∷ changes) (m ∷ moved) = (m.row ≡ change.row) × AreOfSameRows changes moved
AreOfSameRows _ _ = ⊥

-- with the moves from a change on undone, its row has the entries of its value before the change
abbrev pub LeadBack : SchemaData → ℕ → List RowChange → List Moved → Places → Type 0
LeadBack schema client [] [] places = Unit {0}
LeadBack schema client (change ∷ changes) (m ∷ moved) places =
    LeadBack schema client changes moved places × AreEntriesAt schema change.old (all_undone client (m ∷ moved) places) change.row
LeadBack schema client _ _ places = ⊥

-- the row, if there is one, is of a table, and its values are a row of that table
abbrev pub FitsSchema : SchemaData → Option StoredRow → Type 0
FitsSchema schema None = Unit {0}
FitsSchema schema (Some row) = HasTable schema row.table × FitsTable schema row.table row.values

-- the values before these changes do
abbrev pub AreFit : SchemaData → List RowChange → Type 0
AreFit schema [] = Unit {0}
AreFit schema (change ∷ changes) = FitsSchema schema change.old × AreFit schema changes

-- the indexes have the entries of the present rows, and the moves of each client's changes can be undone
pub record IsIndexed (s : RowState) (moved : ℕ → List Moved) (indexes : List Keys) : Type 0 where
  pub count : length indexes ≡ index_count s.schema
  pub entries : IsObservable s → AreEntries s.schema s.rows (places_of indexes)
  pub fitting : IsObservable s → (k : ℕ) → FitsSchema s.schema (s.rows k)
  pub old_fitting : IsObservable s → (c : ℕ) → AreFit s.schema (s.transaction c).changes
  pub rows : (c : ℕ) → AreOfSameRows (s.transaction c).changes (moved c)
  pub back : IsObservable s → (c : ℕ) → LeadBack s.schema c (s.transaction c).changes (moved c) (places_of indexes)
  pub can : (c : ℕ) → CanUndoAll c (moved c) (places_of indexes)
  pub reserved : (c : ℕ) → AreAllKept c (moved c) (keepers_of indexes)
  pub within : (c : ℕ) → AreAllWithin (index_count s.schema) (moved c)
  -- only a client with a transaction reserves keys
  pub begun : (c j : ℕ) (key : List ℕ) → keepers_of indexes j key ≡ Some c → (s.transaction c).begun ≡ true
