-- The entries of rows in the indexes of their tables.
use Rattle.std.specs.Prelude.{◌≡◌, ◌↔◌, ℕ, ◌==◌, if◌then◌else◌, List, Option, Some, None}
use Rattle.abl_base.specs.declared.value.Value.{Value}
use Rattle.abl_values.specs.Schema.{SchemaData}
use Rattle.database_meaning.specs.declared.state.StoredRow.{StoredRow}
use Rattle.database_meaning.specs.Setting.{FitsTable, HasTable}
use Rattle.database_meaning.specs.Search.{order_key}
use Rattle.database_meaning.specs.Waiting.{row_in}
use Rattle.row_store.specs.Changes.{RowsById}
use Rattle.row_indexes.specs.Places.{Keepers, Places}
use Rattle.row_keys.specs.Numbers.{HasOrder, number_of}

-- the key of a row in an index of the table; no row has none, and a row of another table has none
abbrev pub entry_key : SchemaData → ℕ → Option ℕ → Option StoredRow → Option (List ℕ)
entry_key schema table index None = None
entry_key schema table index (Some row) = if row.table == table then Some (order_key schema table index row.values) else None

-- in each index the entries at this identity are exactly the keys of the row
abbrev pub AreEntriesAt : SchemaData → Option StoredRow → Places → ℕ → Type 0
AreEntriesAt schema stored places row =
    (table : ℕ) (index : Option ℕ) (key : List ℕ) → HasTable schema table → HasOrder schema table index
    → (places (number_of schema table index) key row ≡ Some None) ↔ (entry_key schema table index stored ≡ Some key)

-- the entries are exactly the keys of the rows
abbrev pub AreEntries : SchemaData → RowsById → Places → Type 0
AreEntries schema rows places = (row : ℕ) → AreEntriesAt schema (rows row) places row

-- each row is of a table, and its values are a row of that table
abbrev pub AreFitting : SchemaData → RowsById → Type 0
AreFitting schema rows = (row : ℕ) (stored : StoredRow) → rows row ≡ Some stored → HasTable schema stored.table × FitsTable schema stored.table stored.values

-- ---- no row

abbrev pub no_rows : RowsById
no_rows row = None

abbrev pub no_places : Places
no_places j key row = None

abbrev pub no_keepers : Keepers
no_keepers j key = None

-- ---- values that were read

-- these values, as a row of the table
abbrev pub stored_in : ℕ → Option (List Value) → Option StoredRow
stored_in table None = None
stored_in table (Some values) = row_in table values

abbrev pub FitsIfThere : SchemaData → ℕ → Option (List Value) → Type 0
FitsIfThere schema table None = Unit {0}
FitsIfThere schema table (Some values) = FitsTable schema table values
