-- What the indexes are asked.
use Rattle.std.specs.Prelude.{◌≡◌, ◌≢◌, ℕ, suc, ◌<◌, nat_lt, if◌then◌else◌, Bool, List, [], ◌∷◌, Option, Some, None}
use Rattle.abl_base.specs.declared.value.Value.{Value}
use Rattle.abl_base.specs.declared.row.RowId.{RowId}
use Rattle.database_protocol.specs.declared.row_order.Cursor.{Cursor}
use Rattle.abl_values.specs.declared.schema.IndexDef.{IndexDef}
use Rattle.abl_values.specs.Keys.{unique_key}
use Rattle.abl_values.specs.Schema.{SchemaData}
use Rattle.database_meaning.specs.declared.state.StoredRow.{StoredRow}
use Rattle.database_meaning.specs.Waiting.{EntersReserved, row_in}
use Rattle.database_meaning.specs.Answers.{IsDuplicateIn}
use Rattle.database_meaning.specs.Search.{IsNextIn}
use Rattle.row_store.specs.Changes.{RowsById}
use Rattle.row_store.specs.Questions.{table_at, table_in}
use Rattle.key_index.specs.Index.{IsEntry, Keys, keeper_of}
use Rattle.row_indexes.specs.Places.{Keepers}
use Rattle.row_keys.specs.Reserved.{reserved_at}

-- the values of the row, if it is a row of that table
abbrev pub IsRead : ℕ → Option (List Value) → Option StoredRow → Type 0
IsRead table None stored = table_in stored ≢ Some table
IsRead table (Some values) stored = stored ≡ row_in table values

-- another client keeps a unique key that the new row has and the old one has not
abbrev pub KeepsAgainst : SchemaData → Keepers → ℕ → Option StoredRow → Option StoredRow → ℕ → Type 0
KeepsAgainst schema keepers client old new d = (d ≢ client) × EntersReserved schema (reserved_at schema keepers d) old new

-- the index is the least one in which another row has a unique key of the new row
abbrev pub IsLeastDuplicateIn : SchemaData → RowsById → Option RowId → Option StoredRow → ℕ → RowId → Type 0
IsLeastDuplicateIn schema rows replaced new index row =
    IsDuplicateIn schema rows replaced new index row × ((j : ℕ) (other : RowId) → j < index → ¬ IsDuplicateIn schema rows replaced new j other)

-- the row at the cursor is of the table, and the search finds it with its values
abbrev pub IsFoundAt : SchemaData → RowsById → ℕ → Option ℕ → List Value → Option Cursor → Bool → Cursor → Type 0
IsFoundAt schema rows table index prefix cursor forward found =
    (table_at rows found.row.0 ≡ Some table)
    × ((values : List Value) → rows found.row.0 ≡ row_in table values → IsNextIn schema rows table index prefix cursor forward found.row found.key values)

-- another row than the replaced one is an entry of the index under this key
abbrev pub IsOther : Keys → List ℕ → Option RowId → RowId → Type 0
IsOther index key replaced other = IsEntry index key other.0 × (replaced ≢ Some other)

-- the same under the unique key of these values, where they have one
abbrev pub HasOther : Keys → IndexDef → Option RowId → List Value → RowId → Type 0
HasOther index def replaced values other = (key : List ℕ) × (unique_key def.unique def.parts values ≡ Some key) × IsOther index key replaced other

-- ---- reserved keys

-- the row has this unique key in the index
abbrev pub HasUniqueKey : IndexDef → Option (List Value) → List ℕ → Type 0
HasUniqueKey def None key = ⊥
HasUniqueKey def (Some values) key = unique_key def.unique def.parts values ≡ Some key

-- another client keeps the unique key of these values in the index, and the old row has it not
abbrev pub IsKeptAgainst : Keys → IndexDef → ℕ → Option (List Value) → List Value → ℕ → Type 0
IsKeptAgainst index def client old values d =
    (key : List ℕ) × (unique_key def.unique def.parts values ≡ Some key) × ¬ HasUniqueKey def old key × (keeper_of index key ≡ Some d) × (d ≢ client)

-- how many of the first numbers are below this one
abbrev pub below : List ℕ → ℕ → ℕ
below [] n = 0
below (x ∷ xs) n = if nat_lt x n then suc (below xs n) else 0
