-- What a store of rows is asked: tables, keys, searches and counts. The definitions of the machine are taken at the store's rows and reserved keys.
use Rattle.std.specs.Prelude.{◌≡◌, ◌≢◌, ℕ, ◌+◌, ◌<◌, Bool, List, Option, Some, None, map, sum}
use Rattle.std.specs.FinMap.{get, values}
use Rattle.abl_base.specs.declared.limits.TheConstants.{MAX_CLIENTS}
use Rattle.abl_base.specs.declared.value.Value.{Value}
use Rattle.abl_base.specs.declared.row.RowId.{RowId}
use Rattle.database_protocol.specs.declared.row_order.Cursor.{Cursor}
use Rattle.abl_values.specs.Schema.{SchemaData}
use Rattle.database_meaning.specs.declared.state.StoredRow.{StoredRow}
use Rattle.database_meaning.specs.Setting.{Setting, fragments}
use Rattle.database_meaning.specs.State.{Rows}
use Rattle.database_meaning.specs.Waiting.{EntersReserved, row_in}
use Rattle.database_meaning.specs.Search.{IsFindableIn}
use Rattle.database_meaning.specs.Counts.{sum_below}
use Rattle.database_meaning.specs.Answers.{IsDuplicateIn, IsFirstLongKey}
use Rattle.row_store.specs.Changes.{RowsById}
use Rattle.row_store.specs.Rows.{RowState}

-- ---- tables

abbrev pub table_in : Option StoredRow → Option ℕ
table_in None = None
table_in (Some row) = Some row.table

-- the table of the row with this identity
abbrev pub table_at : RowsById → ℕ → Option ℕ
table_at rows k = table_in (rows k)

-- the row that a Put replaces
abbrev pub replaced_at : RowState → Option RowId → Option StoredRow
replaced_at s None = None
replaced_at s (Some row) = s.rows row.0

-- ---- keys

-- another client has reserved a unique key that the new row has and the old one has not
abbrev pub ReservesAgainst : RowState → ℕ → Option StoredRow → Option StoredRow → ℕ → Type 0
ReservesAgainst s client old new d = (d ≢ client) × EntersReserved s.schema (s.transaction d).reserved old new

-- the index is the least one in which another present row has a unique key of the new row
abbrev pub IsLeastDuplicate : RowState → Option RowId → Option StoredRow → ℕ → RowId → Type 0
IsLeastDuplicate s replaced new index row =
    IsDuplicateIn s.schema s.rows replaced new index row × ((j : ℕ) (other : RowId) → j < index → ¬ IsDuplicateIn s.schema s.rows replaced new j other)

-- the definitions of the machine read the schema of a setting alone
abbrev pub setting_of : SchemaData → Setting
setting_of schema = record { schema = schema; clients = 0 }

-- the least index in which the row's key is too long
abbrev pub IsLongKey : SchemaData → ℕ → List Value → ℕ → Type 0
IsLongKey schema table values index = IsFirstLongKey (setting_of schema) (row_in table values) index

-- ---- searches

-- a search of these rows finds none
abbrev pub FindsNoneIn : SchemaData → RowsById → ℕ → Option ℕ → List Value → Option Cursor → Bool → Type 0
FindsNoneIn schema rows table index prefix cursor forward =
    (row : RowId) (key : List ℕ) (more : List Value) → ¬ IsFindableIn schema rows table index prefix cursor forward row key more

-- ---- counts

-- the fragments drawn by all open transactions
abbrev pub drawn_in : RowState → ℕ
drawn_in s = sum_below MAX_CLIENTS (λ c. (s.transaction c).drawn)

-- the number is that of the fragments of the committed rows and those drawn by open transactions. The committed rows are finitely many,
-- and so are a map
abbrev pub IsUsed : RowState → ℕ → Type 0
IsUsed s n = (rows : Rows) → ((k : ℕ) → get rows k ≡ s.committed k) → n ≡ sum (map (λ r. fragments (Some r)) (values rows)) + drawn_in s
