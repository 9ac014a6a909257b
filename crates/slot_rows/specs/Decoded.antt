-- The rows of values that slots hold.
use Rattle.std.specs.Prelude.{◌≡◌, ℕ, nat_lt, if◌then◌else◌, Bool, true, List, [], length, Option, Some, None, is_some}
use Rattle.abl_base.specs.declared.value.Value.{Value}
use Rattle.abl_values.specs.Schema.{SchemaData}
use Rattle.abl_values.specs.Rows as bytes
use Rattle.database_meaning.specs.declared.state.StoredRow.{StoredRow}
use Rattle.database_meaning.specs.Setting.{kinds_of}
use Rattle.row_fragments.specs.Fragments.{StoredBytes, row_at}
use Rattle.row_store.specs.Changes.{RowsById}

-- the values that these bytes of a table are, where the schema has the table and they are a row of it
abbrev pub values_of : SchemaData → StoredBytes → Option (List Value)
values_of schema stored =
    if nat_lt stored.table (length schema.tables) then bytes.row_in (kinds_of schema stored.table) stored.bytes else None

-- the row of the table with these values; without values, a row of no table of the schema
abbrev pub or_no_table : SchemaData → ℕ → Option (List Value) → StoredRow
or_no_table schema table (Some values) = record { table = table; values = values }
or_no_table schema table None = record { table = length schema.tables; values = [] }

-- the row that these bytes of a table are; bytes that are no row of their table are a row of no table
abbrev pub row_of : SchemaData → Option StoredBytes → Option StoredRow
row_of schema None = None
row_of schema (Some stored) = Some (or_no_table schema stored.table (values_of schema stored))

-- the row at each identity
abbrev pub decoded : SchemaData → (ℕ → List ℕ) → RowsById
decoded schema slots k = row_of schema (row_at slots k)

-- the bytes, if there are any, are a row of a table of the schema
abbrev pub is_read : SchemaData → Option StoredBytes → Bool
is_read schema None = true
is_read schema (Some stored) = is_some (values_of schema stored)

-- wherever a row begins it is a row of its table
abbrev pub AreRead : SchemaData → (ℕ → List ℕ) → Type 0
AreRead schema slots = (k : ℕ) → is_read schema (row_at slots k) ≡ true
