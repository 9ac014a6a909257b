-- What stays the same while a database runs (the schema and the number of clients), and what the schema says of a row: its keys, and how many fragments hold it.
use Rattle.std.specs.Prelude.{ℕ, ◌+◌, Bool, false, ◌&&◌, ◌||◌, ◌==◌, ◌<◌, if◌then◌else◌, List, [], ◌∷◌, ◌++◌, length, slice_index_or, Option, Some, None, ℤ, pos}
use Rattle.abl_base.specs.declared.value.Value.{Value}
use Rattle.abl_base.specs.declared.value.Kind.{Kind}
use Rattle.abl_values.specs.declared.schema.KeyPart.{KeyPart}
use Rattle.abl_values.specs.declared.schema.IndexDef.{IndexDef}
use Rattle.abl_values.specs.declared.schema.SequenceDef.{SequenceDef}
use Rattle.database_meaning.specs.declared.state.StoredRow.{StoredRow}
use Rattle.database_meaning.specs.declared.state.Key.{Key}
use Rattle.abl_values.specs.Rows.{FitsFields, bytes_of_row, fragments_of}
use Rattle.abl_values.specs.Keys.{key_bytes, unique_key}
use Rattle.abl_values.specs.Masks.{same_bytes}
use Rattle.abl_values.specs.Schema.{SchemaData, fields_of, indexes_of, field_kinds}

-- the tables and sequences, and how many clients the database has, numbered from 0
pub record Setting : Type 0 where
  pub schema : SchemaData
  pub clients : ℕ

-- ---- tables, indexes and sequences by number

-- the kinds of a table's fields
abbrev pub kinds_of : SchemaData → ℕ → List (Option Kind)
kinds_of schema table = field_kinds (fields_of schema table)

abbrev pub no_index : IndexDef
no_index = record { name = []; unique = false; parts = [] }

-- the components of an index of a table, the leading one first
abbrev pub parts_of : SchemaData → ℕ → ℕ → List KeyPart
parts_of schema table index = (slice_index_or (indexes_of schema table) index no_index).parts

abbrev pub no_sequence : SequenceDef
no_sequence = record { name = []; initial = pos 0; increment = pos 0 }

abbrev pub increment_of : SchemaData → ℕ → ℤ
increment_of schema sequence = (slice_index_or schema.sequences sequence no_sequence).increment

abbrev pub HasTable : SchemaData → ℕ → Type 0
HasTable schema table = table < length schema.tables

abbrev pub HasIndex : SchemaData → ℕ → ℕ → Type 0
HasIndex schema table index = index < length (indexes_of schema table)

abbrev pub HasSequence : SchemaData → ℕ → Type 0
HasSequence schema sequence = sequence < length schema.sequences

-- the values are a row of the table
abbrev pub FitsTable : SchemaData → ℕ → List Value → Type 0
FitsTable schema table values = FitsFields (kinds_of schema table) values

-- the key bytes of a row in an index of its table
abbrev pub key_in : SchemaData → ℕ → ℕ → List Value → List ℕ
key_in schema table index values = key_bytes (parts_of schema table index) values

-- ---- unique keys

abbrev pub key_at : ℕ → ℕ → Option (List ℕ) → List Key
key_at table index None = []
key_at table index (Some bytes) = record { table = table; index = index; bytes = bytes } ∷ []

-- the unique keys of a row in these indexes, numbered from i
abbrev pub keys_from : ℕ → ℕ → List IndexDef → List Value → List Key
keys_from table i [] values = []
keys_from table i (index ∷ indexes) values = key_at table i (unique_key index.unique index.parts values) ++ keys_from table (i + 1) indexes values

-- the unique keys of a row: one for each unique index in which no component is `?`. No row has none
unfoldable pub unique_keys : SchemaData → Option StoredRow → List Key
unique_keys schema None = []
unique_keys schema (Some row) = keys_from row.table 0 (indexes_of schema row.table) row.values

abbrev pub same_key : Key → Key → Bool
same_key a b = (a.table == b.table) && ((a.index == b.index) && same_bytes a.bytes b.bytes)

-- the key is in the list
abbrev pub has_key : List Key → Key → Bool
has_key [] key = false
has_key (x ∷ xs) key = same_key x key || has_key xs key

-- the keys of the list that the other list lacks
abbrev pub keys_without : List Key → List Key → List Key
keys_without [] lacks = []
keys_without (x ∷ xs) lacks = if has_key lacks x then keys_without xs lacks else x ∷ keys_without xs lacks

-- ---- bytes

-- the bytes that a row takes
abbrev pub row_size : List Value → ℕ
row_size values = length (bytes_of_row values)

-- how many fragments hold the row. No row has none
abbrev pub fragments : Option StoredRow → ℕ
fragments None = 0
fragments (Some row) = fragments_of (row_size row.values)
