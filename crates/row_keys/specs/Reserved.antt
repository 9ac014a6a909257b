-- The unique keys that a client has reserved, as the indexes know them.
use Rattle.std.specs.Prelude.{ℕ, Bool, ◌&&◌, nat_lt, length, Some}
use Rattle.abl_values.specs.Schema.{SchemaData, indexes_of}
use Rattle.database_meaning.specs.declared.state.Key.{Key}
use Rattle.key_index.specs.Places.{is_client}
use Rattle.row_indexes.specs.Places.{Keepers}
use Rattle.row_keys.specs.Numbers.{number_of}

-- the key is one of an index of the schema
abbrev pub is_in_schema : SchemaData → Key → Bool
is_in_schema schema key = nat_lt key.table (length schema.tables) && nat_lt key.index (length (indexes_of schema key.table))

-- the client keeps the key in its index
abbrev pub reserved_at : SchemaData → Keepers → ℕ → Key → Bool
reserved_at schema keepers client key = is_in_schema schema key && is_client client (keepers (number_of schema key.table (Some key.index)) key.bytes)
