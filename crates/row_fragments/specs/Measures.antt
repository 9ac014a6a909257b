-- What is known of a row without its bytes.
use Rattle.std.specs.Prelude.{ℕ, length, Option, Some, None}
use Rattle.row_fragments.specs.Fragments.{StoredBytes}

-- the row's table
abbrev pub table_of : Option StoredBytes → Option ℕ
table_of None = None
table_of (Some stored) = Some stored.table

-- the number of the row's bytes
abbrev pub length_of : Option StoredBytes → Option ℕ
length_of None = None
length_of (Some stored) = Some (length stored.bytes)
