-- The numbers of the indexes in the list of all: for each table its indexes in order, and after them one of the table's identities.
use Rattle.std.specs.Prelude.{ℕ, suc, ◌+◌, List, [], ◌∷◌, length, take, Option, Some, None}
use Rattle.abl_values.specs.declared.schema.TableDef.{TableDef}
use Rattle.abl_values.specs.Schema.{SchemaData, indexes_of}
use Rattle.database_meaning.specs.Setting.{HasIndex}

-- how many indexes these tables have in the list
abbrev pub count_in : List TableDef → ℕ
count_in [] = 0
count_in (table ∷ tables) = suc (length table.indexes + count_in tables)

-- how many indexes the list has
abbrev pub index_count : SchemaData → ℕ
index_count schema = count_in schema.tables

-- the number of the table's first index
abbrev pub first_of_table : SchemaData → ℕ → ℕ
first_of_table schema table = count_in (take table schema.tables)

-- the number of an index of the table, or with None that of the table's identities
abbrev pub number_of : SchemaData → ℕ → Option ℕ → ℕ
number_of schema table (Some index) = first_of_table schema table + index
number_of schema table None = first_of_table schema table + length (indexes_of schema table)

-- the table has this index; each table has its identities
abbrev pub HasOrder : SchemaData → ℕ → Option ℕ → Type 0
HasOrder schema table None = Unit {0}
HasOrder schema table (Some index) = HasIndex schema table index
