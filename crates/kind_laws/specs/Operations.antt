-- Operations of a schema.
use Rattle.std.specs.Prelude.{◌≤◌, IfSome}
use Rattle.abl_base.specs.declared.limits.TheConstants.{MAX_ROW_BYTES}
use Rattle.abl_values.specs.Schema.{SchemaData}
use Rattle.database_protocol.specs.declared.operation.Op.{Op}
use Rattle.database_protocol.specs.declared.operation.Op.TheVariants.{CurrentValue, Delete, Get, Insert, Lock, Next, NextValue, Put}
use Rattle.database_meaning.specs.Setting.{FitsTable, HasIndex, HasSequence, HasTable, row_size}

-- ITS TABLE, INDEX AND SEQUENCE ARE THOSE OF THE SCHEMA, and its values are a row of the table, of at most 30,000 bytes
abbrev pub IsOfSchema : SchemaData → Op → Type 0
IsOfSchema schema (Next table index prefix cursor forward) = HasTable schema table × IfSome index (HasIndex schema table)
IsOfSchema schema (Get table row) = HasTable schema table
IsOfSchema schema (Lock table row exclusive wait) = HasTable schema table
IsOfSchema schema (Insert table values) = HasTable schema table × FitsTable schema table values × (row_size values ≤ MAX_ROW_BYTES)
IsOfSchema schema (Put table row values) = HasTable schema table × FitsTable schema table values × (row_size values ≤ MAX_ROW_BYTES)
IsOfSchema schema (Delete table row) = HasTable schema table
IsOfSchema schema (NextValue sequence) = HasSequence schema sequence
IsOfSchema schema (CurrentValue sequence) = HasSequence schema sequence
IsOfSchema schema _ = Unit {0}
