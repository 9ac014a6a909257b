-- The contents of a new database.
use Rattle.std.specs.Prelude.{[], map}
use Rattle.abl_values.specs.declared.schema.SequenceDef.{SequenceDef}
use Rattle.abl_values.specs.Schema.{SchemaData}
use Rattle.database_meaning.specs.declared.contents.Contents.{Contents}

-- no row, and each sequence at its initial value
abbrev pub new_contents : SchemaData → Contents
new_contents schema = record { rows = []; sequences = map (λ (s : SequenceDef). s.initial) schema.sequences }
