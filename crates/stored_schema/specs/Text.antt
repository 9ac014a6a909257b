-- The text by which a database keeps its schema: the canonical text, with the dropped fields at their places.
use Rattle.std.specs.Prelude.{ℕ, Bool, true, false, List, [], ◌∷◌, ◌++◌, codes, slice_get, Option, Some, None}
use Rattle.std.specs.List.{flat_map}
use Rattle.abl_values.specs.declared.schema.FieldDef.{FieldDef}
use Rattle.abl_values.specs.declared.schema.TableDef.{TableDef}
use Rattle.abl_values.specs.declared.schema.SequenceDef.{SequenceDef}
use Rattle.abl_values.specs.Order.{folded}
use Rattle.abl_values.specs.Schema.{SchemaData, field_line, index_lines, kind_text, sequence_line}
use Rattle.stored_fields.specs.declared.field.StoredField.{StoredField}

-- the line of a dropped field, `D name kind`
abbrev pub dropped_line : StoredField → List ℕ
dropped_line f = codes "D " ++ folded f.name ++ 32 ∷ kind_text f.kind ++ 10 ∷ []

-- the line of a field, where there is one
abbrev pub line_in : Option FieldDef → List ℕ
line_in None = []
line_in (Some field) = field_line field

-- the line of the field with this number, or that of a dropped one
abbrev pub line_at : List FieldDef → Option ℕ → StoredField → List ℕ
line_at fields None f = dropped_line f
line_at fields (Some n) f = line_in (slice_get fields n)

-- the line of a stored field
abbrev pub stored_line : List FieldDef → StoredField → List ℕ
stored_line fields f = line_at fields f.live f

-- `T name`, the lines of the stored fields, and those of the indexes
abbrev pub stored_table_lines : TableDef → List StoredField → List ℕ
stored_table_lines t fs =
    codes "T " ++ folded t.name ++ 10 ∷ flat_map (stored_line t.fields) fs ++ index_lines t.fields t.primary 0 t.indexes

-- tables and sequences in the order of the schema
unfoldable pub stored_lines : List Bool → List TableDef → List (List StoredField) → List SequenceDef → List ℕ
stored_lines [] tables fields sequences = []
stored_lines (true ∷ order) [] fields sequences = stored_lines order [] fields sequences
stored_lines (true ∷ order) (t ∷ tables) [] sequences = stored_lines order (t ∷ tables) [] sequences
stored_lines (true ∷ order) (t ∷ tables) (fs ∷ fields) sequences = stored_table_lines t fs ++ stored_lines order tables fields sequences
stored_lines (false ∷ order) tables fields [] = stored_lines order tables fields []
stored_lines (false ∷ order) tables fields (q ∷ sequences) = sequence_line q ++ stored_lines order tables fields sequences

-- the stored text of a schema whose tables have these stored fields
unfoldable pub stored_text : SchemaData → List (List StoredField) → List ℕ
stored_text s fields = stored_lines s.order s.tables fields s.sequences
