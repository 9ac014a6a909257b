-- When two schemas agree: the same tables and sequences in order, and in each table the same fields and indexes, in any order.
use Rattle.std.specs.Prelude.{ℕ, Bool, true, false, not, ◌&&◌, if◌then◌else◌, List, [], ◌∷◌, slice_index_or, Option, Some, None}
use Rattle.std.specs.List.{list_all}
use Rattle.std.specs.Ordering.{int_eq}
use Rattle.abl_base.specs.declared.value.Value.{Value}
use Rattle.abl_base.specs.declared.value.Value.TheVariants.{Text, Int, Int64, Dec, Logical, Date, Unknown}
use Rattle.abl_base.specs.declared.value.Kind.{Kind}
use Rattle.abl_values.specs.declared.schema.FieldDef.{FieldDef}
use Rattle.abl_values.specs.declared.schema.KeyPart.{KeyPart}
use Rattle.abl_values.specs.declared.schema.IndexDef.{IndexDef}
use Rattle.abl_values.specs.declared.schema.TableDef.{TableDef}
use Rattle.abl_values.specs.declared.schema.SequenceDef.{SequenceDef}
use Rattle.abl_values.specs.Held.{index_names}
use Rattle.abl_values.specs.Masks.{same_bytes}
use Rattle.abl_values.specs.Schema.{SchemaData, field_names, kind_text, no_field, no_index, number_of_name, same_name}

-- ---- values and kinds

abbrev pub same_truth : Bool → Bool → Bool
same_truth a b = if a then b else not b

-- the two values are one
abbrev pub same_value : Value → Value → Bool
same_value (Text a) (Text b) = same_bytes a b
same_value (Int a) (Int b) = int_eq a b
same_value (Int64 a) (Int64 b) = int_eq a b
same_value (Dec a) (Dec b) = int_eq a b
same_value (Logical a) (Logical b) = same_truth a b
same_value (Date a) (Date b) = int_eq a b
same_value Unknown Unknown = true
same_value v w = false

-- the two kinds have one name in a schema's text
abbrev pub same_kind : Option Kind → Option Kind → Bool
same_kind a b = same_bytes (kind_text a) (kind_text b)

-- ---- fields

-- two fields of one name have the same kind, MANDATORY and initial value
abbrev pub same_field : FieldDef → FieldDef → Bool
same_field f g = same_kind f.kind g.kind && (same_truth f.mandatory g.mandatory && same_value f.initial g.initial)

abbrev pub same_field_at : List FieldDef → FieldDef → Option ℕ → Bool
same_field_at fields f None = false
same_field_at fields f (Some n) = same_field f (slice_index_or fields n no_field)

-- one of these fields has its name, in any case, and is the same
abbrev pub has_field : List FieldDef → FieldDef → Bool
has_field fields f = same_field_at fields f (number_of_name 0 (field_names fields) f.name)

-- ---- indexes

-- two components name the same field, and have the same direction
abbrev pub same_part : List FieldDef → List FieldDef → KeyPart → KeyPart → Bool
same_part as_ bs p q =
    same_name (slice_index_or as_ p.field no_field).name (slice_index_or bs q.field no_field).name && same_truth p.descending q.descending

-- the same components in order
abbrev pub same_parts : List FieldDef → List FieldDef → List KeyPart → List KeyPart → Bool
same_parts as_ bs [] [] = true
same_parts as_ bs [] (q ∷ qs) = false
same_parts as_ bs (p ∷ ps) [] = false
same_parts as_ bs (p ∷ ps) (q ∷ qs) = same_part as_ bs p q && same_parts as_ bs ps qs

-- two indexes of one name have the same UNIQUE and components
abbrev pub same_index : TableDef → TableDef → IndexDef → IndexDef → Bool
same_index a b i j = same_truth i.unique j.unique && same_parts a.fields b.fields i.parts j.parts

abbrev pub same_index_at : TableDef → TableDef → IndexDef → Option ℕ → Bool
same_index_at a b i None = false
same_index_at a b i (Some n) = same_index a b i (slice_index_or b.indexes n no_index)

-- table `b` has an index of its name, in any case, that is the same as this one of table `a`
abbrev pub has_index : TableDef → TableDef → IndexDef → Bool
has_index a b i = same_index_at a b i (number_of_name 0 (index_names b.indexes) i.name)

-- the primary indexes have one name, or neither table has one
abbrev pub same_primary_in : List IndexDef → List IndexDef → Option ℕ → Option ℕ → Bool
same_primary_in as_ bs None None = true
same_primary_in as_ bs None (Some m) = false
same_primary_in as_ bs (Some n) None = false
same_primary_in as_ bs (Some n) (Some m) = same_name (slice_index_or as_ n no_index).name (slice_index_or bs m no_index).name

-- ---- tables, sequences and schemas

-- each field of the one is one of the other, and the other way round
abbrev pub same_fields : List FieldDef → List FieldDef → Bool
same_fields as_ bs = list_all (has_field bs) as_ && list_all (has_field as_) bs

-- each index of the one is one of the other, and the other way round; the primary one is the same
abbrev pub same_indexes : TableDef → TableDef → Bool
same_indexes a b =
    (list_all (has_index a b) a.indexes && list_all (has_index b a) b.indexes) && same_primary_in a.indexes b.indexes a.primary b.primary

abbrev pub same_table : TableDef → TableDef → Bool
same_table a b = same_name a.name b.name && (same_fields a.fields b.fields && same_indexes a b)

abbrev pub same_tables : List TableDef → List TableDef → Bool
same_tables [] [] = true
same_tables [] (b ∷ bs) = false
same_tables (a ∷ as_) [] = false
same_tables (a ∷ as_) (b ∷ bs) = same_table a b && same_tables as_ bs

abbrev pub same_sequence : SequenceDef → SequenceDef → Bool
same_sequence p q = same_name p.name q.name && (int_eq p.initial q.initial && int_eq p.increment q.increment)

abbrev pub same_sequences : List SequenceDef → List SequenceDef → Bool
same_sequences [] [] = true
same_sequences [] (q ∷ qs) = false
same_sequences (p ∷ ps) [] = false
same_sequences (p ∷ ps) (q ∷ qs) = same_sequence p q && same_sequences ps qs

-- the two schemas agree
unfoldable pub agree : SchemaData → SchemaData → Bool
agree a b = same_tables a.tables b.tables && same_sequences a.sequences b.sequences
