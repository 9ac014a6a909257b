-- The schema that a file without violation means.
use Rattle.std.specs.Prelude.{ℕ, Bool, true, false, not, ◌&&◌, nat_le, if◌then◌else◌, List, [], ◌∷◌, map, position, slice_index_or, Option, Some, None, is_some}
use Rattle.std.specs.List.{flat_map, list_all}
use Rattle.abl_base.specs.declared.value.Kind.{Kind}
use Rattle.abl_values.specs.declared.schema.FieldDef.{FieldDef}
use Rattle.abl_values.specs.declared.schema.KeyPart.{KeyPart}
use Rattle.abl_values.specs.declared.schema.IndexDef.{IndexDef}
use Rattle.abl_values.specs.declared.schema.TableDef.{TableDef}
use Rattle.abl_values.specs.declared.schema.SequenceDef.{SequenceDef}
use Rattle.abl_values.specs.Schema.{SchemaData, field_names, no_field, number_of_name, same_name}
use Rattle.schema_lines.specs.declared.item.Component.{Component}
use Rattle.schema_lines.specs.declared.item.Head.{Head}
use Rattle.schema_lines.specs.declared.item.Head.TheVariants.{Table, Field, Index, Sequence}
use Rattle.schema_lines.specs.declared.item.Attribute.{Attribute}
use Rattle.schema_lines.specs.declared.item.Attribute.TheVariants.{IndexField}
use Rattle.schema_lines.specs.declared.item.Attributed.{Attributed}
use Rattle.schema_lines.specs.declared.item.Item.{Item}
use Rattle.schema_lines.specs.Attributes.{field_def, has, increment_of, is_primary, is_unique, is_word, kind_of, order_of, start_of}

-- ---- fields

-- a field and the number of its ORDER
pub record Ordered : Type 0 where
  pub order : ℕ
  pub field : FieldDef

abbrev pub ordered_field : List ℕ → Option Kind → List Attributed → Ordered
ordered_field name kind attributes =
    record { order = order_of attributes; field = field_def name (kind_of kind attributes) attributes }

-- an item as a field of this table
abbrev pub field_said : List ℕ → List Attributed → Head → List Ordered
field_said t attributes (Field name table kind) =
    if same_name table t then ordered_field name kind attributes ∷ [] else []
field_said t attributes head = []

-- the fields of a table in the order of the file
abbrev pub fields_in_text : List Item → List ℕ → List Ordered
fields_in_text items t = flat_map (λ i. field_said t i.attributes i.head) items

-- a field before these in order: before the first whose ORDER is not less
abbrev pub placed : Ordered → List Ordered → List Ordered
placed f [] = f ∷ []
placed f (g ∷ gs) = if nat_le f.order g.order then f ∷ g ∷ gs else g ∷ placed f gs

-- by ORDER, and fields of the same ORDER in the order of the file
abbrev pub by_order : List Ordered → List Ordered
by_order [] = []
by_order (f ∷ fs) = placed f (by_order fs)

-- the fields of a table
abbrev pub fields_of : List Item → List ℕ → List FieldDef
fields_of items t = map (λ f. f.field) (by_order (fields_in_text items t))

-- ---- indexes

abbrev pub part_named : Option ℕ → Bool → List KeyPart
part_named None descending = []
part_named (Some n) descending = record { field = n; descending = descending } ∷ []

abbrev pub part_of : List FieldDef → Option Component → List KeyPart
part_of fields None = []
part_of fields (Some c) = part_named (number_of_name 0 (field_names fields) c.field) c.descending

abbrev pub part_said : List FieldDef → Attribute → List KeyPart
part_said fields (IndexField c) = part_of fields c
part_said fields attribute = []

-- the components of an index, by the numbers of their fields
abbrev pub parts_of : List FieldDef → List Attributed → List KeyPart
parts_of fields attributes = flat_map (λ a. part_said fields a.attribute) attributes

-- every component is of a supported kind
abbrev pub are_supported : List FieldDef → List KeyPart → Bool
are_supported fields parts = list_all (λ p. is_some (slice_index_or fields p.field no_field).kind) parts

-- an index that is no WORD index and has no component of an unsupported kind
abbrev pub is_usable : List FieldDef → List Attributed → Bool
is_usable fields attributes = not (has is_word attributes) && are_supported fields (parts_of fields attributes)

-- a usable index, and whether it has PRIMARY
pub record Listed : Type 0 where
  pub primary : Bool
  pub index : IndexDef

abbrev pub listed_index : List FieldDef → List ℕ → List Attributed → Listed
listed_index fields name attributes = record {
  primary = has is_primary attributes;
  index = record { name = name; unique = has is_unique attributes; parts = parts_of fields attributes };
}

-- an item as a usable index of this table
abbrev pub index_said : List FieldDef → List ℕ → List Attributed → Head → List Listed
index_said fields t attributes (Index name table) =
    if same_name table t && is_usable fields attributes then listed_index fields name attributes ∷ [] else []
index_said fields t attributes head = []

-- the usable indexes of a table
abbrev pub indexes_of : List Item → List FieldDef → List ℕ → List Listed
indexes_of items fields t = flat_map (λ i. index_said fields t i.attributes i.head) items

abbrev pub first_number : List Listed → Option ℕ
first_number [] = None
first_number (i ∷ is) = Some 0

-- the number of the index with PRIMARY, else of the first
abbrev pub primary_of : List Listed → Option ℕ
primary_of indexes =
    (let with_primary : Option ℕ = position (λ i. i.primary) indexes in
    if is_some with_primary then with_primary else first_number indexes)

-- ---- tables and sequences

abbrev pub table_def : List Item → List ℕ → TableDef
table_def items t =
    (let fields : List FieldDef = fields_of items t in
    let indexes : List Listed = indexes_of items fields t in
    record { name = t; fields = fields; indexes = map (λ i. i.index) indexes; primary = primary_of indexes })

abbrev pub table_said : List Item → Head → List TableDef
table_said items (Table name) = table_def items name ∷ []
table_said items head = []

abbrev pub sequence_said : List Attributed → Head → List SequenceDef
sequence_said attributes (Sequence name) =
    record { name = name; initial = start_of attributes; increment = increment_of attributes } ∷ []
sequence_said attributes head = []

-- true for a table and false for a sequence
abbrev pub order_said : Head → List Bool
order_said (Table name) = true ∷ []
order_said (Sequence name) = false ∷ []
order_said head = []

-- the schema that the items mean
unfoldable pub schema_of : List Item → SchemaData
schema_of items = record {
  tables = flat_map (λ i. table_said items i.head) items;
  sequences = flat_map (λ i. sequence_said i.attributes i.head) items;
  order = flat_map (λ i. order_said i.head) items;
}
