-- The rules F1 to F12 of a schema file, and the first that a file breaks.
use Rattle.std.specs.Prelude.{ℕ, Bool, true, false, not, ◌&&◌, ◌||◌, ◌==◌, nat_lt, nat_le, if◌then◌else◌, List, [], ◌∷◌, ◌++◌, length, Option, Some, None, is_none, ℤ, unsigned_abs}
use Rattle.std.specs.List.{flat_map, list_any}
use Rattle.abl_base.specs.declared.value.Kind.{Kind}
use Rattle.abl_base.specs.declared.rule.Rule.{Rule}
use Rattle.abl_base.specs.declared.rule.Rule.TheVariants.{F1, F2, F3, F4, F5, F6, F7, F8, F9, F10, F11, F12}
use Rattle.abl_values.specs.Schema.{canonical_text, same_name}
use Rattle.schema_lines.specs.declared.item.Component.{Component}
use Rattle.schema_lines.specs.declared.item.Head.{Head}
use Rattle.schema_lines.specs.declared.item.Head.TheVariants.{Malformed, Table, Field, Index, Sequence}
use Rattle.schema_lines.specs.declared.item.Attribute.{Attribute}
use Rattle.schema_lines.specs.declared.item.Attribute.TheVariants.{Initial, Order, Extent, Primary, IndexField, Increment}
use Rattle.schema_lines.specs.declared.item.Attributed.{Attributed}
use Rattle.schema_lines.specs.declared.item.Item.{Item}
use Rattle.schema_reader.specs.declared.violation.Violation.{Violation}
use Rattle.abl_base.specs.declared.limits.TheConstants.{MAX_TABLES, MAX_FIELDS, MAX_INDEXES, MAX_PARTS, MAX_SEQUENCES, MAX_CANONICAL_BYTES}
use Rattle.abl_values.specs.Names.{is_name}
use Rattle.abl_values.specs.Sound.{has_twice, is_among}
use Rattle.schema_lines.specs.Files.{items_of}
use Rattle.schema_lines.specs.Initials.{initial_given, mask_of}
use Rattle.schema_lines.specs.Attributes.{format_of, has, is_primary, kind_of, sequence_number}
use Rattle.schema_reader.specs.Meaning.{schema_of}

-- ---- what the items before a line have named

abbrev pub table_name : Head → List (List ℕ)
table_name (Table name) = name ∷ []
table_name head = []

abbrev pub sequence_name : Head → List (List ℕ)
sequence_name (Sequence name) = name ∷ []
sequence_name head = []

abbrev pub field_name : List ℕ → Head → List (List ℕ)
field_name t (Field name table kind) = if same_name table t then name ∷ [] else []
field_name t head = []

abbrev pub index_name : List ℕ → Head → List (List ℕ)
index_name t (Index name table) = if same_name table t then name ∷ [] else []
index_name t head = []

abbrev pub tables_in : List Item → List (List ℕ)
tables_in items = flat_map (λ i. table_name i.head) items

abbrev pub sequences_in : List Item → List (List ℕ)
sequences_in items = flat_map (λ i. sequence_name i.head) items

-- the fields of a table
abbrev pub fields_in : List Item → List ℕ → List (List ℕ)
fields_in items t = flat_map (λ i. field_name t i.head) items

-- the indexes of a table, whether usable or not
abbrev pub indexes_in : List Item → List ℕ → List (List ℕ)
indexes_in items t = flat_map (λ i. index_name t i.head) items

-- ---- conditions on the first line of an item, after the items `before` it

abbrev pub is_malformed : Head → Bool
is_malformed Malformed = true
is_malformed head = false

-- a name that is no NAME, or has more than 32 bytes
abbrev pub is_misnamed : Head → Bool
is_misnamed Malformed = false
is_misnamed (Table name) = not (is_name name)
is_misnamed (Field name table kind) = not (is_name name && is_name table)
is_misnamed (Index name table) = not (is_name name && is_name table)
is_misnamed (Sequence name) = not (is_name name)

abbrev pub repeats_table : List Item → Head → Bool
repeats_table before (Table name) = is_among name (tables_in before)
repeats_table before head = false

abbrev pub lacks_table : List Item → Head → Bool
lacks_table before (Field name table kind) = not (is_among table (tables_in before))
lacks_table before (Index name table) = not (is_among table (tables_in before))
lacks_table before head = false

abbrev pub repeats_field : List Item → Head → Bool
repeats_field before (Field name table kind) = is_among name (fields_in before table)
repeats_field before head = false

abbrev pub repeats_index : List Item → Head → Bool
repeats_index before (Index name table) = is_among name (indexes_in before table)
repeats_index before head = false

abbrev pub repeats_sequence : List Item → Head → Bool
repeats_sequence before (Sequence name) = is_among name (sequences_in before)
repeats_sequence before head = false

abbrev pub component_name : Option Component → List (List ℕ)
component_name None = []
component_name (Some c) = c.field ∷ []

abbrev pub component_line : Attribute → List (Option Component)
component_line (IndexField c) = c ∷ []
component_line attribute = []

-- the INDEX-FIELD lines of an index
abbrev pub components_of : List Attributed → List (Option Component)
components_of attributes = flat_map (λ a. component_line a.attribute) attributes

-- an index without components, or with a field twice
abbrev pub is_ill_made : List Attributed → Head → Bool
is_ill_made attributes (Index name table) =
    (length (components_of attributes) == 0) || has_twice (flat_map component_name (components_of attributes))
is_ill_made attributes head = false

-- one table, sequence, field, index or component more than there may be
abbrev pub is_past_limit : List Item → List Attributed → Head → Bool
is_past_limit before attributes Malformed = false
is_past_limit before attributes (Table name) = nat_le MAX_TABLES (length (tables_in before))
is_past_limit before attributes (Field name table kind) = nat_le MAX_FIELDS (length (fields_in before table))
is_past_limit before attributes (Index name table) =
    nat_le MAX_INDEXES (length (indexes_in before table)) || nat_lt MAX_PARTS (length (components_of attributes))
is_past_limit before attributes (Sequence name) = nat_le MAX_SEQUENCES (length (sequences_in before))

-- the canonical text of the items up to this one is above 1 MiB
abbrev pub is_past_text : List Item → Item → Bool
is_past_text before item = nat_lt MAX_CANONICAL_BYTES (length (canonical_text (schema_of (before ++ item ∷ []))))

-- a rule, and whether it is broken
pub record Condition : Type 0 where
  pub rule : Rule
  pub broken : Bool

-- the rules that the first line of an item may break, by number
abbrev pub head_conditions : List Item → Item → List Condition
head_conditions before item =
    record { rule = F1; broken = is_malformed item.head }
    ∷ record { rule = F2; broken = is_misnamed item.head }
    ∷ record { rule = F3; broken = repeats_table before item.head }
    ∷ record { rule = F4; broken = lacks_table before item.head }
    ∷ record { rule = F5; broken = repeats_field before item.head }
    ∷ record { rule = F6; broken = repeats_index before item.head }
    ∷ record { rule = F8; broken = is_ill_made item.attributes item.head }
    ∷ record { rule = F11; broken = repeats_sequence before item.head }
    ∷ record { rule = F12; broken = is_past_limit before item.attributes item.head || is_past_text before item }
    ∷ []

-- ---- conditions on an attribute line of an item

-- the component of an index has a name that is no NAME
abbrev pub names_badly : Head → Attribute → Bool
names_badly (Index name table) (IndexField (Some c)) = not (is_name c.field)
names_badly head attribute = false

-- INDEX-FIELD of a field that is not before the index, or that the line does not name
abbrev pub lacks_component : List Item → List ℕ → Option Component → Bool
lacks_component before table None = true
lacks_component before table (Some c) = not (is_among c.field (fields_in before table))

abbrev pub lacks_field : List Item → Head → Attribute → Bool
lacks_field before (Index name table) (IndexField c) = lacks_component before table c
lacks_field before head attribute = false

abbrev pub is_index_of : List ℕ → Head → Bool
is_index_of t (Index name table) = same_name table t
is_index_of t head = false

-- an index of the table that has PRIMARY
abbrev pub is_primary_of : List ℕ → Item → Bool
is_primary_of t item = is_index_of t item.head && has is_primary item.attributes

-- a second index of the table has PRIMARY
abbrev pub repeats_primary : List Item → Head → Attribute → Bool
repeats_primary before (Index name table) Primary = list_any (is_primary_of table) before
repeats_primary before head attribute = false

-- INITIAL of a field of this kind and mask
abbrev pub initial_fits : Option Kind → List ℕ → Attribute → Bool
initial_fits (Some kind) mask (Initial g) = not (is_none (initial_given kind mask g))
initial_fits kind mask attribute = true

-- ORDER or EXTENT with a number
abbrev pub number_fits : Attribute → Bool
number_fits (Order n) = not (is_none n)
number_fits (Extent n) = not (is_none n)
number_fits attribute = true

-- INITIAL of a sequence with a number
abbrev pub start_fits : Attribute → Bool
start_fits (Initial g) = not (is_none (sequence_number g))
start_fits attribute = true

abbrev pub does_not_fit : List Attributed → Head → Attribute → Bool
does_not_fit attributes (Field name table kind) attribute =
    (let kept : Option Kind = kind_of kind attributes in
    not (initial_fits kept (mask_of kept (format_of attributes)) attribute && number_fits attribute))
does_not_fit attributes (Sequence name) attribute = not (start_fits attribute)
does_not_fit attributes head attribute = false

-- an increment that is 0 or no number
abbrev pub is_no_step : Option ℤ → Bool
is_no_step None = true
is_no_step (Some n) = unsigned_abs n == 0

abbrev pub is_zero_increment : Head → Attribute → Bool
is_zero_increment (Sequence name) (Increment n) = is_no_step n
is_zero_increment head attribute = false

-- the rules that an attribute line may break, by number
abbrev pub line_conditions : List Item → Item → Attribute → List Condition
line_conditions before item attribute =
    record { rule = F2; broken = names_badly item.head attribute }
    ∷ record { rule = F7; broken = lacks_field before item.head attribute }
    ∷ record { rule = F9; broken = repeats_primary before item.head attribute }
    ∷ record { rule = F10; broken = does_not_fit item.attributes item.head attribute }
    ∷ record { rule = F11; broken = is_zero_increment item.head attribute }
    ∷ []

-- ---- the first violation

-- the first of these that is broken, at this line
abbrev pub first_broken : ℕ → List Condition → Option Violation
first_broken line [] = None
first_broken line (c ∷ cs) = if c.broken then Some (record { rule = c.rule; line = line }) else first_broken line cs

abbrev pub or_else : Option Violation → Option Violation → Option Violation
or_else None other = other
or_else (Some v) other = Some v

-- the first violation in these attribute lines of an item
abbrev pub first_in_lines : List Item → Item → List Attributed → Option Violation
first_in_lines before item [] = None
first_in_lines before item (a ∷ as_) =
    or_else (first_broken a.line (line_conditions before item a.attribute)) (first_in_lines before item as_)

-- the first violation of an item
abbrev pub first_in_item : List Item → Item → Option Violation
first_in_item before item =
    or_else (first_broken item.line (head_conditions before item)) (first_in_lines before item item.attributes)

-- the first violation in the items after the items `before`
abbrev pub first_after : List Item → List Item → Option Violation
first_after before [] = None
first_after before (item ∷ items) = or_else (first_in_item before item) (first_after (before ++ item ∷ []) items)

-- the first violation of a file: the first line that breaks a rule, and the least rule that it breaks
unfoldable pub violation_of : List ℕ → Option Violation
violation_of text = first_after [] (items_of text)
