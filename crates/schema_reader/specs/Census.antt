-- The summary of the items before a line that the code keeps, and the rules decided from it alone.
use Rattle.std.specs.Prelude.{◌≡◌, ℕ, ◌+◌, Bool, true, false, not, ◌&&◌, ◌||◌, ◌==◌, nat_lt, nat_le, if◌then◌else◌, List, [], ◌∷◌, ◌++◌, length, map, sum_by, count_by, slice_get, slice_set, slice_index_or, Option, Some, None, is_some}
use Rattle.std.specs.List.{flat_map, list_any}
use Rattle.abl_base.specs.declared.value.Kind.{Kind}
use Rattle.abl_base.specs.declared.rule.Rule.{Rule}
use Rattle.abl_base.specs.declared.rule.Rule.TheVariants.{F1, F2, F3, F4, F5, F6, F7, F8, F9, F10, F11, F12}
use Rattle.abl_values.specs.Schema.{field_line, number_of_name, same_name, sequence_line}
use Rattle.schema_lines.specs.declared.item.Component.{Component}
use Rattle.schema_lines.specs.declared.item.Head.{Head}
use Rattle.schema_lines.specs.declared.item.Head.TheVariants.{Malformed, Table, Field, Index, Sequence}
use Rattle.schema_lines.specs.declared.item.Attribute.{Attribute}
use Rattle.schema_lines.specs.declared.item.Attribute.TheVariants.{Primary, IndexField, Increment}
use Rattle.schema_lines.specs.declared.item.Attributed.{Attributed}
use Rattle.schema_lines.specs.declared.item.Item.{Item}
use Rattle.abl_values.specs.Names.{is_name}
use Rattle.schema_lines.specs.Attributes.{field_def, format_of, has, increment_of, is_primary, is_word, kind_of, start_of}
use Rattle.schema_lines.specs.Initials.{mask_of}
use Rattle.schema_reader.specs.declared.violation.Violation.{Violation}
use Rattle.abl_base.specs.declared.limits.TheConstants.{MAX_TABLES, MAX_FIELDS, MAX_INDEXES, MAX_PARTS, MAX_SEQUENCES}
use Rattle.schema_reader.specs.declared.census.Counted.{Counted}
use Rattle.schema_reader.specs.declared.census.TableCensus.{TableCensus}
use Rattle.schema_reader.specs.declared.census.Census.{Census}
use Rattle.schema_reader.specs.Rules.{indexes_in, initial_fits, is_no_step, is_primary_of, number_fits, or_else, sequences_in, start_fits, tables_in}

-- ---- what is counted

abbrev pub names_of : List Counted → List (List ℕ)
names_of counted = map (λ c. c.name) counted

-- a field of this table, and whether its kind is supported
abbrev pub counted_field : List ℕ → List Attributed → Head → List Counted
counted_field t attributes (Field name table kind) =
    if same_name table t then record { name = name; supported = is_some (kind_of kind attributes) } ∷ [] else []
counted_field t attributes head = []

abbrev pub fields_counted : List Item → List ℕ → List Counted
fields_counted items t = flat_map (λ i. counted_field t i.attributes i.head) items

abbrev pub counted_name : List ℕ → Counted
counted_name name = record { name = name; supported = true }

-- what is counted of a table in these items
abbrev pub table_counted : List Item → List ℕ → TableCensus
table_counted items t = record {
  fields = fields_counted items t;
  indexes = map counted_name (indexes_in items t);
  has_primary = list_any (is_primary_of t) items;
}

-- the census is that of these items
pub record Counts (items : List Item) (census : Census) : Type 0 where
  pub names : names_of census.names ≡ tables_in items
  pub tables : census.tables.items ≡ map (table_counted items) (tables_in items)
  pub sequences : names_of census.sequences ≡ sequences_in items

-- ---- what is looked up

abbrev pub has_name : List Counted → List ℕ → Bool
has_name counted name = is_some (number_of_name 0 (names_of counted) name)

abbrev pub table_at : List TableCensus → Option ℕ → Option TableCensus
table_at tables None = None
table_at tables (Some n) = slice_get tables n

-- what is counted of the table with this name
abbrev pub table_found : Census → List ℕ → Option TableCensus
table_found census t = table_at census.tables.items (number_of_name 0 (names_of census.names) t)

-- ---- what one more item changes

abbrev pub no_census : TableCensus
no_census = record { fields = []; indexes = []; has_primary = false }

abbrev pub with_field : Counted → TableCensus → TableCensus
with_field field table = record table { fields = table.fields ++ field ∷ [] }

abbrev pub with_index : List ℕ → Bool → TableCensus → TableCensus
with_index name primary table =
    record table { indexes = table.indexes ++ counted_name name ∷ []; has_primary = table.has_primary || primary }

-- the table with this number changed
abbrev pub changed_at : List TableCensus → Option ℕ → (TableCensus → TableCensus) → List TableCensus
changed_at tables None change = tables
changed_at tables (Some n) change = slice_set tables n (change (slice_index_or tables n no_census))

abbrev pub names_after : List Counted → Head → List Counted
names_after names (Table name) = names ++ counted_name name ∷ []
names_after names head = names

abbrev pub sequences_after : List Counted → Head → List Counted
sequences_after sequences (Sequence name) = sequences ++ counted_name name ∷ []
sequences_after sequences head = sequences

abbrev pub tables_after : Census → List Attributed → Head → List TableCensus
tables_after census attributes (Table name) = census.tables.items ++ no_census ∷ []
tables_after census attributes (Field name table kind) =
    changed_at census.tables.items (number_of_name 0 (names_of census.names) table)
    (with_field (record { name = name; supported = is_some (kind_of kind attributes) }))
tables_after census attributes (Index name table) =
    changed_at census.tables.items (number_of_name 0 (names_of census.names) table) (with_index name (has is_primary attributes))
tables_after census attributes head = census.tables.items

-- ---- the rule that the first line of an item breaks, save the length of the canonical text

abbrev pub name_rule : List Counted → List ℕ → Rule → ℕ → Option Rule
name_rule names name taken most =
    if not (is_name name) then Some F2
    else if has_name names name then Some taken
    else if nat_le most (length names) then Some F12
    else None

abbrev pub field_rule_in : List ℕ → Option TableCensus → Option Rule
field_rule_in name None = Some F4
field_rule_in name (Some counted) =
    if has_name counted.fields name then Some F5 else if nat_le MAX_FIELDS (length counted.fields) then Some F12 else None

abbrev pub field_rule : Option TableCensus → List ℕ → List ℕ → Option Rule
field_rule counted name table =
    if not (is_name name && is_name table) then Some F2 else field_rule_in name counted

abbrev pub is_component : Attribute → Bool
is_component (IndexField c) = true
is_component attribute = false

abbrev pub component_count : List Attributed → ℕ
component_count attributes = count_by (λ a. is_component a.attribute) attributes

abbrev pub is_component_named : List ℕ → Option Component → Bool
is_component_named name None = false
is_component_named name (Some c) = same_name c.field name

-- an INDEX-FIELD line of this field
abbrev pub is_field_named : List ℕ → Attribute → Bool
is_field_named name (IndexField c) = is_component_named name c
is_field_named name attribute = false

abbrev pub is_component_again : List Attributed → Option Component → Bool
is_component_again attributes None = false
is_component_again attributes (Some c) = list_any (λ a. is_field_named c.field a.attribute) attributes

-- an INDEX-FIELD line of a field that these lines name again
abbrev pub is_named_again : List Attributed → Attribute → Bool
is_named_again attributes (IndexField c) = is_component_again attributes c
is_named_again attributes attribute = false

abbrev pub names_twice : List Attributed → Bool
names_twice [] = false
names_twice (a ∷ as_) = is_named_again as_ a.attribute || names_twice as_

abbrev pub index_rule_in : List ℕ → List Attributed → Option TableCensus → Option Rule
index_rule_in name attributes None = Some F4
index_rule_in name attributes (Some counted) =
    if has_name counted.indexes name then Some F6
    else if (component_count attributes == 0) || names_twice attributes then Some F8
    else if nat_le MAX_INDEXES (length counted.indexes) || nat_lt MAX_PARTS (component_count attributes) then Some F12
    else None

abbrev pub index_rule : Option TableCensus → List ℕ → List ℕ → List Attributed → Option Rule
index_rule counted name table attributes =
    if not (is_name name && is_name table) then Some F2 else index_rule_in name attributes counted

abbrev pub head_rule_in : Census → List Attributed → Head → Option Rule
head_rule_in census attributes Malformed = Some F1
head_rule_in census attributes (Table name) = name_rule census.names name F3 MAX_TABLES
head_rule_in census attributes (Field name table kind) = field_rule (table_found census table) name table
head_rule_in census attributes (Index name table) = index_rule (table_found census table) name table attributes
head_rule_in census attributes (Sequence name) = name_rule census.sequences name F11 MAX_SEQUENCES

-- ---- the rule that an attribute line breaks

abbrev pub component_rule : TableCensus → Option Component → Option Rule
component_rule counted None = Some F7
component_rule counted (Some c) =
    if not (is_name c.field) then Some F2 else if has_name counted.fields c.field then None else Some F7

abbrev pub index_line_rule : TableCensus → Attribute → Option Rule
index_line_rule counted (IndexField c) = component_rule counted c
index_line_rule counted Primary = if counted.has_primary then Some F9 else None
index_line_rule counted attribute = None

abbrev pub index_line_rule_in : Option TableCensus → Attribute → Option Rule
index_line_rule_in None attribute = None
index_line_rule_in (Some counted) attribute = index_line_rule counted attribute

abbrev pub field_line_rule : Option Kind → List Attributed → Attribute → Option Rule
field_line_rule kind attributes attribute =
    (let kept : Option Kind = kind_of kind attributes in
    if initial_fits kept (mask_of kept (format_of attributes)) attribute && number_fits attribute then None else Some F10)

-- INCREMENT of 0 or without a number
abbrev pub is_zero_step : Attribute → Bool
is_zero_step (Increment n) = is_no_step n
is_zero_step attribute = false

abbrev pub sequence_line_rule : Attribute → Option Rule
sequence_line_rule attribute =
    if not (start_fits attribute) then Some F10 else if is_zero_step attribute then Some F11 else None

abbrev pub line_rule_in : Census → List Attributed → Head → Attribute → Option Rule
line_rule_in census attributes (Field name table kind) attribute = field_line_rule kind attributes attribute
line_rule_in census attributes (Index name table) attribute = index_line_rule_in (table_found census table) attribute
line_rule_in census attributes (Sequence name) attribute = sequence_line_rule attribute
line_rule_in census attributes head attribute = None

abbrev pub at_line : ℕ → Option Rule → Option Violation
at_line line None = None
at_line line (Some rule) = Some (record { rule = rule; line = line })

-- the first violation in these attribute lines of an item
abbrev pub line_violation_in : Census → Item → List Attributed → Option Violation
line_violation_in census item [] = None
line_violation_in census item (a ∷ as_) =
    or_else (at_line a.line (line_rule_in census item.attributes item.head a.attribute)) (line_violation_in census item as_)

-- ---- the bytes of the item's own lines in the canonical text

-- the kind of the counted field with this number is supported
abbrev pub is_supported : List Counted → Option ℕ → Bool
is_supported fields None = true
is_supported fields (Some n) = (slice_index_or fields n (counted_name [])).supported

abbrev pub part_is_supported : List Counted → Option Component → Bool
part_is_supported fields None = true
part_is_supported fields (Some c) = is_supported fields (number_of_name 0 (names_of fields) c.field)

abbrev pub line_is_supported : List Counted → Attribute → Bool
line_is_supported fields (IndexField c) = part_is_supported fields c
line_is_supported fields attribute = true

abbrev pub part_bytes : List Counted → Option Component → ℕ
part_bytes fields None = 0
part_bytes fields (Some c) = if has_name fields c.field then length c.field + 3 else 0

abbrev pub line_bytes : List Counted → Attribute → ℕ
line_bytes fields (IndexField c) = part_bytes fields c
line_bytes fields attribute = 0

abbrev pub index_bytes : List Counted → List ℕ → List Attributed → ℕ
index_bytes fields name attributes =
    if has is_word attributes || list_any (λ a. not (line_is_supported fields a.attribute)) attributes then 0
    else length name + 7 + sum_by (λ a. line_bytes fields a.attribute) attributes

abbrev pub index_bytes_in : List ℕ → List Attributed → Option TableCensus → ℕ
index_bytes_in name attributes None = 0
index_bytes_in name attributes (Some counted) = index_bytes counted.fields name attributes

abbrev pub item_bytes : Census → List Attributed → Head → ℕ
item_bytes census attributes Malformed = 0
item_bytes census attributes (Table name) = length name + 3
item_bytes census attributes (Field name table kind) =
    length (field_line (field_def name (kind_of kind attributes) attributes))
item_bytes census attributes (Index name table) = index_bytes_in name attributes (table_found census table)
item_bytes census attributes (Sequence name) =
    length (sequence_line (record { name = name; initial = start_of attributes; increment = increment_of attributes }))
