-- The rules that a line breaks, computed from the census of the preceding items.
use Rattle.std.proofs.Common.{◌≡◌, ℕ, ◌+◌, ◌==◌, Bool, true, false, not, ◌&&◌, ◌||◌, cond, List, [], ◌∷◌, ◌++◌, length, Option, Some, None, refl, sym, ap, ◌∙◌, arith}
use Rattle.std.specs.Prelude.{nat_le, nat_lt}
use Rattle.std.specs.List.{flat_map, list_any}
use Rattle.std.proofs.lemmas.Bool.{not-false}
use Rattle.std.proofs.lemmas.List.{length-map}
use Rattle.std.proofs.lemmas.List.Sums.{sum_by-cons}
use Rattle.abl_base.specs.declared.rule.Rule.{Rule}
use Rattle.abl_base.specs.declared.rule.Rule.TheVariants.{F1, F2, F3, F4, F5, F6, F7, F8, F9, F10, F11, F12}
use Rattle.abl_values.specs.Schema.{same_name}
use Rattle.schema_lines.specs.declared.item.Head.{Head}
use Rattle.schema_lines.specs.declared.item.Head.TheVariants.{Malformed, Table, Field, Index, Sequence}
use Rattle.schema_lines.specs.declared.item.Attribute.{Attribute}
use Rattle.schema_lines.specs.declared.item.Attribute.TheVariants.{Initial, Format, Mandatory, Order, Extent, Unique, Primary, Word, IndexField, Increment}
use Rattle.schema_lines.specs.declared.item.Attributed.{Attributed}
use Rattle.schema_lines.specs.declared.item.Item.{Item}
use Rattle.abl_values.specs.Names.{is_name}
use Rattle.schema_lines.specs.Attributes.{format_of, kind_of}
use Rattle.schema_lines.specs.Initials.{mask_of}
use Rattle.abl_base.specs.declared.limits.TheConstants.{MAX_TABLES, MAX_FIELDS, MAX_INDEXES, MAX_PARTS, MAX_SEQUENCES}
use Rattle.schema_reader.specs.declared.census.Counted.{Counted}
use Rattle.schema_reader.specs.declared.census.Census.{Census}
use Rattle.schema_reader.specs.Rules.{Condition, component_line, component_name, components_of, fields_in, first_broken, first_in_lines, indexes_in, initial_fits, is_ill_made, is_malformed, is_misnamed, is_past_limit, is_primary_of, lacks_table, line_conditions, number_fits, or_else, repeats_field, repeats_index, repeats_sequence, repeats_table, is_zero_increment, start_fits, tables_in, sequences_in}
use Rattle.abl_values.specs.Sound.{has_twice, is_among}
use Rattle.schema_reader.specs.Census.{Counts, at_line, component_count, field_rule, has_name, head_rule_in, index_line_rule, index_line_rule_in, index_rule, is_component, is_field_named, is_named_again, is_zero_step, line_rule_in, line_violation_in, name_rule, names_of, names_twice, table_counted}
use Rattle.schema_reader.proofs.Counting.{has_name-field, has_name-index, is_some-number_of_name, length-fields_counted, length-indexes_counted, table_found-is}

-- ---- the first line of an item

-- the rules that it may break, except the length of the canonical text
abbrev pub own_conditions : List Item → List Attributed → Head → List Condition
own_conditions before attributes head =
    record { rule = F1; broken = is_malformed head }
    ∷ record { rule = F2; broken = is_misnamed head }
    ∷ record { rule = F3; broken = repeats_table before head }
    ∷ record { rule = F4; broken = lacks_table before head }
    ∷ record { rule = F5; broken = repeats_field before head }
    ∷ record { rule = F6; broken = repeats_index before head }
    ∷ record { rule = F8; broken = is_ill_made attributes head }
    ∷ record { rule = F11; broken = repeats_sequence before head }
    ∷ record { rule = F12; broken = is_past_limit before attributes head }
    ∷ []

abbrev pub first_rule : List Condition → Option Rule
first_rule [] = None
first_rule (c ∷ cs) = cond c.broken (Some c.rule) (first_rule cs)

abbrev pub head_rule : List Item → List Attributed → Head → Option Rule
head_rule before attributes head = first_rule (own_conditions before attributes head)

name_rule-told : (counted : List Counted) (names : List (List ℕ)) (name : List ℕ) (taken : Rule) (most : ℕ) → names_of counted ≡ names
    → name_rule counted name taken most ≡ cond (not (is_name name)) (Some F2) (cond (is_among name names) (Some taken) (cond (nat_le most (length names)) (Some F12) None))
name_rule-told counted names name taken most h =
    ap (λ b. cond (not (is_name name)) (Some F2) (cond b (Some taken) (cond (nat_le most (length counted)) (Some F12) None)))
    (is_some-number_of_name 0 (names_of counted) name ∙ ap (is_among name) h)
    ∙ ap (λ n. cond (not (is_name name)) (Some F2) (cond (is_among name names) (Some taken) (cond (nat_le most n) (Some F12) None)))
    (sym (length-map counted (λ c. c.name)) ∙ ap length h)

component_count-is : (attributes : List Attributed) → component_count attributes ≡ length (components_of attributes)
component_count-is [] = refl
component_count-is (a ∷ as_) = sum_by-cons (λ (x : Attributed). cond (is_component x.attribute) 1 0) a as_ ∙ one a.attribute (component_count-is as_)
  where
    one : (a : Attribute) → component_count as_ ≡ length (components_of as_) → cond (is_component a) 1 0 + component_count as_ ≡ length (component_line a ++ components_of as_)
    one (IndexField c) again = omega arith
    one (Initial g) again = omega arith
    one (Format g) again = omega arith
    one Mandatory again = omega arith
    one (Order g) again = omega arith
    one (Extent g) again = omega arith
    one Unique again = omega arith
    one Primary again = omega arith
    one Word again = omega arith
    one (Increment g) again = omega arith

abbrev fields_named : List Attributed → List (List ℕ)
fields_named attributes = flat_map component_name (components_of attributes)

is_among-fields_named : (name : List ℕ) (attributes : List Attributed) → list_any (λ a. is_field_named name a.attribute) attributes ≡ is_among name (fields_named attributes)
is_among-fields_named name [] = refl
is_among-fields_named name (a ∷ as_) = one a.attribute (is_among-fields_named name as_)
  where
    one : (a : Attribute) → list_any (λ a. is_field_named name a.attribute) as_ ≡ is_among name (fields_named as_)
        → (is_field_named name a || list_any (λ a. is_field_named name a.attribute) as_) ≡ is_among name (flat_map component_name (component_line a ++ components_of as_))
    one (IndexField (Some c)) again = ap (λ b. same_name c.field name || b) again
    one (IndexField None) again = again
    one (Initial g) again = again
    one (Format g) again = again
    one Mandatory again = again
    one (Order g) again = again
    one (Extent g) again = again
    one Unique again = again
    one Primary again = again
    one Word again = again
    one (Increment g) again = again

names_twice-is : (attributes : List Attributed) → names_twice attributes ≡ has_twice (fields_named attributes)
names_twice-is [] = refl
names_twice-is (a ∷ as_) = one a.attribute (names_twice-is as_)
  where
    one : (a : Attribute) → names_twice as_ ≡ has_twice (fields_named as_) → (is_named_again as_ a || names_twice as_) ≡ has_twice (flat_map component_name (component_line a ++ components_of as_))
    one (IndexField (Some c)) again =
        ap (λ b. b || names_twice as_) (is_among-fields_named c.field as_) ∙ ap (λ b. is_among c.field (fields_named as_) || b) again
    one (IndexField None) again = again
    one (Initial g) again = again
    one (Format g) again = again
    one Mandatory again = again
    one (Order g) again = again
    one (Extent g) again = again
    one Unique again = again
    one Primary again = again
    one Word again = again
    one (Increment g) again = again

abbrev field_rules : List ℕ → List ℕ → Bool → ℕ → Option Rule
field_rules name table taken n = cond (not (is_name name && is_name table)) (Some F2) (cond taken (Some F5) (cond (nat_le MAX_FIELDS n) (Some F12) None))

abbrev index_rules : List ℕ → List ℕ → Bool → ℕ → Bool → ℕ → Option Rule
index_rules name table taken parts twice n =
    cond (not (is_name name && is_name table)) (Some F2) (cond taken (Some F6) (cond ((parts == 0) || twice) (Some F8) (cond (nat_le MAX_INDEXES n || nat_lt MAX_PARTS parts) (Some F12) None)))

-- the first rule that the first line of an item breaks, except the length of the canonical text
pub head_rule-told : (before : List Item) (census : Census) (attributes : List Attributed) (head : Head) → Counts before census → head_rule_in census attributes head ≡ head_rule before attributes head
head_rule-told before census attributes Malformed c = refl
head_rule-told before census attributes (Table name) c = name_rule-told census.names (tables_in before) name F3 MAX_TABLES c.names
head_rule-told before census attributes (Sequence name) c = name_rule-told census.sequences (sequences_in before) name F11 MAX_SEQUENCES c.sequences
head_rule-told before census attributes (Field name table kind) c =
    ap (λ o. field_rule o name table) (table_found-is before census table c) ∙ go (is_among table (tables_in before))
  where
    go : (b : Bool) → field_rule (cond b (Some (table_counted before table)) None) name table
        ≡ cond (not (is_name name && is_name table)) (Some F2) (cond (not b) (Some F4) (cond (is_among name (fields_in before table)) (Some F5) (cond (nat_le MAX_FIELDS (length (fields_in before table))) (Some F12) None)))
    go false = refl
    go true =
        ap (λ b. field_rules name table b (length (table_counted before table).fields)) (has_name-field before table name)
        ∙ ap (field_rules name table (is_among name (fields_in before table))) (length-fields_counted before table)
head_rule-told before census attributes (Index name table) c =
    ap (λ o. index_rule o name table attributes) (table_found-is before census table c) ∙ go (is_among table (tables_in before))
  where
    go : (b : Bool) → index_rule (cond b (Some (table_counted before table)) None) name table attributes
        ≡ cond (not (is_name name && is_name table)) (Some F2) (cond (not b) (Some F4) (cond (is_among name (indexes_in before table)) (Some F6)
        (cond ((length (components_of attributes) == 0) || has_twice (fields_named attributes)) (Some F8)
        (cond (nat_le MAX_INDEXES (length (indexes_in before table)) || nat_lt MAX_PARTS (length (components_of attributes))) (Some F12) None))))
    go false = refl
    go true =
        ap (λ b. index_rules name table b (component_count attributes) (names_twice attributes) (length (table_counted before table).indexes)) (has_name-index before table name)
        ∙ ap (λ n. index_rules name table (is_among name (indexes_in before table)) n (names_twice attributes) (length (table_counted before table).indexes)) (component_count-is attributes)
        ∙ ap (λ b. index_rules name table (is_among name (indexes_in before table)) (length (components_of attributes)) b (length (table_counted before table).indexes)) (names_twice-is attributes)
        ∙ ap (index_rules name table (is_among name (indexes_in before table)) (length (components_of attributes)) (has_twice (fields_named attributes))) (length-indexes_counted before table)

-- ---- an attribute line

module _ (before : List Item) (census : Census) (c : Counts before census) (line : ℕ) where
  field_told : (b : Bool) → at_line line (cond b None (Some F10)) ≡ cond (not b) (Some (record { rule = F10; line = line })) None
  field_told true = refl
  field_told false = refl

  two_rules : (p q : Bool) (r s : Rule) → at_line line (cond p (Some r) (cond q (Some s) None)) ≡ cond p (Some (record { rule = r; line = line })) (cond q (Some (record { rule = s; line = line })) None)
  two_rules true q r s = refl
  two_rules false true r s = refl
  two_rules false false r s = refl

  component_told : (p q : Bool) → at_line line (cond p (Some F2) (cond q None (Some F7))) ≡ cond p (Some (record { rule = F2; line = line })) (cond (not q) (Some (record { rule = F7; line = line })) None)
  component_told true q = refl
  component_told false true = refl
  component_told false false = refl

  index_line-told : (number : ℕ) (attributes : List Attributed) (name table : List ℕ) (a : Attribute)
      → at_line line (index_line_rule (table_counted before table) a) ≡ first_broken line (line_conditions before (record { line = number; head = Index name table; attributes = attributes }) a)
  index_line-told number attributes name table (IndexField None) = refl
  index_line-told number attributes name table (IndexField (Some k)) =
      component_told (not (is_name k.field)) (has_name (table_counted before table).fields k.field)
      ∙ ap (λ b. cond (not (is_name k.field)) (Some (record { rule = F2; line = line })) (cond (not b) (Some (record { rule = F7; line = line })) None)) (has_name-field before table k.field)
  index_line-told number attributes name table Primary = two_rules false (list_any (is_primary_of table) before) F2 F9
  index_line-told number attributes name table (Initial g) = refl
  index_line-told number attributes name table (Format g) = refl
  index_line-told number attributes name table Mandatory = refl
  index_line-told number attributes name table (Order g) = refl
  index_line-told number attributes name table (Extent g) = refl
  index_line-told number attributes name table Unique = refl
  index_line-told number attributes name table Word = refl
  index_line-told number attributes name table (Increment g) = refl

  standstill : (name : List ℕ) (a : Attribute) → is_zero_step a ≡ is_zero_increment (Sequence name) a
  standstill name (IndexField k) = refl
  standstill name (Initial g) = refl
  standstill name (Format g) = refl
  standstill name Mandatory = refl
  standstill name (Order g) = refl
  standstill name (Extent g) = refl
  standstill name Unique = refl
  standstill name Primary = refl
  standstill name Word = refl
  standstill name (Increment g) = refl

  line_rule-told : (number : ℕ) (attributes : List Attributed) (head : Head) (a : Attribute) → lacks_table before head ≡ false
      → at_line line (line_rule_in census attributes head a) ≡ first_broken line (line_conditions before (record { line = number; head = head; attributes = attributes }) a)
  line_rule-told number attributes Malformed a h = refl
  line_rule-told number attributes (Table name) a h = refl
  line_rule-told number attributes (Field name table kind) a h =
      field_told (initial_fits (kind_of kind attributes) (mask_of (kind_of kind attributes) (format_of attributes)) a && number_fits a)
  line_rule-told number attributes (Index name table) a h =
      ap (λ o. at_line line (index_line_rule_in o a))
      (table_found-is before census table c ∙ ap (λ b. cond b (Some (table_counted before table)) None) (not-false (is_among table (tables_in before)) h))
      ∙ index_line-told number attributes name table a
  line_rule-told number attributes (Sequence name) a h =
      two_rules (not (start_fits a)) (is_zero_step a) F10 F11
      ∙ ap (λ b. cond (not (start_fits a)) (Some (record { rule = F10; line = line })) (cond b (Some (record { rule = F11; line = line })) None)) (standstill name a)

-- the first violation in attribute lines
pub line_violation-told : (before : List Item) (census : Census) (item : Item) → Counts before census → lacks_table before item.head ≡ false → (lines : List Attributed)
    → line_violation_in census item lines ≡ first_in_lines before item lines
line_violation-told before census item c h [] = refl
line_violation-told before census item c h (a ∷ as_) =
    ap (λ o. or_else o (line_violation_in census item as_)) (line_rule-told before census c a.line item.line item.attributes item.head a.attribute h)
    ∙ ap (or_else (first_broken a.line (line_conditions before item a.attribute))) (line_violation-told before census item c h as_)
