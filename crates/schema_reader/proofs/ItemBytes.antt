-- The bytes of an item's own line, computed from the census of the items before it.
use Rattle.std.proofs.Common.{◌≡◌, ℕ, suc, ◌+◌, Bool, true, false, not, ◌&&◌, ◌||◌, cond, List, [], ◌∷◌, ◌++◌, length, map, Option, Some, None, refl, sym, ap, ◌∙◌, arith, length-append}
use Rattle.std.specs.Prelude.{codes, is_some, option_map, sum_by}
use Rattle.std.specs.List.{list_any}
use Rattle.std.proofs.lemmas.Bool.{not-false}
use Rattle.std.proofs.lemmas.List.{length-map}
use Rattle.std.proofs.lemmas.List.Sums.{sum_by-cons}
use Rattle.abl_base.specs.declared.value.Kind.{Kind}
use Rattle.abl_values.specs.declared.schema.FieldDef.{FieldDef}
use Rattle.abl_values.specs.Order.{folded, folded_byte}
use Rattle.abl_values.specs.Schema.{field_names, number_of_name, same_name}
use Rattle.schema_lines.specs.declared.item.Head.{Head}
use Rattle.schema_lines.specs.declared.item.Head.TheVariants.{Malformed, Table, Field, Index, Sequence}
use Rattle.schema_lines.specs.declared.item.Attribute.{Attribute}
use Rattle.schema_lines.specs.declared.item.Attribute.TheVariants.{Initial, Format, Mandatory, Order, Extent, Unique, Primary, Word, IndexField, Increment}
use Rattle.schema_lines.specs.declared.item.Attributed.{Attributed}
use Rattle.schema_lines.specs.declared.item.Item.{Item}
use Rattle.schema_lines.specs.Attributes.{has, is_word, kind_of}
use Rattle.schema_reader.specs.declared.census.Counted.{Counted}
use Rattle.schema_reader.specs.declared.census.Census.{Census}
use Rattle.schema_reader.specs.Meaning.{fields_in_text, field_said, ordered_field}
use Rattle.schema_reader.specs.Rules.{first_after, lacks_table, tables_in}
use Rattle.abl_values.specs.Sound.{is_among}
use Rattle.schema_reader.specs.Census.{Counts, counted_field, fields_counted, index_bytes, index_bytes_in, is_supported, item_bytes, line_bytes, line_is_supported, names_of, table_counted}
use Rattle.schema_reader.proofs.SizesFound.{are_components_supported, field_in, found, is_attribute_supported, is_found_supported}
use Rattle.schema_reader.proofs.SizesLines.{total}
use Rattle.schema_reader.proofs.SizesAdded.{line_said}
use Rattle.schema_reader.proofs.SizesIndex.{attribute_size, index_size, number_of_name-found, own_index_line-length}
use Rattle.schema_reader.proofs.Counting.{number_of_name-suc, table_found-is}

-- what is counted of a field
abbrev counted : FieldDef → Counted
counted f = record { name = f.name; supported = is_some f.kind }

fields_counted-are : (items : List Item) (t : List ℕ) → fields_counted items t ≡ map counted (map field_in (fields_in_text items t))
fields_counted-are [] t = refl
fields_counted-are (i ∷ is) t = one i.attributes i.head (fields_counted-are is t)
  where
    one_field : (name : List ℕ) (kind : Option Kind) (attributes : List Attributed) (b : Bool) → fields_counted is t ≡ map counted (map field_in (fields_in_text is t))
        → cond b (record { name = name; supported = is_some (kind_of kind attributes) } ∷ []) [] ++ fields_counted is t ≡ map counted (map field_in (cond b (ordered_field name kind attributes ∷ []) [] ++ fields_in_text is t))
    one_field name kind attributes true again = ap (λ cs. counted (ordered_field name kind attributes).field ∷ cs) again
    one_field name kind attributes false again = again

    one : (attributes : List Attributed) (head : Head) → fields_counted is t ≡ map counted (map field_in (fields_in_text is t))
        → counted_field t attributes head ++ fields_counted is t ≡ map counted (map field_in (field_said t attributes head ++ fields_in_text is t))
    one attributes (Field name table kind) again = one_field name kind attributes (same_name table t) again
    one attributes (Table name) again = again
    one attributes (Index name table) again = again
    one attributes Malformed again = again
    one attributes (Sequence name) again = again

names_of-map : (fs : List FieldDef) → names_of (map counted fs) ≡ field_names fs
names_of-map [] = refl
names_of-map (f ∷ fs) = ap (λ ns. f.name ∷ ns) (names_of-map fs)

is_supported-suc : (c : Counted) (cs : List Counted) (o : Option ℕ) → is_supported (c ∷ cs) (option_map suc o) ≡ is_supported cs o
is_supported-suc c cs None = refl
is_supported-suc c cs (Some k) = refl

is_supported-found : (fs : List FieldDef) (name : List ℕ) → is_supported (map counted fs) (number_of_name 0 (field_names fs) name) ≡ is_found_supported (found fs name)
is_supported-found [] name = refl
is_supported-found (f ∷ fs) name = go (same_name f.name name) (is_supported-found fs name)
  where
    go : (b : Bool) → is_supported (map counted fs) (number_of_name 0 (field_names fs) name) ≡ is_found_supported (found fs name)
        → is_supported (counted f ∷ map counted fs) (cond b (Some 0) (number_of_name 1 (field_names fs) name)) ≡ is_found_supported (cond b (Some f) (found fs name))
    go true again = refl
    go false again =
        ap (is_supported (counted f ∷ map counted fs)) (number_of_name-suc 0 (field_names fs) name)
        ∙ is_supported-suc (counted f) (map counted fs) (number_of_name 0 (field_names fs) name) ∙ again

line_is_supported-is : (fs : List FieldDef) (a : Attribute) → line_is_supported (map counted fs) a ≡ is_attribute_supported fs a
line_is_supported-is fs (IndexField (Some c)) =
    ap (λ ns. is_supported (map counted fs) (number_of_name 0 ns c.field)) (names_of-map fs) ∙ is_supported-found fs c.field
line_is_supported-is fs (IndexField None) = refl
line_is_supported-is fs (Initial g) = refl
line_is_supported-is fs (Format g) = refl
line_is_supported-is fs Mandatory = refl
line_is_supported-is fs (Order g) = refl
line_is_supported-is fs (Extent g) = refl
line_is_supported-is fs Unique = refl
line_is_supported-is fs Primary = refl
line_is_supported-is fs Word = refl
line_is_supported-is fs (Increment g) = refl

line_bytes-is : (fs : List FieldDef) (a : Attribute) → line_bytes (map counted fs) a ≡ attribute_size fs a
line_bytes-is fs (IndexField (Some c)) =
    ap (λ b. cond b (length c.field + 3) 0) (ap (λ ns. is_some (number_of_name 0 ns c.field)) (names_of-map fs) ∙ number_of_name-found 0 fs c.field)
line_bytes-is fs (IndexField None) = refl
line_bytes-is fs (Initial g) = refl
line_bytes-is fs (Format g) = refl
line_bytes-is fs Mandatory = refl
line_bytes-is fs (Order g) = refl
line_bytes-is fs (Extent g) = refl
line_bytes-is fs Unique = refl
line_bytes-is fs Primary = refl
line_bytes-is fs Word = refl
line_bytes-is fs (Increment g) = refl

lines_bytes-are : (fs : List FieldDef) (as_ : List Attributed) → sum_by (λ a. line_bytes (map counted fs) a.attribute) as_ ≡ total (λ a. attribute_size fs a.attribute) as_
lines_bytes-are fs [] = refl
lines_bytes-are fs (a ∷ as_) =
    sum_by-cons (λ (a : Attributed). line_bytes (map counted fs) a.attribute) a as_
    ∙ ap (λ n. n + sum_by (λ a. line_bytes (map counted fs) a.attribute) as_) (line_bytes-is fs a.attribute)
    ∙ ap (λ n. attribute_size fs a.attribute + n) (lines_bytes-are fs as_)

unsupported-is : (fs : List FieldDef) (as_ : List Attributed) → list_any (λ a. not (line_is_supported (map counted fs) a.attribute)) as_ ≡ not (are_components_supported fs as_)
unsupported-is fs [] = refl
unsupported-is fs (a ∷ as_) =
    ap (λ b. not b || list_any (λ a. not (line_is_supported (map counted fs) a.attribute)) as_) (line_is_supported-is fs a.attribute)
    ∙ ap (λ b. not (is_attribute_supported fs a.attribute) || b) (unsupported-is fs as_)
    ∙ go (is_attribute_supported fs a.attribute)
  where
    go : (b : Bool) → (not b || not (are_components_supported fs as_)) ≡ not (b && are_components_supported fs as_)
    go true = refl
    go false = refl

index_bytes-is : (fs : List FieldDef) (name : List ℕ) (as_ : List Attributed) → index_bytes (map counted fs) name as_ ≡ index_size fs name as_
index_bytes-is fs name as_ =
    ap (λ b. cond (has is_word as_ || b) 0 (length name + 7 + sum_by (λ a. line_bytes (map counted fs) a.attribute) as_)) (unsupported-is fs as_)
    ∙ ap (λ n. cond (has is_word as_ || not (are_components_supported fs as_)) 0 (length name + 7 + n)) (lines_bytes-are fs as_)
    ∙ go (has is_word as_) (are_components_supported fs as_)
  where
    go : (p q : Bool) → cond (p || not q) 0 (length name + 7 + total (λ a. attribute_size fs a.attribute) as_) ≡ cond (not p && q) (length name + 7 + total (λ a. attribute_size fs a.attribute) as_) 0
    go true q = refl
    go false true = refl
    go false false = refl

-- the number of bytes counted is the length of the item's own line
pub item_bytes-is : (before : List Item) (census : Census) (attributes : List Attributed) (head : Head) → first_after [] before ≡ None → Counts before census → lacks_table before head ≡ false
    → item_bytes census attributes head ≡ length (line_said before attributes head)
item_bytes-is before census attributes Malformed h c k = refl
item_bytes-is before census attributes (Table name) h c k =
    let one = length-append (codes "T " ++ folded name) (10 ∷ []) in
    let two = length-append (codes "T ") (folded name) in
    let three = length-map name folded_byte in
    omega arith
item_bytes-is before census attributes (Field name table kind) h c k = refl
item_bytes-is before census attributes (Sequence name) h c k = refl
item_bytes-is before census attributes (Index name table) h c k =
    ap (index_bytes_in name attributes)
    (table_found-is before census table c ∙ ap (λ b. cond b (Some (table_counted before table)) None) (not-false (is_among table (tables_in before)) k))
    ∙ ap (λ fs. index_bytes fs name attributes) (fields_counted-are before table)
    ∙ index_bytes-is (map field_in (fields_in_text before table)) name attributes
    ∙ sym (own_index_line-length before table name attributes h)
