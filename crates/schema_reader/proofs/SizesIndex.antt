-- How long an index's own line is, by the fields as they stand in the text.
use Rattle.std.proofs.Common.{◌≡◌, ℕ, ◌+◌, Bool, true, false, not, ◌&&◌, if◌then◌else◌, cond, List, [], ◌∷◌, ◌++◌, length, map, Option, Some, None, refl, ap, ◌∙◌, arith, length-append}
use Rattle.std.specs.Prelude.{codes, is_some}
use Rattle.std.proofs.lemmas.List.{length-map}
use Rattle.abl_values.specs.declared.schema.FieldDef.{FieldDef}
use Rattle.schema_lines.specs.declared.item.Component.{Component}
use Rattle.schema_lines.specs.declared.item.Attribute.{Attribute}
use Rattle.schema_lines.specs.declared.item.Attribute.TheVariants.{Initial, Format, Mandatory, Order, Extent, Unique, Primary, Word, IndexField, Increment}
use Rattle.schema_lines.specs.declared.item.Attributed.{Attributed}
use Rattle.schema_lines.specs.declared.item.Item.{Item}
use Rattle.schema_lines.specs.Attributes.{has, is_unique, is_word}
use Rattle.abl_values.specs.Order.{folded, folded_byte}
use Rattle.abl_values.specs.Schema.{field_names, letter, number_of_name, same_name}
use Rattle.schema_reader.specs.Meaning.{fields_in_text, fields_of}
use Rattle.schema_reader.specs.Rules.{first_after}
use Rattle.schema_reader.proofs.SizesNames.{same_name-folded}
use Rattle.schema_reader.proofs.SizesFound.{are_components_supported, attribute_text, component_text, components_text, field_in, found, found_index_line, found_text, own_index_line}
use Rattle.schema_reader.proofs.SizesLines.{total, length-flat_map, total-along}
use Rattle.schema_reader.proofs.SizesAdded.{own_index_line-in_text}

-- a name has a number where its field is found
pub number_of_name-found : (n : ℕ) (fs : List FieldDef) (name : List ℕ) → is_some (number_of_name n (field_names fs) name) ≡ is_some (found fs name)
number_of_name-found n [] name = refl
number_of_name-found n (f ∷ fs) name = go (same_name f.name name) (number_of_name-found (n + 1) fs name)
  where
    go : (b : Bool) → is_some (number_of_name (n + 1) (field_names fs) name) ≡ is_some (found fs name)
        → is_some (cond b (Some n) (number_of_name (n + 1) (field_names fs) name)) ≡ is_some (cond b (Some f) (found fs name))
    go true again = refl
    go false again = again

-- ` field A` of a component whose name has n bytes
abbrev pub found_size : Bool → ℕ → ℕ
found_size stands n = if stands then n + 3 else 0

abbrev pub component_size : List FieldDef → Option Component → ℕ
component_size fields None = 0
component_size fields (Some c) = found_size (is_some (found fields c.field)) (length c.field)

abbrev pub attribute_size : List FieldDef → Attribute → ℕ
attribute_size fields (IndexField c) = component_size fields c
attribute_size fields attribute = 0

-- how long an index's line is, 0 where it is not usable
abbrev pub index_size : List FieldDef → List ℕ → List Attributed → ℕ
index_size fields name attributes =
    if not (has is_word attributes) && are_components_supported fields attributes then length name + 7 + total (λ a. attribute_size fields a.attribute) attributes else 0

found_text-length : (fs : List FieldDef) (name : List ℕ) (descending : Bool) → length (found_text (found fs name) descending) ≡ found_size (is_some (found fs name)) (length name)
found_text-length [] name descending = refl
found_text-length (f ∷ fs) name descending = go (same_name f.name name) refl (found_text-length fs name descending)
  where
    go : (b : Bool) → same_name f.name name ≡ b → length (found_text (found fs name) descending) ≡ found_size (is_some (found fs name)) (length name)
        → length (found_text (cond b (Some f) (found fs name)) descending) ≡ found_size (is_some (cond b (Some f) (found fs name))) (length name)
    go true same again =
        let one = length-append (32 ∷ folded f.name) (32 ∷ letter descending 68 65) in
        let two : length (folded f.name) ≡ length name = ap length (same_name-folded f.name name same) ∙ length-map name folded_byte in
        omega arith
    go false other again = again

component_text-length : (fields : List FieldDef) (c : Option Component) → length (component_text fields c) ≡ component_size fields c
component_text-length fields None = refl
component_text-length fields (Some c) = found_text-length fields c.field c.descending

attribute_text-length : (fields : List FieldDef) (a : Attribute) → length (attribute_text fields a) ≡ attribute_size fields a
attribute_text-length fields (IndexField c) = component_text-length fields c
attribute_text-length fields (Initial g) = refl
attribute_text-length fields (Format g) = refl
attribute_text-length fields Mandatory = refl
attribute_text-length fields (Order g) = refl
attribute_text-length fields (Extent g) = refl
attribute_text-length fields Unique = refl
attribute_text-length fields Primary = refl
attribute_text-length fields Word = refl
attribute_text-length fields (Increment g) = refl

components_text-length : (fields : List FieldDef) (attributes : List Attributed) → length (components_text fields attributes) ≡ total (λ a. attribute_size fields a.attribute) attributes
components_text-length fields attributes =
    length-flat_map (λ (a : Attributed). attribute_text fields a.attribute) attributes
    ∙ total-along (λ (a : Attributed). attribute_size fields a.attribute) (λ (a : Attributed). length (attribute_text fields a.attribute)) (λ a. attribute_text-length fields a.attribute) attributes

pub found_index_line-length : (fields : List FieldDef) (name : List ℕ) (attributes : List Attributed) → length (found_index_line fields name attributes) ≡ index_size fields name attributes
found_index_line-length fields name attributes =
    go (not (has is_word attributes) && are_components_supported fields attributes) (folded name) (letter (has is_unique attributes) 85 78) (components_text fields attributes) (length name) (total (λ a. attribute_size fields a.attribute) attributes)
    (length-map name folded_byte) refl (components_text-length fields attributes)
  where
    go : (b : Bool) (xs us ys : List ℕ) (n m : ℕ) → length xs ≡ n → length us ≡ 1 → length ys ≡ m
        → length (cond b (codes "I " ++ xs ++ 32 ∷ us ++ 32 ∷ letter false 80 78 ++ ys ++ 10 ∷ []) []) ≡ cond b (n + 7 + m) 0
    go false xs us ys n m hx hu hy = refl
    go true xs us ys n m hx hu hy =
        let one = length-append (codes "I " ++ xs ++ 32 ∷ us ++ 32 ∷ letter false 80 78 ++ ys) (10 ∷ []) in
        let two = length-append (codes "I " ++ xs ++ 32 ∷ us ++ 32 ∷ letter false 80 78) ys in
        let three = length-append (codes "I " ++ xs ++ 32 ∷ us) (32 ∷ letter false 80 78) in
        let four = length-append (codes "I " ++ xs) (32 ∷ us) in
        let five = length-append (codes "I ") xs in
        omega arith

pub own_index_line-length : (before : List Item) (table name : List ℕ) (attributes : List Attributed) → first_after [] before ≡ None
    → length (own_index_line (fields_of before table) name attributes) ≡ index_size (map field_in (fields_in_text before table)) name attributes
own_index_line-length before table name attributes h =
    ap length (own_index_line-in_text before table name attributes h) ∙ found_index_line-length (map field_in (fields_in_text before table)) name attributes
