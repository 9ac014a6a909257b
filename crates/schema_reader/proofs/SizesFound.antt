-- What an index is in the canonical text, by the fields that its components name.
use Rattle.std.proofs.Common.{◌≡◌, ℕ, ◌+◌, Bool, true, false, not, ◌&&◌, ◌||◌, if◌then◌else◌, cond, List, [], ◌∷◌, ◌++◌, length, map, Option, Some, None, refl, sym, ap, ◌∙◌, append_assoc, append-nil}
use Rattle.std.specs.Prelude.{is_some, slice_index_or, codes, nat_le}
use Rattle.std.proofs.lemmas.Bool.{or_parts, false≢true}
use Rattle.std.proofs.lemmas.List.{get_or_at, length_push}
use Rattle.std.proofs.lemmas.List.Folds.{list_all-append}
use Rattle.std.proofs.lemmas.List.Concat.{flat_map-append}
use Rattle.std.specs.List.{flat_map, list_all}
use Rattle.abl_values.specs.declared.schema.FieldDef.{FieldDef}
use Rattle.abl_values.specs.declared.schema.KeyPart.{KeyPart}
use Rattle.schema_lines.specs.declared.item.Component.{Component}
use Rattle.schema_lines.specs.declared.item.Attribute.{Attribute}
use Rattle.schema_lines.specs.declared.item.Attribute.TheVariants.{Initial, Format, Mandatory, Order, Extent, Unique, Primary, Word, IndexField, Increment}
use Rattle.schema_lines.specs.declared.item.Attributed.{Attributed}
use Rattle.schema_lines.specs.Attributes.{has, is_unique, is_word}
use Rattle.abl_values.specs.Order.{folded}
use Rattle.abl_values.specs.Schema.{field_names, index_line, letter, no_field, number_of_name, part_text, same_name}
use Rattle.schema_reader.specs.Meaning.{Ordered, are_supported, by_order, is_usable, listed_index, part_named, part_of, part_said, parts_of, placed}
use Rattle.abl_values.specs.Sound.{has_twice, is_among}
use Rattle.schema_reader.proofs.SizesNames.{is_among-same, same_name-swap}

-- the first of these fields that has this name, in any case
abbrev pub found : List FieldDef → List ℕ → Option FieldDef
found [] name = None
found (f ∷ fs) name = if same_name f.name name then Some f else found fs name

-- ---- what the text has of a component, by the field

abbrev pub found_text : Option FieldDef → Bool → List ℕ
found_text None descending = []
found_text (Some f) descending = 32 ∷ folded f.name ++ 32 ∷ letter descending 68 65

abbrev pub is_found_supported : Option FieldDef → Bool
is_found_supported None = true
is_found_supported (Some f) = is_some f.kind

part_found-text : (before fs : List FieldDef) (name : List ℕ) (descending : Bool) (n : ℕ) → length before ≡ n
    → flat_map (part_text (before ++ fs)) (part_named (number_of_name n (field_names fs) name) descending) ≡ found_text (found fs name) descending
part_found-text before [] name descending n e = refl
part_found-text before (f ∷ fs) name descending n e =
    go (same_name f.name name) (part_found-text (before ++ f ∷ []) fs name descending (n + 1) (length_push before f ∙ ap (λ k. k + 1) e))
  where
    shifted : before ++ (f ∷ []) ++ fs ≡ before ++ f ∷ fs
    shifted = append_assoc before (f ∷ []) fs

    go : (b : Bool) → flat_map (part_text (before ++ (f ∷ []) ++ fs)) (part_named (number_of_name (n + 1) (field_names fs) name) descending) ≡ found_text (found fs name) descending
        → flat_map (part_text (before ++ f ∷ fs)) (part_named (cond b (Some n) (number_of_name (n + 1) (field_names fs) name)) descending) ≡ found_text (cond b (Some f) (found fs name)) descending
    go true again =
        append-nil (part_text (before ++ f ∷ fs) (record { field = n; descending = descending }))
        ∙ ap (λ (g : FieldDef). 32 ∷ folded g.name ++ 32 ∷ letter descending 68 65) (get_or_at before f fs no_field n e)
    go false again =
        ap (λ (gs : List FieldDef). flat_map (part_text gs) (part_named (number_of_name (n + 1) (field_names fs) name) descending)) (sym shifted)
        ∙ again

part_found-supported : (before fs : List FieldDef) (name : List ℕ) (descending : Bool) (n : ℕ) → length before ≡ n
    → are_supported (before ++ fs) (part_named (number_of_name n (field_names fs) name) descending) ≡ is_found_supported (found fs name)
part_found-supported before [] name descending n e = refl
part_found-supported before (f ∷ fs) name descending n e =
    go (same_name f.name name) (part_found-supported (before ++ f ∷ []) fs name descending (n + 1) (length_push before f ∙ ap (λ k. k + 1) e))
  where
    shifted : before ++ (f ∷ []) ++ fs ≡ before ++ f ∷ fs
    shifted = append_assoc before (f ∷ []) fs

    and_true : (b : Bool) → (b && true) ≡ b
    and_true true = refl
    and_true false = refl

    go : (b : Bool) → are_supported (before ++ (f ∷ []) ++ fs) (part_named (number_of_name (n + 1) (field_names fs) name) descending) ≡ is_found_supported (found fs name)
        → are_supported (before ++ f ∷ fs) (part_named (cond b (Some n) (number_of_name (n + 1) (field_names fs) name)) descending) ≡ is_found_supported (cond b (Some f) (found fs name))
    go true again =
        and_true (is_some (slice_index_or (before ++ f ∷ fs) n no_field).kind)
        ∙ ap (λ (g : FieldDef). is_some g.kind) (get_or_at before f fs no_field n e)
    go false again =
        ap (λ (gs : List FieldDef). are_supported gs (part_named (number_of_name (n + 1) (field_names fs) name) descending)) (sym shifted)
        ∙ again

-- ---- an attribute line of an index

abbrev pub component_text : List FieldDef → Option Component → List ℕ
component_text fields None = []
component_text fields (Some c) = found_text (found fields c.field) c.descending

abbrev pub attribute_text : List FieldDef → Attribute → List ℕ
attribute_text fields (IndexField c) = component_text fields c
attribute_text fields attribute = []

abbrev pub is_component_supported : List FieldDef → Option Component → Bool
is_component_supported fields None = true
is_component_supported fields (Some c) = is_found_supported (found fields c.field)

abbrev pub is_attribute_supported : List FieldDef → Attribute → Bool
is_attribute_supported fields (IndexField c) = is_component_supported fields c
is_attribute_supported fields attribute = true

-- the text of an index's components
abbrev pub components_text : List FieldDef → List Attributed → List ℕ
components_text fields attributes = flat_map (λ a. attribute_text fields a.attribute) attributes

-- no component is of an unsupported kind
abbrev pub are_components_supported : List FieldDef → List Attributed → Bool
are_components_supported fields attributes = list_all (λ a. is_attribute_supported fields a.attribute) attributes

component_is : (fields : List FieldDef) (c : Option Component) → flat_map (part_text fields) (part_of fields c) ≡ component_text fields c
component_is fields None = refl
component_is fields (Some c) = part_found-text [] fields c.field c.descending 0 refl

attribute_is : (fields : List FieldDef) (a : Attribute) → flat_map (part_text fields) (part_said fields a) ≡ attribute_text fields a
attribute_is fields (IndexField c) = component_is fields c
attribute_is fields (Initial g) = refl
attribute_is fields (Format g) = refl
attribute_is fields Mandatory = refl
attribute_is fields (Order g) = refl
attribute_is fields (Extent g) = refl
attribute_is fields Unique = refl
attribute_is fields Primary = refl
attribute_is fields Word = refl
attribute_is fields (Increment g) = refl

component_is_supported : (fields : List FieldDef) (c : Option Component) → are_supported fields (part_of fields c) ≡ is_component_supported fields c
component_is_supported fields None = refl
component_is_supported fields (Some c) = part_found-supported [] fields c.field c.descending 0 refl

attribute_is_supported : (fields : List FieldDef) (a : Attribute) → are_supported fields (part_said fields a) ≡ is_attribute_supported fields a
attribute_is_supported fields (IndexField c) = component_is_supported fields c
attribute_is_supported fields (Initial g) = refl
attribute_is_supported fields (Format g) = refl
attribute_is_supported fields Mandatory = refl
attribute_is_supported fields (Order g) = refl
attribute_is_supported fields (Extent g) = refl
attribute_is_supported fields Unique = refl
attribute_is_supported fields Primary = refl
attribute_is_supported fields Word = refl
attribute_is_supported fields (Increment g) = refl

pub components_are : (fields : List FieldDef) (attributes : List Attributed) → flat_map (part_text fields) (parts_of fields attributes) ≡ components_text fields attributes
components_are fields [] = refl
components_are fields (a ∷ as_) =
    flat_map-append (part_text fields) (part_said fields a.attribute) (parts_of fields as_)
    ∙ ap (λ (xs : List ℕ). xs ++ flat_map (part_text fields) (parts_of fields as_)) (attribute_is fields a.attribute)
    ∙ ap (λ (xs : List ℕ). attribute_text fields a.attribute ++ xs) (components_are fields as_)

pub components_are_supported : (fields : List FieldDef) (attributes : List Attributed) → are_supported fields (parts_of fields attributes) ≡ are_components_supported fields attributes
components_are_supported fields [] = refl
components_are_supported fields (a ∷ as_) =
    list_all-append (λ (p : KeyPart). is_some (slice_index_or fields p.field no_field).kind) (part_said fields a.attribute) (parts_of fields as_)
    ∙ ap (λ b. b && are_supported fields (parts_of fields as_)) (attribute_is_supported fields a.attribute)
    ∙ ap (λ b. is_attribute_supported fields a.attribute && b) (components_are_supported fields as_)

-- ---- an index's own line

-- the line of an index that is not primary, nothing where it is not usable
abbrev pub own_index_line : List FieldDef → List ℕ → List Attributed → List ℕ
own_index_line fields name attributes =
    if is_usable fields attributes then index_line fields false (listed_index fields name attributes).index else []

-- the same by the fields that the components name
abbrev pub found_index_line : List FieldDef → List ℕ → List Attributed → List ℕ
found_index_line fields name attributes =
    if not (has is_word attributes) && are_components_supported fields attributes then codes "I " ++ folded name ++ 32 ∷ letter (has is_unique attributes) 85 78 ++ 32 ∷ letter false 80 78 ++ components_text fields attributes ++ 10 ∷ [] else []

pub own_index_line-found : (fields : List FieldDef) (name : List ℕ) (attributes : List Attributed) → own_index_line fields name attributes ≡ found_index_line fields name attributes
own_index_line-found fields name attributes =
    ap (λ b. cond (not (has is_word attributes) && b) (index_line fields false (listed_index fields name attributes).index) []) (components_are_supported fields attributes)
    ∙ ap (λ (xs : List ℕ). cond (not (has is_word attributes) && are_components_supported fields attributes) (codes "I " ++ folded name ++ 32 ∷ letter (has is_unique attributes) 85 78 ++ 32 ∷ letter false 80 78 ++ xs ++ 10 ∷ []) []) (components_are fields attributes)

-- ---- fields by order

abbrev pub field_in : Ordered → FieldDef
field_in f = f.field

pick : (own same : Bool) (x y : FieldDef) (later rest : Option FieldDef) → (own ≡ true → cond same (Some y) rest ≡ None) → ((own ≡ true → rest ≡ None) → later ≡ cond own (Some x) rest)
    → cond same (Some y) later ≡ cond own (Some x) (cond same (Some y) rest)
pick true true x y later rest none again = let e = none refl in cc
pick true false x y later rest none again = again (λ _. none refl)
pick false true x y later rest none again = refl
pick false false x y later rest none again = again (λ e. absurd (false≢true e))

-- a field is found in order as before the others, where no other has its name
found-placed : (f : Ordered) (gs : List Ordered) (name : List ℕ) → (same_name f.field.name name ≡ true → found (map field_in gs) name ≡ None)
    → found (map field_in (placed f gs)) name ≡ found (f.field ∷ map field_in gs) name
found-placed f [] name h = refl
found-placed f (g ∷ gs) name h =
    go (nat_le f.order g.order) (pick (same_name f.field.name name) (same_name g.field.name name) f.field g.field (found (map field_in (placed f gs)) name) (found (map field_in gs) name) h (λ k. found-placed f gs name k))
  where
    go : (b : Bool) → found (map field_in (g ∷ placed f gs)) name ≡ found (f.field ∷ map field_in (g ∷ gs)) name
        → found (map field_in (cond b (f ∷ g ∷ gs) (g ∷ placed f gs))) name ≡ found (f.field ∷ map field_in (g ∷ gs)) name
    go true later = refl
    go false later = later

found-none : (fs : List FieldDef) (name : List ℕ) → is_among name (field_names fs) ≡ false → found fs name ≡ None
found-none [] name h = refl
found-none (f ∷ fs) name h =
    let apart = or_parts (same_name f.name name) (is_among name (field_names fs)) h in
    ap (λ b. cond b (Some f) (found fs name)) apart.0 ∙ found-none fs name apart.1

-- a field is found by ORDER as in the order of the text, where no name stands twice
pub found-by_order : (fs : List Ordered) (name : List ℕ) → has_twice (field_names (map field_in fs)) ≡ false → found (map field_in (by_order fs)) name ≡ found (map field_in fs) name
found-by_order [] name h = refl
found-by_order (f ∷ fs) name h =
    let parts = or_parts (is_among f.field.name (field_names (map field_in fs))) (has_twice (field_names (map field_in fs))) h in
    let again = found-by_order fs name parts.1 in
    found-placed f (by_order fs) name
    (λ same. again ∙ found-none (map field_in fs) name (is_among-same name f.field.name (same_name-swap name f.field.name ∙ same) (field_names (map field_in fs)) ∙ parts.0))
    ∙ ap (λ o. cond (same_name f.field.name name) (Some f.field) o) again

-- a name that stands is found as before more fields
pub found-append : (fs gs : List FieldDef) (name : List ℕ) → is_among name (field_names fs) ≡ true → found (fs ++ gs) name ≡ found fs name
found-append [] gs name h = cc
found-append (f ∷ fs) gs name h = go (same_name f.name name) refl h (λ k. found-append fs gs name k)
  where
    go : (b : Bool) → same_name f.name name ≡ b → (b || is_among name (field_names fs)) ≡ true → (is_among name (field_names fs) ≡ true → found (fs ++ gs) name ≡ found fs name)
        → cond b (Some f) (found (fs ++ gs) name) ≡ cond b (Some f) (found fs name)
    go true e k again = refl
    go false e k again = again k

-- ---- an index among more fields

-- the components of the attributes are found alike
abbrev pub AreFoundAlike : List FieldDef → List FieldDef → Attribute → Type 0
AreFoundAlike fields more (IndexField (Some c)) = found more c.field ≡ found fields c.field
AreFoundAlike fields more attribute = Unit {0}

attribute_text-alike : (fields more : List FieldDef) (a : Attribute) → AreFoundAlike fields more a → attribute_text more a ≡ attribute_text fields a
attribute_text-alike fields more (IndexField (Some c)) h = ap (λ o. found_text o c.descending) h
attribute_text-alike fields more (IndexField None) h = refl
attribute_text-alike fields more (Initial g) h = refl
attribute_text-alike fields more (Format g) h = refl
attribute_text-alike fields more Mandatory h = refl
attribute_text-alike fields more (Order g) h = refl
attribute_text-alike fields more (Extent g) h = refl
attribute_text-alike fields more Unique h = refl
attribute_text-alike fields more Primary h = refl
attribute_text-alike fields more Word h = refl
attribute_text-alike fields more (Increment g) h = refl

is_attribute_supported-alike : (fields more : List FieldDef) (a : Attribute) → AreFoundAlike fields more a → is_attribute_supported more a ≡ is_attribute_supported fields a
is_attribute_supported-alike fields more (IndexField (Some c)) h = ap is_found_supported h
is_attribute_supported-alike fields more (IndexField None) h = refl
is_attribute_supported-alike fields more (Initial g) h = refl
is_attribute_supported-alike fields more (Format g) h = refl
is_attribute_supported-alike fields more Mandatory h = refl
is_attribute_supported-alike fields more (Order g) h = refl
is_attribute_supported-alike fields more (Extent g) h = refl
is_attribute_supported-alike fields more Unique h = refl
is_attribute_supported-alike fields more Primary h = refl
is_attribute_supported-alike fields more Word h = refl
is_attribute_supported-alike fields more (Increment g) h = refl

abbrev pub AllFoundAlike : List FieldDef → List FieldDef → List Attributed → Type 0
AllFoundAlike fields more [] = Unit {0}
AllFoundAlike fields more (a ∷ as_) = AreFoundAlike fields more a.attribute × AllFoundAlike fields more as_

components_text-alike : (fields more : List FieldDef) (as_ : List Attributed) → AllFoundAlike fields more as_ → components_text more as_ ≡ components_text fields as_
components_text-alike fields more [] h = refl
components_text-alike fields more (a ∷ as_) h =
    ap (λ (xs : List ℕ). xs ++ components_text more as_) (attribute_text-alike fields more a.attribute h.0)
    ∙ ap (λ (xs : List ℕ). attribute_text fields a.attribute ++ xs) (components_text-alike fields more as_ h.1)

are_components_supported-alike : (fields more : List FieldDef) (as_ : List Attributed) → AllFoundAlike fields more as_ → are_components_supported more as_ ≡ are_components_supported fields as_
are_components_supported-alike fields more [] h = refl
are_components_supported-alike fields more (a ∷ as_) h =
    ap (λ b. b && are_components_supported more as_) (is_attribute_supported-alike fields more a.attribute h.0)
    ∙ ap (λ b. is_attribute_supported fields a.attribute && b) (are_components_supported-alike fields more as_ h.1)

found_line : List ℕ → List Attributed → Bool → List ℕ → List ℕ
found_line name attributes supported components =
    if not (has is_word attributes) && supported then codes "I " ++ folded name ++ 32 ∷ letter (has is_unique attributes) 85 78 ++ 32 ∷ letter false 80 78 ++ components ++ 10 ∷ [] else []

pub found_index_line-alike : (fields more : List FieldDef) (name : List ℕ) (as_ : List Attributed) → AllFoundAlike fields more as_ → found_index_line more name as_ ≡ found_index_line fields name as_
unfolding found_line
found_index_line-alike fields more name as_ h =
    ap (λ b. found_line name as_ b (components_text more as_)) (are_components_supported-alike fields more as_ h)
    ∙ ap (λ (xs : List ℕ). found_line name as_ (are_components_supported fields as_) xs) (components_text-alike fields more as_ h)

pub own_index_line-alike : (fields more : List FieldDef) (name : List ℕ) (as_ : List Attributed) → AllFoundAlike fields more as_ → own_index_line more name as_ ≡ own_index_line fields name as_
own_index_line-alike fields more name as_ h =
    own_index_line-found more name as_ ∙ found_index_line-alike fields more name as_ h ∙ sym (own_index_line-found fields name as_)
