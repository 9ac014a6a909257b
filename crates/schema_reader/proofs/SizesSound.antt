-- What holds of the items before a line where they break no rule.
use Rattle.std.proofs.Common.{◌≡◌, ℕ, Bool, true, false, not, ◌&&◌, if◌then◌else◌, cond, List, [], ◌∷◌, ◌++◌, Option, Some, None, refl, sym, ap, subst, ◌∙◌, append_assoc, append-nil}
use Rattle.std.proofs.lemmas.Bool.{and_parts, and_from, or_left, not-true, not-false, not_from_true, not_from_false}
use Rattle.std.proofs.lemmas.List.Folds.{list_all-append}
use Rattle.std.proofs.lemmas.List.Concat.{flat_map-append}
use Rattle.std.specs.List.{flat_map, list_all}
use Rattle.schema_lines.specs.declared.item.Component.{Component}
use Rattle.schema_lines.specs.declared.item.Head.{Head}
use Rattle.schema_lines.specs.declared.item.Head.TheVariants.{Malformed, Table, Field, Index, Sequence}
use Rattle.schema_lines.specs.declared.item.Attribute.{Attribute}
use Rattle.schema_lines.specs.declared.item.Attribute.TheVariants.{Initial, Format, Mandatory, Order, Extent, Unique, Primary, Word, IndexField, Increment}
use Rattle.schema_lines.specs.declared.item.Attributed.{Attributed}
use Rattle.schema_lines.specs.declared.item.Item.{Item}
use Rattle.abl_values.specs.Schema.{same_name}
use Rattle.schema_reader.specs.declared.violation.Violation.{Violation}
use Rattle.schema_reader.specs.Rules.{Condition, tables_in, fields_in, table_name, field_name, lacks_table, lacks_field, lacks_component, repeats_table, repeats_field, head_conditions, line_conditions, first_broken, or_else, first_in_lines, first_in_item, first_after}
use Rattle.abl_values.specs.Sound.{is_among, has_twice}
use Rattle.schema_reader.proofs.SizesNames.{has_twice_push, is_among-append, same_name-right}

-- ---- conditions that hold

-- none of these is broken
abbrev pub AreKept : List Condition → Type 0
AreKept [] = Unit {0}
AreKept (c ∷ cs) = (c.broken ≡ false) × AreKept cs

unbroken : (b : Bool) (v : Violation) (rest : Option Violation) → (if b then Some v else rest) ≡ None → (b ≡ false) × (rest ≡ None)
unbroken true v rest h = cc
unbroken false v rest h = (refl, h)

pub are_kept : (line : ℕ) (cs : List Condition) → first_broken line cs ≡ None → AreKept cs
are_kept line [] h = tt
are_kept line (c ∷ cs) h =
    let parts = unbroken c.broken (record { rule = c.rule; line = line }) (first_broken line cs) h in
    (parts.0, are_kept line cs parts.1)

pub neither : (a b : Option Violation) → or_else a b ≡ None → (a ≡ None) × (b ≡ None)
neither None b h = (refl, h)
neither (Some v) b h = cc

-- the attribute lines of an item break no rule
abbrev pub LinesAreKept : List Item → Item → List Attributed → Type 0
LinesAreKept before item [] = Unit {0}
LinesAreKept before item (a ∷ as_) = AreKept (line_conditions before item a.attribute) × LinesAreKept before item as_

pub lines_are_kept : (before : List Item) (item : Item) (as_ : List Attributed) → first_in_lines before item as_ ≡ None → LinesAreKept before item as_
lines_are_kept before item [] h = tt
lines_are_kept before item (a ∷ as_) h =
    let parts = neither (first_broken a.line (line_conditions before item a.attribute)) (first_in_lines before item as_) h in
    (are_kept a.line (line_conditions before item a.attribute) parts.0, lines_are_kept before item as_ parts.1)

-- an item that breaks no rule
pub record IsKept (before : List Item) (item : Item) : Type 0 where
  pub head : AreKept (head_conditions before item)
  pub lines : LinesAreKept before item item.attributes

pub is_kept : (before : List Item) (item : Item) → first_in_item before item ≡ None → IsKept before item
is_kept before item h =
    let parts = neither (first_broken item.line (head_conditions before item)) (first_in_lines before item item.attributes) h in
    record { head = are_kept item.line (head_conditions before item) parts.0; lines = lines_are_kept before item item.attributes parts.1 }

-- what holds of no items, and of more items where one more breaks no rule, holds of items that break no rule
pub grown : (P : List Item → Type 0) → ((before : List Item) (item : Item) → P before → IsKept before item → P (before ++ item ∷ []))
    → (before items : List Item) → P before → first_after before items ≡ None → P (before ++ items)
grown P more before [] p h = subst P (sym (append-nil before)) p
grown P more before (item ∷ items) p h =
    let parts = neither (first_in_item before item) (first_after (before ++ item ∷ []) items) h in
    subst P (append_assoc before (item ∷ []) items) (grown P more (before ++ item ∷ []) items (more before item p (is_kept before item parts.0)) parts.1)

-- ---- what they have named

list_all-along : {X : Type 0} (p q : X → Bool) → ((x : X) → p x ≡ true → q x ≡ true) → (xs : List X) → list_all p xs ≡ true → list_all q xs ≡ true
list_all-along p q along [] h = refl
list_all-along p q along (x ∷ xs) h =
    let parts = and_parts (p x) (list_all p xs) h in
    and_from (q x) (list_all q xs) (along x parts.0) (list_all-along p q along xs parts.1)

pub tables_in-append : (xs ys : List Item) → tables_in (xs ++ ys) ≡ tables_in xs ++ tables_in ys
tables_in-append xs ys = flat_map-append (λ i. table_name i.head) xs ys

pub fields_in-append : (xs ys : List Item) (t : List ℕ) → fields_in (xs ++ ys) t ≡ fields_in xs t ++ fields_in ys t
fields_in-append xs ys t = flat_map-append (λ i. field_name t i.head) xs ys

-- the item's table stands among these items
abbrev pub has_its_table : List Item → Item → Bool
has_its_table items i = not (lacks_table items i.head)

-- the components of the item are fields among these items
abbrev pub has_its_fields : List Item → Item → Bool
has_its_fields items i = list_all (λ a. not (lacks_field items i.head a.attribute)) i.attributes

-- what holds of the items before a line
pub record IsSoundSoFar (before : List Item) : Type 0 where
  pub tables_once : has_twice (tables_in before) ≡ false
  pub fields_once : (t : List ℕ) → has_twice (fields_in before t) ≡ false
  pub tables_stand : list_all (has_its_table before) before ≡ true
  pub fields_stand : list_all (has_its_fields before) before ≡ true

-- a name among the names of some items is among those of more
among_more : (name : List ℕ) (xs ys : List (List ℕ)) → not (is_among name xs) ≡ false → not (is_among name (xs ++ ys)) ≡ false
among_more name xs ys h =
    not_from_true (is_among name (xs ++ ys)) (is_among-append name xs ys ∙ or_left (is_among name xs) (is_among name ys) (not-false (is_among name xs) h))

pub lacks_table-more : (items more : List Item) (head : Head) → lacks_table items head ≡ false → lacks_table (items ++ more) head ≡ false
lacks_table-more items more (Field name table kind) h =
    ap (λ (ns : List (List ℕ)). not (is_among table ns)) (tables_in-append items more) ∙ among_more table (tables_in items) (tables_in more) h
lacks_table-more items more (Index name table) h =
    ap (λ (ns : List (List ℕ)). not (is_among table ns)) (tables_in-append items more) ∙ among_more table (tables_in items) (tables_in more) h
lacks_table-more items more Malformed h = refl
lacks_table-more items more (Table name) h = refl
lacks_table-more items more (Sequence name) h = refl

lacks_component-more : (items more : List Item) (table : List ℕ) (c : Option Component) → lacks_component items table c ≡ false → lacks_component (items ++ more) table c ≡ false
lacks_component-more items more table None h = h
lacks_component-more items more table (Some c) h =
    ap (λ (ns : List (List ℕ)). not (is_among c.field ns)) (fields_in-append items more table) ∙ among_more c.field (fields_in items table) (fields_in more table) h

lacks_field-more : (items more : List Item) (head : Head) (a : Attribute) → lacks_field items head a ≡ false → lacks_field (items ++ more) head a ≡ false
lacks_field-more items more (Index name table) (IndexField c) h = lacks_component-more items more table c h
lacks_field-more items more (Index name table) (Initial g) h = refl
lacks_field-more items more (Index name table) (Format g) h = refl
lacks_field-more items more (Index name table) Mandatory h = refl
lacks_field-more items more (Index name table) (Order g) h = refl
lacks_field-more items more (Index name table) (Extent g) h = refl
lacks_field-more items more (Index name table) Unique h = refl
lacks_field-more items more (Index name table) Primary h = refl
lacks_field-more items more (Index name table) Word h = refl
lacks_field-more items more (Index name table) (Increment g) h = refl
lacks_field-more items more (Field name table kind) a h = refl
lacks_field-more items more Malformed a h = refl
lacks_field-more items more (Table name) a h = refl
lacks_field-more items more (Sequence name) a h = refl

has_its_table-more : (items more : List Item) (i : Item) → has_its_table items i ≡ true → has_its_table (items ++ more) i ≡ true
has_its_table-more items more i h =
    not_from_false (lacks_table (items ++ more) i.head) (lacks_table-more items more i.head (not-true (lacks_table items i.head) h))

has_its_fields-more : (items more : List Item) (i : Item) → has_its_fields items i ≡ true → has_its_fields (items ++ more) i ≡ true
has_its_fields-more items more i h =
    list_all-along (λ (a : Attributed). not (lacks_field items i.head a.attribute)) (λ (a : Attributed). not (lacks_field (items ++ more) i.head a.attribute))
    (λ a e. not_from_false (lacks_field (items ++ more) i.head a.attribute) (lacks_field-more items more i.head a.attribute (not-true (lacks_field items i.head a.attribute) e)))
    i.attributes h

fields_found : (before : List Item) (item : Item) (as_ : List Attributed) → LinesAreKept before item as_ → list_all (λ a. not (lacks_field before item.head a.attribute)) as_ ≡ true
fields_found before item [] h = refl
fields_found before item (a ∷ as_) h =
    and_from (not (lacks_field before item.head a.attribute)) (list_all (λ a. not (lacks_field before item.head a.attribute)) as_)
    (not_from_false (lacks_field before item.head a.attribute) h.0.1.0) (fields_found before item as_ h.1)

tables_once-more : (before : List Item) (head : Head) → has_twice (tables_in before) ≡ false → repeats_table before head ≡ false → has_twice (tables_in before ++ (table_name head ++ [])) ≡ false
tables_once-more before (Table name) h new = has_twice_push (tables_in before) name h new
tables_once-more before (Field name table kind) h new = ap has_twice (append-nil (tables_in before)) ∙ h
tables_once-more before (Index name table) h new = ap has_twice (append-nil (tables_in before)) ∙ h
tables_once-more before Malformed h new = ap has_twice (append-nil (tables_in before)) ∙ h
tables_once-more before (Sequence name) h new = ap has_twice (append-nil (tables_in before)) ∙ h

pub flat_map-along : {X A : Type 0} (f g : X → List A) → ((x : X) → f x ≡ g x) → (xs : List X) → flat_map f xs ≡ flat_map g xs
flat_map-along f g along [] = refl
flat_map-along f g along (x ∷ xs) = ap (λ ys. ys ++ flat_map f xs) (along x) ∙ ap (λ ys. g x ++ ys) (flat_map-along f g along xs)

field_name-same : (a b : List ℕ) → same_name a b ≡ true → (head : Head) → field_name a head ≡ field_name b head
field_name-same a b h (Field name table kind) = ap (λ c. cond c (name ∷ []) []) (same_name-right table a b h)
field_name-same a b h (Table name) = refl
field_name-same a b h (Index name table) = refl
field_name-same a b h Malformed = refl
field_name-same a b h (Sequence name) = refl

-- tables whose names are the same have the same fields
pub fields_in-same : (items : List Item) (a b : List ℕ) → same_name a b ≡ true → fields_in items a ≡ fields_in items b
fields_in-same items a b h = flat_map-along (λ (i : Item). field_name a i.head) (λ (i : Item). field_name b i.head) (λ i. field_name-same a b h i.head) items

field_once-more : (before : List Item) (name table t : List ℕ) (b : Bool) → same_name table t ≡ b → has_twice (fields_in before t) ≡ false → is_among name (fields_in before table) ≡ false
    → has_twice (fields_in before t ++ (cond b (name ∷ []) [] ++ [])) ≡ false
field_once-more before name table t true same h new =
    has_twice_push (fields_in before t) name h (ap (is_among name) (sym (fields_in-same before table t same)) ∙ new)
field_once-more before name table t false other h new = ap has_twice (append-nil (fields_in before t)) ∙ h

fields_once-more : (before : List Item) (head : Head) (t : List ℕ) → has_twice (fields_in before t) ≡ false → repeats_field before head ≡ false → has_twice (fields_in before t ++ (field_name t head ++ [])) ≡ false
fields_once-more before (Table name) t h new = ap has_twice (append-nil (fields_in before t)) ∙ h
fields_once-more before (Field name table kind) t h new = field_once-more before name table t (same_name table t) refl h new
fields_once-more before (Index name table) t h new = ap has_twice (append-nil (fields_in before t)) ∙ h
fields_once-more before Malformed t h new = ap has_twice (append-nil (fields_in before t)) ∙ h
fields_once-more before (Sequence name) t h new = ap has_twice (append-nil (fields_in before t)) ∙ h

-- what holds of each of these items and of one more
pub all_more : (p : Item → Bool) (xs : List Item) (x : Item) → list_all p xs ≡ true → p x ≡ true → list_all p (xs ++ x ∷ []) ≡ true
all_more p xs x h hx = list_all-append p xs (x ∷ []) ∙ and_from (list_all p xs) (p x && true) h (and_from (p x) true hx refl)

sound_more : (before : List Item) (item : Item) → IsSoundSoFar before → IsKept before item → IsSoundSoFar (before ++ item ∷ [])
sound_more before item s k = record {
  tables_once = ap has_twice (tables_in-append before (item ∷ [])) ∙ tables_once-more before item.head s.tables_once k.head.1.1.0;
  fields_once = λ t. ap has_twice (fields_in-append before (item ∷ []) t) ∙ fields_once-more before item.head t (s.fields_once t) k.head.1.1.1.1.0;
  tables_stand =
      all_more (has_its_table (before ++ item ∷ [])) before item
      (list_all-along (has_its_table before) (has_its_table (before ++ item ∷ [])) (λ i h. has_its_table-more before (item ∷ []) i h) before s.tables_stand)
      (has_its_table-more before (item ∷ []) item (not_from_false (lacks_table before item.head) k.head.1.1.1.0));
  fields_stand =
      all_more (has_its_fields (before ++ item ∷ [])) before item
      (list_all-along (has_its_fields before) (has_its_fields (before ++ item ∷ [])) (λ i h. has_its_fields-more before (item ∷ []) i h) before s.fields_stand)
      (has_its_fields-more before (item ∷ []) item (fields_found before item item.attributes k.lines));
}

-- items that break no rule are sound
pub is_sound : (before : List Item) → first_after [] before ≡ None → IsSoundSoFar before
is_sound before h = grown IsSoundSoFar sound_more [] before (record { tables_once = refl; fields_once = λ t. refl; tables_stand = refl; fields_stand = refl }) h
