-- Each field of the schema that a file means has a mask for its kind.
use Rattle.std.proofs.Common.{◌≡◌, ℕ, Bool, true, false, List, [], ◌∷◌, Option, Some, None, map, refl}
use Rattle.std.specs.Prelude.{if◌then◌else◌, nat_le}
use Rattle.std.specs.List.{flat_map, list_all}
use Rattle.abl_base.specs.declared.value.Kind.{Kind}
use Rattle.abl_base.specs.declared.value.Kind.TheVariants as kind
use Rattle.abl_values.specs.declared.schema.TableDef.{TableDef}
use Rattle.abl_values.specs.Masks.{mask_is_for}
use Rattle.abl_values.specs.Schema.{same_name}
use Rattle.schema_lines.specs.declared.item.Attributed.{Attributed}
use Rattle.schema_lines.specs.declared.item.Head.{Head}
use Rattle.schema_lines.specs.declared.item.Head.TheVariants as head
use Rattle.schema_lines.specs.declared.item.Item.{Item}
use Rattle.schema_lines.specs.Attributes.{field_def, format_of, kind_of}
use Rattle.schema_lines.specs.Initials.{default_mask}
use Rattle.schema_reader.specs.Meaning.{Ordered, by_order, field_said, fields_in_text, fields_of, ordered_field, placed, schema_of, table_said}
use Rattle.kind_laws.specs.bound_kinds.WellKinded.{is_masked, is_masked_field}
use Rattle.kind_laws.proofs.BoundKindsLemmas.Parts.{all_join, both, both_left, both_right}

-- ---- a field

default_fits : (k : Kind) → mask_is_for (default_mask k) k ≡ true
unfolding mask_is_for
default_fits kind.Character = refl
default_fits kind.Integer = refl
default_fits kind.Int64 = refl
default_fits kind.Decimal = refl
default_fits kind.Logical = refl
default_fits kind.Date = refl

either : (k : Kind) (format : List ℕ) (c : Bool) → mask_is_for format k ≡ c → mask_is_for (if c then format else default_mask k) k ≡ true
either k format true e = e
either k format false e = default_fits k

field_masked : (name : List ℕ) (k : Option Kind) (attributes : List Attributed) → is_masked_field (field_def name k attributes) ≡ true
field_masked name None attributes = refl
field_masked name (Some k) attributes = either k (format_of attributes) (mask_is_for (format_of attributes) k) refl

-- ---- the fields of a table

abbrev is_masked_one : Ordered → Bool
is_masked_one f = is_masked_field f.field

all_if : {A : Type 0} (p : A → Bool) (c : Bool) (x : A) → p x ≡ true → list_all p (if c then x ∷ [] else []) ≡ true
all_if p true x h = both _ _ h refl
all_if p false x h = refl

all_flat : {A B : Type 0} (p : B → Bool) (f : A → List B) (xs : List A) → ((x : A) → list_all p (f x) ≡ true) → list_all p (flat_map f xs) ≡ true
all_flat p f [] h = refl
all_flat p f (x ∷ xs) h = all_join p (f x) (flat_map f xs) (h x) (all_flat p f xs h)

said_masked : (t : List ℕ) (attributes : List Attributed) (h : Head) → list_all is_masked_one (field_said t attributes h) ≡ true
said_masked t attributes head.Malformed = refl
said_masked t attributes (head.Table name) = refl
said_masked t attributes (head.Field name table k) = all_if is_masked_one (same_name table t) (ordered_field name k attributes) (field_masked name (kind_of k attributes) attributes)
said_masked t attributes (head.Index name table) = refl
said_masked t attributes (head.Sequence name) = refl

placed_masked : (f : Ordered) (gs : List Ordered) → is_masked_one f ≡ true → list_all is_masked_one gs ≡ true → list_all is_masked_one (placed f gs) ≡ true
placed_masked f [] h g = both _ _ h refl
placed_masked f (x ∷ xs) h g = go (nat_le f.order x.order) (placed_masked f xs h (both_right (is_masked_one x) _ g))
  where
    go : (c : Bool) → list_all is_masked_one (placed f xs) ≡ true → list_all is_masked_one (if c then f ∷ x ∷ xs else x ∷ placed f xs) ≡ true
    go true later = both _ _ h g
    go false later = both _ _ (both_left (is_masked_one x) _ g) later

ordered_masked : (fs : List Ordered) → list_all is_masked_one fs ≡ true → list_all is_masked_one (by_order fs) ≡ true
ordered_masked [] h = refl
ordered_masked (f ∷ fs) h = placed_masked f (by_order fs) (both_left (is_masked_one f) _ h) (ordered_masked fs (both_right (is_masked_one f) _ h))

mapped : (fs : List Ordered) → list_all is_masked_one fs ≡ true → list_all is_masked_field (map (λ f. f.field) fs) ≡ true
mapped [] h = refl
mapped (f ∷ fs) h = both _ _ (both_left (is_masked_one f) _ h) (mapped fs (both_right (is_masked_one f) _ h))

fields_masked : (all : List Item) (t : List ℕ) → list_all is_masked_field (fields_of all t) ≡ true
fields_masked all t = mapped (by_order (fields_in_text all t)) (ordered_masked (fields_in_text all t) (all_flat is_masked_one (λ i. field_said t i.attributes i.head) all (λ i. said_masked t i.attributes i.head)))

-- ---- the schema

abbrev is_masked_table : TableDef → Bool
is_masked_table t = list_all is_masked_field t.fields

table_masked : (all : List Item) (h : Head) → list_all is_masked_table (table_said all h) ≡ true
table_masked all head.Malformed = refl
table_masked all (head.Table name) = both _ _ (fields_masked all name) refl
table_masked all (head.Field name table k) = refl
table_masked all (head.Index name table) = refl
table_masked all (head.Sequence name) = refl

pub schema_masked : (all : List Item) → is_masked (schema_of all) ≡ true
unfolding schema_of
schema_masked all = all_flat is_masked_table (λ i. table_said all i.head) all (λ i. table_masked all i.head)
