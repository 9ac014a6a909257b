-- Fields put in their order one by one.
use Rattle.std.proofs.Common.{◌≡◌, ℕ, suc, Bool, true, false, ◌&&◌, ◌||◌, cond, List, [], ◌∷◌, ◌++◌, length, map, refl, sym, ap, ◌∙◌}
use Rattle.std.specs.Prelude.{insert, nat_le, reverse}
use Rattle.std.specs.List.{list_all}
use Rattle.std.proofs.lemmas.Bool.{or_parts, or_from}
use Rattle.std.proofs.lemmas.List.{reverse-append}
use Rattle.abl_values.specs.declared.schema.FieldDef.{FieldDef}
use Rattle.abl_values.specs.Schema.{field_names, same_name}
use Rattle.schema_reader.specs.declared.meaning.OrderedField.{OrderedField}
use Rattle.schema_reader.specs.InOrder.{as_ordered, field_of, place_of}
use Rattle.schema_reader.specs.Meaning.{Ordered, by_order, placed}
use Rattle.abl_values.specs.Sound.{has_twice, is_among}
use Rattle.schema_reader.proofs.SizesNames.{same_name-swap}
use Rattle.schema_reader.proofs.SizesFound.{field_in}

-- these fields placed one by one from the last on, among those that stand
abbrev pub all_placed : List Ordered → List Ordered → List Ordered
all_placed [] gs = gs
all_placed (f ∷ fs) gs = placed f (all_placed fs gs)

pub all_placed-push : (fs : List Ordered) (f : Ordered) (gs : List Ordered) → all_placed (fs ++ f ∷ []) gs ≡ all_placed fs (placed f gs)
all_placed-push [] f gs = refl
all_placed-push (x ∷ fs) f gs = ap (placed x) (all_placed-push fs f gs)

pub all_placed-none : (fs : List Ordered) → all_placed fs [] ≡ by_order fs
all_placed-none [] = refl
all_placed-none (f ∷ fs) = ap (placed f) (all_placed-none fs)

-- ---- a field put at its place

pub map-insert : (f : OrderedField) (gs : List OrderedField) → map as_ordered (insert gs (place_of f.order gs) f) ≡ placed (as_ordered f) (map as_ordered gs)
map-insert f [] = refl
map-insert f (g ∷ gs) = go (nat_le f.order g.order) (map-insert f gs)
  where
    go : (b : Bool) → map as_ordered (insert gs (place_of f.order gs) f) ≡ placed (as_ordered f) (map as_ordered gs)
        → map as_ordered (insert (g ∷ gs) (cond b 0 (suc (place_of f.order gs))) f) ≡ cond b (as_ordered f ∷ as_ordered g ∷ map as_ordered gs) (as_ordered g ∷ placed (as_ordered f) (map as_ordered gs))
    go true again = refl
    go false again = ap (λ hs. as_ordered g ∷ hs) again

pub map-field_of : (fs : List OrderedField) → map field_of fs ≡ map field_in (map as_ordered fs)
map-field_of [] = refl
map-field_of (f ∷ fs) = ap (λ gs. f.field ∷ gs) (map-field_of fs)

-- the next of fields that are taken from the end of their reverse
pub reversed_next : (xs ys : List OrderedField) (x : OrderedField) (list all : List FieldDef) → list ++ map field_of (reverse xs) ≡ all → xs ≡ ys ++ x ∷ [] → list ++ x.field ∷ map field_of (reverse ys) ≡ all
reversed_next xs ys x list all h e = ap (λ (zs : List OrderedField). list ++ map field_of zs) (sym (ap reverse e ∙ reverse-append ys (x ∷ []))) ∙ h

-- ---- the names of fields in their order

or_swap : (a b c : Bool) → (a || (b || c)) ≡ (b || (a || c))
or_swap true true c = refl
or_swap true false c = refl
or_swap false b c = refl

and_swap : (a b c : Bool) → (a && (b && c)) ≡ (b && (a && c))
and_swap true b c = refl
and_swap false true c = refl
and_swap false false c = refl

is_among-placed : (n : List ℕ) (f : Ordered) (gs : List Ordered) → is_among n (field_names (map field_in (placed f gs))) ≡ (same_name f.field.name n || is_among n (field_names (map field_in gs)))
is_among-placed n f [] = refl
is_among-placed n f (g ∷ gs) = go (nat_le f.order g.order) (is_among-placed n f gs)
  where
    go : (b : Bool) → is_among n (field_names (map field_in (placed f gs))) ≡ (same_name f.field.name n || is_among n (field_names (map field_in gs)))
        → is_among n (field_names (map field_in (cond b (f ∷ g ∷ gs) (g ∷ placed f gs)))) ≡ (same_name f.field.name n || (same_name g.field.name n || is_among n (field_names (map field_in gs))))
    go true again = refl
    go false again =
        ap (λ b. same_name g.field.name n || b) again ∙ or_swap (same_name g.field.name n) (same_name f.field.name n) (is_among n (field_names (map field_in gs)))

is_among-by_order : (n : List ℕ) (fs : List Ordered) → is_among n (field_names (map field_in (by_order fs))) ≡ is_among n (field_names (map field_in fs))
is_among-by_order n [] = refl
is_among-by_order n (f ∷ fs) = is_among-placed n f (by_order fs) ∙ ap (λ b. same_name f.field.name n || b) (is_among-by_order n fs)

has_twice-placed : (f : Ordered) (gs : List Ordered) → is_among f.field.name (field_names (map field_in gs)) ≡ false → has_twice (field_names (map field_in gs)) ≡ false → has_twice (field_names (map field_in (placed f gs))) ≡ false
has_twice-placed f [] new once = refl
has_twice-placed f (g ∷ gs) new once =
    let apart = or_parts (same_name g.field.name f.field.name) (is_among f.field.name (field_names (map field_in gs))) new in
    let parts = or_parts (is_among g.field.name (field_names (map field_in gs))) (has_twice (field_names (map field_in gs))) once in
    let other = is_among-placed g.field.name f gs ∙ or_from (same_name f.field.name g.field.name) (is_among g.field.name (field_names (map field_in gs))) (same_name-swap f.field.name g.field.name ∙ apart.0) parts.0 in
    go (nat_le f.order g.order) other (has_twice-placed f gs apart.1 parts.1)
  where
    go : (b : Bool) → is_among g.field.name (field_names (map field_in (placed f gs))) ≡ false → has_twice (field_names (map field_in (placed f gs))) ≡ false
        → has_twice (field_names (map field_in (cond b (f ∷ g ∷ gs) (g ∷ placed f gs)))) ≡ false
    go true other again = or_from (is_among f.field.name (field_names (map field_in (g ∷ gs)))) (has_twice (field_names (map field_in (g ∷ gs)))) new once
    go false other again = or_from (is_among g.field.name (field_names (map field_in (placed f gs)))) (has_twice (field_names (map field_in (placed f gs)))) other again

-- fields keep apart in their order
pub has_twice-by_order : (fs : List Ordered) → has_twice (field_names (map field_in fs)) ≡ false → has_twice (field_names (map field_in (by_order fs))) ≡ false
has_twice-by_order [] once = refl
has_twice-by_order (f ∷ fs) once =
    let parts = or_parts (is_among f.field.name (field_names (map field_in fs))) (has_twice (field_names (map field_in fs))) once in
    has_twice-placed f (by_order fs) (is_among-by_order f.field.name fs ∙ parts.0) (has_twice-by_order fs parts.1)

list_all-placed : (p : List ℕ → Bool) (f : Ordered) (gs : List Ordered) → list_all p (field_names (map field_in (placed f gs))) ≡ (p f.field.name && list_all p (field_names (map field_in gs)))
list_all-placed p f [] = refl
list_all-placed p f (g ∷ gs) = go (nat_le f.order g.order) (list_all-placed p f gs)
  where
    go : (b : Bool) → list_all p (field_names (map field_in (placed f gs))) ≡ (p f.field.name && list_all p (field_names (map field_in gs)))
        → list_all p (field_names (map field_in (cond b (f ∷ g ∷ gs) (g ∷ placed f gs)))) ≡ (p f.field.name && (p g.field.name && list_all p (field_names (map field_in gs))))
    go true again = refl
    go false again = ap (λ b. p g.field.name && b) again ∙ and_swap (p g.field.name) (p f.field.name) (list_all p (field_names (map field_in gs)))

pub list_all-by_order : (p : List ℕ → Bool) (fs : List Ordered) → list_all p (field_names (map field_in (by_order fs))) ≡ list_all p (field_names (map field_in fs))
list_all-by_order p [] = refl
list_all-by_order p (f ∷ fs) = list_all-placed p f (by_order fs) ∙ ap (λ b. p f.field.name && b) (list_all-by_order p fs)

length-placed : (f : Ordered) (gs : List Ordered) → length (placed f gs) ≡ suc (length gs)
length-placed f [] = refl
length-placed f (g ∷ gs) = go (nat_le f.order g.order) (length-placed f gs)
  where
    go : (b : Bool) → length (placed f gs) ≡ suc (length gs) → length (cond b (f ∷ g ∷ gs) (g ∷ placed f gs)) ≡ suc (suc (length gs))
    go true again = refl
    go false again = ap suc again

pub length-by_order : (fs : List Ordered) → length (by_order fs) ≡ length fs
length-by_order [] = refl
length-by_order (f ∷ fs) = length-placed f (by_order fs) ∙ ap suc (length-by_order fs)
