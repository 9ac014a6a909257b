-- The listed moves are those of a change.
use Rattle.std.proofs.Common.{◌≡◌, ◌≢◌, ◌⊎◌, ◌↔◌, ℕ, zero, suc, ◌+◌, ◌<◌, ◌≤◌, Bool, true, false, cond, not, List, [], ◌∷◌, ◌++◌, length, take, drop, get_or, Option, Some, None, inl, inr, refl, sym, ap, ◌∙◌, subst, eq-eqb, arith}
use Rattle.std.proofs.lemmas.Bool.{cases_eq, ne_eqb}
use Rattle.abl_base.specs.declared.value.Value.{Value}
use Rattle.abl_values.specs.declared.schema.IndexDef.{IndexDef}
use Rattle.abl_values.specs.Keys.{key_bytes}
use Rattle.abl_values.specs.Masks.{same_bytes}
use Rattle.abl_values.specs.Schema.{SchemaData, indexes_of}
use Rattle.database_meaning.specs.Setting.{HasTable, no_index}
use Rattle.database_meaning.specs.Search.{order_key}
use Rattle.database_meaning.specs.Waiting.{row_in}
use Rattle.row_indexes.specs.declared.moves.Move.{Move}
use Rattle.row_indexes.specs.Places.{AreWithin}
use Rattle.row_indexes.proofs.Bytes.{same_bytes_eq, same_bytes_refl}
use Rattle.row_keys.specs.Numbers.{HasOrder, first_of_table, index_count, number_of}
use Rattle.row_keys.specs.Entries.{entry_key, stored_in}
use Rattle.row_keys.specs.Moves.{AreAll, AreApart, EnterFirst, Gains, HasMove}
use Rattle.row_keys.specs.Listed.{key_differs, move_in, moves_in, moves_in_one, moves_of_identity, moves_toward}
use Rattle.row_keys.proofs.Placed.{none_is_none}
use Rattle.row_keys.proofs.Counted.{number_is, number_within, place_at_number, place_in_table, place_within}

-- ---- lists of moves

has_left : (xs ys : List Move) (e : Bool) (j : ℕ) (key : List ℕ) → HasMove xs e j key → HasMove (xs ++ ys) e j key
has_left [] ys e j key h = absurd h
has_left (m ∷ xs) ys e j key (inl is) = inl is
has_left (m ∷ xs) ys e j key (inr h) = inr (has_left xs ys e j key h)

has_right : (xs ys : List Move) (e : Bool) (j : ℕ) (key : List ℕ) → HasMove ys e j key → HasMove (xs ++ ys) e j key
has_right [] ys e j key h = h
has_right (m ∷ xs) ys e j key h = inr (has_right xs ys e j key h)

has_cases : (xs ys : List Move) (e : Bool) (j : ℕ) (key : List ℕ) → HasMove (xs ++ ys) e j key → HasMove xs e j key ⊎ HasMove ys e j key
has_cases [] ys e j key h = inr h
has_cases (m ∷ xs) ys e j key (inl is) = inl (inl is)
has_cases (m ∷ xs) ys e j key (inr h) = elim (has_cases xs ys e j key h) [ inl l ↦ inl (inr l) | inr r ↦ inr r ]

within_both : (count : ℕ) (xs ys : List Move) → AreWithin count xs → AreWithin count ys → AreWithin count (xs ++ ys)
within_both count [] ys hx hy = hy
within_both count (m ∷ xs) ys hx hy = (hx.0, within_both count xs ys hx.1 hy)

apart_both : (xs ys : List Move) → AreApart xs → AreApart ys → ((e f : Bool) (j : ℕ) (key : List ℕ) → HasMove xs e j key → ¬ HasMove ys f j key) → AreApart (xs ++ ys)
apart_both [] ys hx hy never = hy
apart_both (m ∷ xs) ys hx hy never = (
  λ e h. elim (has_cases xs ys e m.index m.key h) [
    | inl l ↦ hx.0 e l
    | inr r ↦ never m.entered e m.index m.key (inl (record { direction = refl; index = refl; key_is = refl })) r
  ],
  apart_both xs ys hx.1 hy (λ e f j key h. never e f j key (inr h)),
)

all_both : (e : Bool) (xs ys : List Move) → AreAll e xs → AreAll e ys → AreAll e (xs ++ ys)
all_both e [] ys hx hy = hy
all_both e (m ∷ xs) ys hx hy = (hx.0, all_both e xs ys hx.1 hy)

-- ---- keys by place

-- the key in the index at this place, or the empty one of the identities
abbrev pub order_in : List IndexDef → ℕ → List Value → List ℕ
order_in [] k values = []
order_in (x ∷ xs) zero values = key_bytes x.parts values
order_in (x ∷ xs) (suc k) values = order_in xs k values

abbrev pub Differs : List IndexDef → ℕ → Option (List Value) → List Value → Type 0
Differs xs k from to = (f : List Value) → from ≡ Some f → order_in xs k f ≢ order_in xs k to

order_past : (xs : List IndexDef) (values : List Value) → order_in xs (length xs) values ≡ []
order_past [] values = refl
order_past (x ∷ xs) values = order_past xs values

order_at : (xs : List IndexDef) (k : ℕ) (values : List Value) → k < length xs → key_bytes (get_or xs k no_index).parts values ≡ order_in xs k values
order_at [] k values h = absurd (omega arith)
order_at (x ∷ xs) zero values h = refl
order_at (x ∷ xs) (suc k) values h = order_at xs k values (omega arith)

order_is : (schema : SchemaData) (table : ℕ) (o : Option ℕ) (values : List Value) → HasOrder schema table o → order_key schema table o values ≡ order_in (indexes_of schema table) (place_in_table schema table o) values
order_is schema table None values h = sym (order_past (indexes_of schema table) values)
order_is schema table (Some index) values h = order_at (indexes_of schema table) index values h

pub entry_here : (schema : SchemaData) (table : ℕ) (o : Option ℕ) (values : List Value) → HasOrder schema table o
    → entry_key schema table o (row_in table values) ≡ Some (order_in (indexes_of schema table) (place_in_table schema table o) values)
entry_here schema table o values h =
    ap (λ (b : Bool). cond b (Some (order_key schema table o values)) None) (eq-eqb table table refl) ∙ ap (λ (k : List ℕ). Some k) (order_is schema table o values h)

pub differs_test : (x : IndexDef) (from : Option (List Value)) (to : List Value) → ((f : List Value) → from ≡ Some f → key_bytes x.parts f ≢ key_bytes x.parts to) → key_differs x from to ≡ true
differs_test x None to never = refl
differs_test x (Some f) to never = by (same_bytes (key_bytes x.parts f) (key_bytes x.parts to)) refl
  where
    by : (b : Bool) → same_bytes (key_bytes x.parts f) (key_bytes x.parts to) ≡ b → not b ≡ true
    by true e = absurd (never f refl (same_bytes_eq (key_bytes x.parts f) (key_bytes x.parts to) e))
    by false e = refl

pub differs_from : (x : IndexDef) (from : Option (List Value)) (to : List Value) → key_differs x from to ≡ true → (f : List Value) → from ≡ Some f → key_bytes x.parts f ≢ key_bytes x.parts to
differs_from x None to e f is same = absurd (none_is_none f is)
differs_from x (Some g) to e f is same =
    let fg : g ≡ f = cc in
    let alike : same_bytes (key_bytes x.parts g) (key_bytes x.parts to) ≡ true =
    ap (λ (v : List ℕ). same_bytes v (key_bytes x.parts to)) (ap (key_bytes x.parts) fg ∙ same) ∙ same_bytes_refl (key_bytes x.parts to) in
    let clash : false ≡ true = sym (ap not alike) ∙ e in
    cc

-- ---- the listed moves

record IsListed (xs : List IndexDef) (n : ℕ) (from : Option (List Value)) (to : List Value) (e f : Bool) (j : ℕ) (key : List ℕ) : Type 0 where
  direction : e ≡ f
  place : ℕ
  within : place ≤ length xs
  index : j ≡ n + place
  key_is : order_in xs place to ≡ key
  differs : Differs xs place from to

listed_identity : (n : ℕ) (from : Option (List Value)) (to : List Value) (e f : Bool) (j : ℕ) (key : List ℕ) → HasMove (moves_of_identity n from e) f j key → IsListed [] n from to e f j key
listed_identity n None to e f j key (inl is) =
    let at : n ≡ j = is.index in
    record { direction = is.direction; place = 0; within = omega arith; index = omega arith; key_is = is.key_is; differs = λ g there. absurd (none_is_none g there) }
listed_identity n None to e f j key (inr h) = absurd h
listed_identity n (Some g) to e f j key h = absurd h

listed_further : (x : IndexDef) (xs : List IndexDef) (n : ℕ) (from : Option (List Value)) (to : List Value) (e f : Bool) (j : ℕ) (key : List ℕ) → IsListed xs (n + 1) from to e f j key → IsListed (x ∷ xs) n from to e f j key
listed_further x xs n from to e f j key l =
    let w = l.within in
    let i = l.index in
    record { direction = l.direction; place = suc l.place; within = omega (arith, w); index = omega (arith, i); key_is = l.key_is; differs = l.differs }

listed_one : (x : IndexDef) (xs : List IndexDef) (n : ℕ) (from : Option (List Value)) (to : List Value) (e f : Bool) (j : ℕ) (key : List ℕ) (b : Bool) → key_differs x from to ≡ b
    → HasMove (cond b (move_in n x to e ∷ []) []) f j key → IsListed (x ∷ xs) n from to e f j key
listed_one x xs n from to e f j key true d (inl is) =
    let at : n ≡ j = is.index in
    record { direction = is.direction; place = 0; within = omega arith; index = omega arith; key_is = is.key_is; differs = differs_from x from to d }
listed_one x xs n from to e f j key true d (inr h) = absurd h
listed_one x xs n from to e f j key false d h = absurd h

listed : (xs : List IndexDef) (n : ℕ) (from : Option (List Value)) (to : List Value) (e f : Bool) (j : ℕ) (key : List ℕ) → HasMove (moves_in n xs from to e) f j key → IsListed xs n from to e f j key
listed [] n from to e f j key h = listed_identity n from to e f j key h
listed (x ∷ xs) n from to e f j key h =
    elim (has_cases (moves_in_one n x from to e) (moves_in (n + 1) xs from to e) f j key h) [
      | inl one ↦ listed_one x xs n from to e f j key (key_differs x from to) refl one
      | inr more ↦ listed_further x xs n from to e f j key (listed xs (n + 1) from to e f j key more)
    ]

one_there : (x : IndexDef) (n : ℕ) (from : Option (List Value)) (to : List Value) (e : Bool) → key_differs x from to ≡ true → HasMove (moves_in_one n x from to e) e n (key_bytes x.parts to)
one_there x n from to e d =
    subst (λ (b : Bool). HasMove (cond b (move_in n x to e ∷ []) []) e n (key_bytes x.parts to)) (sym d) (inl (record { direction = refl; index = refl; key_is = refl }))

identity_there : (n : ℕ) (from : Option (List Value)) (to : List Value) (e : Bool) (k : ℕ) → k ≤ 0 → Differs [] k from to → HasMove (moves_of_identity n from e) e (n + k) []
identity_there n None to e k h d = inl (record { direction = refl; index = omega arith; key_is = refl })
identity_there n (Some f) to e k h d = absurd (d f refl refl)

there : (xs : List IndexDef) (n : ℕ) (from : Option (List Value)) (to : List Value) (e : Bool) (k : ℕ) → k ≤ length xs → Differs xs k from to → HasMove (moves_in n xs from to e) e (n + k) (order_in xs k to)
there [] n from to e k h d = identity_there n from to e k h d
there (x ∷ xs) n from to e zero h d =
    has_left (moves_in_one n x from to e) (moves_in (n + 1) xs from to e) e (n + 0) (key_bytes x.parts to)
    (subst (λ (i : ℕ). HasMove (moves_in_one n x from to e) e i (key_bytes x.parts to)) (omega arith) (one_there x n from to e (differs_test x from to d)))
there (x ∷ xs) n from to e (suc k) h d =
    has_right (moves_in_one n x from to e) (moves_in (n + 1) xs from to e) e (n + suc k) (order_in xs k to)
    (subst (λ (i : ℕ). HasMove (moves_in (n + 1) xs from to e) e i (order_in xs k to)) (omega arith) (there xs (n + 1) from to e k (omega arith) d))

-- ---- where they are

identity_within : (count n : ℕ) (from : Option (List Value)) (e : Bool) → n < count → AreWithin count (moves_of_identity n from e)
identity_within count n None e h = (h, tt)
identity_within count n (Some f) e h = tt

one_within : (count n : ℕ) (x : IndexDef) (to : List Value) (e b : Bool) → n < count → AreWithin count (cond b (move_in n x to e ∷ []) [])
one_within count n x to e true h = (h, tt)
one_within count n x to e false h = tt

in_within : (count : ℕ) (xs : List IndexDef) (n : ℕ) (from : Option (List Value)) (to : List Value) (e : Bool) → n + length xs < count → AreWithin count (moves_in n xs from to e)
in_within count [] n from to e h = identity_within count n from e (omega arith)
in_within count (x ∷ xs) n from to e h =
    within_both count (moves_in_one n x from to e) (moves_in (n + 1) xs from to e) (one_within count n x to e (key_differs x from to) (omega arith)) (in_within count xs (n + 1) from to e (omega arith))

identity_apart : (n : ℕ) (from : Option (List Value)) (e : Bool) → AreApart (moves_of_identity n from e)
identity_apart n None e = ((λ f h. h), tt)
identity_apart n (Some g) e = tt

one_apart : (n : ℕ) (x : IndexDef) (to : List Value) (e b : Bool) → AreApart (cond b (move_in n x to e ∷ []) [])
one_apart n x to e true = ((λ f h. h), tt)
one_apart n x to e false = tt

one_at : (n : ℕ) (x : IndexDef) (to : List Value) (e b f : Bool) (j : ℕ) (key : List ℕ) → HasMove (cond b (move_in n x to e ∷ []) []) f j key → n ≡ j
one_at n x to e true f j key (inl is) = is.index
one_at n x to e true f j key (inr h) = absurd h
one_at n x to e false f j key h = absurd h

in_apart : (xs : List IndexDef) (n : ℕ) (from : Option (List Value)) (to : List Value) (e : Bool) → AreApart (moves_in n xs from to e)
in_apart [] n from to e = identity_apart n from e
in_apart (x ∷ xs) n from to e =
    apart_both (moves_in_one n x from to e) (moves_in (n + 1) xs from to e) (one_apart n x to e (key_differs x from to)) (in_apart xs (n + 1) from to e)
    (λ f g j key h k.
    let a : n ≡ j = one_at n x to e (key_differs x from to) f j key h in
    let l = listed xs (n + 1) from to e g j key k in
    let b : j ≡ n + 1 + l.place = l.index in
    absurd (omega (arith, a, b)))

identity_all : (n : ℕ) (from : Option (List Value)) (e : Bool) → AreAll e (moves_of_identity n from e)
identity_all n None e = (refl, tt)
identity_all n (Some f) e = tt

one_all : (n : ℕ) (x : IndexDef) (to : List Value) (e b : Bool) → AreAll e (cond b (move_in n x to e ∷ []) [])
one_all n x to e true = (refl, tt)
one_all n x to e false = tt

in_all : (xs : List IndexDef) (n : ℕ) (from : Option (List Value)) (to : List Value) (e : Bool) → AreAll e (moves_in n xs from to e)
in_all [] n from to e = identity_all n from e
in_all (x ∷ xs) n from to e = all_both e (moves_in_one n x from to e) (moves_in (n + 1) xs from to e) (one_all n x to e (key_differs x from to)) (in_all xs (n + 1) from to e)

-- ---- toward the values of one table

toward_within : (schema : SchemaData) (table : ℕ) (from to : Option (List Value)) (e : Bool) → HasTable schema table → AreWithin (index_count schema) (moves_toward schema table from to e)
toward_within schema table from None e ht = tt
toward_within schema table from (Some to) e ht = in_within (index_count schema) (indexes_of schema table) (first_of_table schema table) from to e (number_within schema table None ht tt)

toward_apart : (schema : SchemaData) (table : ℕ) (from to : Option (List Value)) (e : Bool) → AreApart (moves_toward schema table from to e)
toward_apart schema table from None e = tt
toward_apart schema table from (Some to) e = in_apart (indexes_of schema table) (first_of_table schema table) from to e

toward_all : (schema : SchemaData) (table : ℕ) (from to : Option (List Value)) (e : Bool) → AreAll e (moves_toward schema table from to e)
toward_all schema table from None e = tt
toward_all schema table from (Some to) e = in_all (indexes_of schema table) (first_of_table schema table) from to e

-- the moves toward the one values and toward the others are at different places
opposite_apart : (schema : SchemaData) (table : ℕ) (a b : Option (List Value)) (e f g h : Bool) (j : ℕ) (key : List ℕ) → HasMove (moves_toward schema table a b e) g j key → ¬ HasMove (moves_toward schema table b a f) h j key
opposite_apart schema table a None e f g h j key x y = absurd x
opposite_apart schema table None (Some b) e f g h j key x y = absurd y
opposite_apart schema table (Some a) (Some b) e f g h j key x y =
    let xs = indexes_of schema table in
    let lx = listed xs (first_of_table schema table) (Some a) b e g j key x in
    let ly = listed xs (first_of_table schema table) (Some b) a f h j key y in
    let ix = lx.index in
    let iy = ly.index in
    let same : ly.place ≡ lx.place = omega (arith, ix, iy) in
    lx.differs a refl (ap (λ (k : ℕ). order_in xs k a) (sym same) ∙ (ly.key_is ∙ sym lx.key_is))

gains_here : (schema : SchemaData) (table : ℕ) (from : Option (List Value)) (to : List Value) (e f : Bool) (o : Option ℕ) (key : List ℕ) → HasOrder schema table o
    → IsListed (indexes_of schema table) (first_of_table schema table) from to e f (number_of schema table o) key → Gains schema (stored_in table from) (row_in table to) table o key
gains_here schema table from to e f o key ho l =
    let xs = indexes_of schema table in
    let number = number_is schema table o in
    let index = l.index in
    let same : place_in_table schema table o ≡ l.place = omega (arith, number, index) in
    let now : entry_key schema table o (row_in table to) ≡ Some key = entry_here schema table o to ho ∙ ap (λ (k : List ℕ). Some k) (ap (λ (k : ℕ). order_in xs k to) same ∙ l.key_is) in
    (now, before from l.differs same)
  where
    before : (from : Option (List Value)) → Differs (indexes_of schema table) l.place from to → place_in_table schema table o ≡ l.place → entry_key schema table o (stored_in table from) ≢ Some key
    before None differs same is = absurd (none_is_none key (is))
    before (Some g) differs same is =
        let found : Some (order_in (indexes_of schema table) (place_in_table schema table o) g) ≡ Some key = sym (entry_here schema table o g ho) ∙ is in
        let same_key : order_in (indexes_of schema table) (place_in_table schema table o) g ≡ key = cc in
        differs g refl (ap (λ (k : ℕ). order_in (indexes_of schema table) k g) (sym same) ∙ (same_key ∙ sym l.key_is))

toward_gains : (schema : SchemaData) (table : ℕ) (from to : Option (List Value)) (e f : Bool) (t : ℕ) (o : Option ℕ) (key : List ℕ) → HasTable schema table → HasTable schema t → HasOrder schema t o
    → HasMove (moves_toward schema table from to e) f (number_of schema t o) key → (e ≡ f) × Gains schema (stored_in table from) (stored_in table to) t o key
toward_gains schema table from None e f t o key htable ht ho h = absurd h
toward_gains schema table from (Some to) e f t o key htable ht ho h =
    let xs = indexes_of schema table in
    let l = listed xs (first_of_table schema table) from to e f (number_of schema t o) key h in
    let at = place_at_number schema t table o l.place ht htable ho l.within l.index in (
      l.direction,
      subst (λ (n : ℕ). Gains schema (stored_in table from) (row_in table to) n o key) (sym at.0)
          (gains_here schema table from to e f o key (subst (λ (n : ℕ). HasOrder schema n o) at.0 ho)
          (subst (λ (n : ℕ). IsListed xs (first_of_table schema table) from to e f (number_of schema n o) key) at.0 l)),
    )

moved_here : (schema : SchemaData) (table : ℕ) (from : Option (List Value)) (to : List Value) (e : Bool) (o : Option ℕ) (key : List ℕ) → HasOrder schema table o
    → Gains schema (stored_in table from) (row_in table to) table o key → HasMove (moves_in (first_of_table schema table) (indexes_of schema table) from to e) e (number_of schema table o) key
moved_here schema table from to e o key ho gains =
    let xs = indexes_of schema table in
    let p = place_in_table schema table o in
    let found : Some (order_in xs p to) ≡ Some key = sym (entry_here schema table o to ho) ∙ gains.0 in
    let key_is : order_in xs p to ≡ key = cc in
    let differs : Differs xs p from to = λ f is same.
    gains.1 (ap (λ (v : Option (List Value)). entry_key schema table o (stored_in table v)) is ∙ (entry_here schema table o f ho ∙ ap (λ (k : List ℕ). Some k) (same ∙ key_is))) in
    subst (λ (k : List ℕ). HasMove (moves_in (first_of_table schema table) xs from to e) e (number_of schema table o) k) key_is
    (subst (λ (n : ℕ). HasMove (moves_in (first_of_table schema table) xs from to e) e n (order_in xs p to)) (sym (number_is schema table o))
    (there xs (first_of_table schema table) from to e p (place_within schema table o ho) differs))

toward_moved : (schema : SchemaData) (table : ℕ) (from to : Option (List Value)) (e : Bool) (t : ℕ) (o : Option ℕ) (key : List ℕ) → HasOrder schema t o
    → Gains schema (stored_in table from) (stored_in table to) t o key → HasMove (moves_toward schema table from to e) e (number_of schema t o) key
toward_moved schema table from None e t o key ho gains = absurd (none_is_none key (gains.0))
toward_moved schema table from (Some to) e t o key ho gains =
    elim (cases_eq table t) [
      | inl is ↦
          subst (λ (n : ℕ). HasMove (moves_toward schema table from (Some to) e) e (number_of schema n o) key) is
          (moved_here schema table from to e o key (subst (λ (n : ℕ). HasOrder schema n o) (sym is) ho)
          (subst (λ (n : ℕ). Gains schema (stored_in table from) (row_in table to) n o key) (sym is) gains))
      | inr ne ↦
          absurd (none_is_none key (sym (ap (λ (b : Bool). cond b (Some (order_key schema t o to)) None) (ne_eqb table t ne)) ∙ gains.0))
    ]

-- ---- a change

abbrev pub changes : SchemaData → ℕ → Option (List Value) → Option (List Value) → List Move
changes schema table old new = moves_toward schema table old new true ++ moves_toward schema table new old false

pub change_within : (schema : SchemaData) (table : ℕ) (old new : Option (List Value)) → HasTable schema table → AreWithin (index_count schema) (changes schema table old new)
change_within schema table old new ht =
    within_both (index_count schema) (moves_toward schema table old new true) (moves_toward schema table new old false) (toward_within schema table old new true ht) (toward_within schema table new old false ht)

pub change_apart : (schema : SchemaData) (table : ℕ) (old new : Option (List Value)) → AreApart (changes schema table old new)
change_apart schema table old new =
    apart_both (moves_toward schema table old new true) (moves_toward schema table new old false) (toward_apart schema table old new true) (toward_apart schema table new old false)
    (λ g h j key x. opposite_apart schema table old new true false g h j key x)

pub change_enters : (schema : SchemaData) (table : ℕ) (old new : Option (List Value)) (t : ℕ) (o : Option ℕ) (key : List ℕ) → HasTable schema table → HasTable schema t → HasOrder schema t o
    → HasMove (changes schema table old new) true (number_of schema t o) key ↔ Gains schema (stored_in table old) (stored_in table new) t o key
change_enters schema table old new t o key htable ht ho = (
  λ h. elim (has_cases (moves_toward schema table old new true) (moves_toward schema table new old false) true (number_of schema t o) key h) [
    | inl l ↦ (toward_gains schema table old new true true t o key htable ht ho l).1
    | inr r ↦ absurd (let clash : false ≡ true = (toward_gains schema table new old false true t o key htable ht ho r).0 in cc)
  ],
  λ g. has_left (moves_toward schema table old new true) (moves_toward schema table new old false) true (number_of schema t o) key (toward_moved schema table old new true t o key ho g),
)

pub change_leaves : (schema : SchemaData) (table : ℕ) (old new : Option (List Value)) (t : ℕ) (o : Option ℕ) (key : List ℕ) → HasTable schema table → HasTable schema t → HasOrder schema t o
    → HasMove (changes schema table old new) false (number_of schema t o) key ↔ Gains schema (stored_in table new) (stored_in table old) t o key
change_leaves schema table old new t o key htable ht ho = (
  λ h. elim (has_cases (moves_toward schema table old new true) (moves_toward schema table new old false) false (number_of schema t o) key h) [
    | inl l ↦ absurd (let clash : true ≡ false = (toward_gains schema table old new true false t o key htable ht ho l).0 in cc)
    | inr r ↦ (toward_gains schema table new old false false t o key htable ht ho r).1
  ],
  λ g. has_right (moves_toward schema table old new true) (moves_toward schema table new old false) false (number_of schema t o) key (toward_moved schema table new old false t o key ho g),
)

take_left : (xs ys : List Move) → take (length xs) (xs ++ ys) ≡ xs
take_left [] ys = refl
take_left (x ∷ xs) ys = ap (λ (zs : List Move). x ∷ zs) (take_left xs ys)

drop_left : (xs ys : List Move) → drop (length xs) (xs ++ ys) ≡ ys
drop_left [] ys = refl
drop_left (x ∷ xs) ys = drop_left xs ys

pub enter_first : (schema : SchemaData) (table : ℕ) (old new : Option (List Value)) → EnterFirst (length (moves_toward schema table old new true)) (changes schema table old new)
enter_first schema table old new =
    let a = moves_toward schema table old new true in
    let b = moves_toward schema table new old false in
    record {
      first = subst (AreAll true) (sym (take_left a b)) (toward_all schema table old new true);
      others = subst (AreAll false) (sym (drop_left a b)) (toward_all schema table new old false);
    }
