-- What agreement says of the fields of a table, and that a schema agrees with itself.
use Rattle.std.proofs.Common.{◌≡◌, ⊎_elim, ℕ, zero, suc, ◌+◌, ◌<◌, ◌≤◌, Bool, true, false, ◌&&◌, List, [], ◌∷◌, length, get_or, Option, Some, None, refl, sym, ap, ◌∙◌, subst, arith}
use Rattle.std.specs.Prelude.{All, IsTrue, unwrap_or, if◌then◌else◌}
use Rattle.std.specs.List.{list_all}
use Rattle.std.proofs.lemmas.Bool.{and_from, and_parts, cases_lt, false≢true}
use Rattle.std.proofs.lemmas.List.Elements.{All-head, All-tail}
use Rattle.std.proofs.Math.ListN.{get_or-map}
use Rattle.abl_values.specs.declared.schema.FieldDef.{FieldDef}
use Rattle.abl_values.specs.declared.schema.TableDef.{TableDef}
use Rattle.abl_values.specs.Names.{is_name}
use Rattle.abl_values.specs.Schema.{field_kinds, field_names, no_field, no_table, number_of_name, same_name}
use Rattle.abl_values.specs.Sound.{has_twice}
use Rattle.stored_schema.specs.Agreement.{has_field, same_field, same_field_at, same_fields, same_indexes, same_table, same_tables}
use Rattle.stored_schema.specs.Seen.{number_in}
use Rattle.stored_schema.proofs.Names.{found-place, found_at, same_name-along, same_name-back, same_name-itself}

-- ---- lists

pub all-at : {X : Type 0} (p : X → Bool) (xs : List X) (i : ℕ) (d : X) → list_all p xs ≡ true → i < length xs → p (get_or xs i d) ≡ true
all-at p [] i d h lt = absurd (omega (arith, lt))
all-at p (x ∷ xs) zero d h lt = (and_parts (p x) (list_all p xs) h).0
all-at p (x ∷ xs) (suc i) d h lt = all-at p xs i d (and_parts (p x) (list_all p xs) h).1 (omega (arith, lt))

pub all-from : {X : Type 0} (p : X → Bool) (xs : List X) (d : X) → ((i : ℕ) → i < length xs → p (get_or xs i d) ≡ true) → list_all p xs ≡ true
all-from p [] d h = refl
all-from p (x ∷ xs) d h = and_from (p x) (list_all p xs) (h 0 (omega arith)) (all-from p xs d (λ i lt. h (suc i) (omega (arith, lt))))

pub name-at : (fs : List FieldDef) (n : ℕ) → get_or (field_names fs) n [] ≡ (get_or fs n no_field).name
name-at fs n = get_or-map (λ (f : FieldDef). f.name) fs n no_field

pub names-length : (fs : List FieldDef) → length (field_names fs) ≡ length fs
names-length [] = refl
names-length (f ∷ fs) = ap suc (names-length fs)

pub kinds-length : (fs : List FieldDef) → length (field_kinds fs) ≡ length fs
kinds-length [] = refl
kinds-length (f ∷ fs) = ap suc (kinds-length fs)

pub kind-at : (fs : List FieldDef) (n : ℕ) → get_or (field_kinds fs) n None ≡ (get_or fs n no_field).kind
kind-at [] n = refl
kind-at (f ∷ fs) zero = refl
kind-at (f ∷ fs) (suc n) = kind-at fs n

-- ---- one field

-- a field that is among these
pub record IsAmong (fields : List FieldDef) (f : FieldDef) : Type 0 where
  pub place : ℕ
  pub found : number_of_name 0 (field_names fields) f.name ≡ Some place
  pub within : place < length fields
  pub named : same_name (get_or fields place no_field).name f.name ≡ true
  pub same : same_field f (get_or fields place no_field) ≡ true

pub among : (fields : List FieldDef) (f : FieldDef) → has_field fields f ≡ true → IsAmong fields f
among fields f h = by_number (number_of_name 0 (field_names fields) f.name) refl h
  where
    by_number : (o : Option ℕ) → number_of_name 0 (field_names fields) f.name ≡ o → same_field_at fields f o ≡ true → IsAmong fields f
    by_number None is h = absurd (false≢true h)
    by_number (Some n) is h =
        let at = found-place (field_names fields) f.name n is in
        record {
          place = n;
          found = is;
          within = omega (arith, at.0, names-length fields);
          named = subst (λ (name : List ℕ). same_name name f.name ≡ true) (name-at fields n) at.1;
          same = h;
        }

-- where no name stands twice, two places of one name are one
pub one_place : (fs : List FieldDef) (k n : ℕ) → has_twice (field_names fs) ≡ false → k < length fs → n < length fs → same_name (get_or fs k no_field).name (get_or fs n no_field).name ≡ true → k ≡ n
one_place fs k n once ltk ltn same =
    let name = (get_or fs n no_field).name in
    let first : number_of_name 0 (field_names fs) name ≡ Some k = found_at (field_names fs) name k once (omega (arith, ltk, names-length fs)) (ap (λ (x : List ℕ). same_name x name) (name-at fs k) ∙ same) in
    let second : number_of_name 0 (field_names fs) name ≡ Some n = found_at (field_names fs) name n once (omega (arith, ltn, names-length fs)) (ap (λ (x : List ℕ). same_name x name) (name-at fs n) ∙ same_name-itself name) in
    cc

-- ---- the fields of two tables that agree

-- the fields of both tables have names, and none twice
pub record AreNamed (fs : List FieldDef) : Type 0 where
  pub names : All (λ (f : FieldDef). IsTrue (is_name f.name)) fs
  pub once : has_twice (field_names fs) ≡ false

nameless : (fs : List FieldDef) (n : ℕ) → All (λ (f : FieldDef). IsTrue (is_name f.name)) fs → number_of_name n (field_names fs) [] ≡ None
nameless [] n h = refl
nameless (f ∷ fs) n h = by_name (nameless fs (n + 1) (All-tail (λ (f : FieldDef). IsTrue (is_name f.name)) f fs h)) f.name refl (All-head (λ (f : FieldDef). IsTrue (is_name f.name)) f fs h)
  where
    by_name : number_of_name (n + 1) (field_names fs) [] ≡ None → (name : List ℕ) → f.name ≡ name → IsTrue (is_name name) → (if same_name f.name [] then Some n else number_of_name (n + 1) (field_names fs) []) ≡ None
    by_name again [] is one = absurd (false≢true one)
    by_name again (b ∷ bs) is one = ap (λ (x : List ℕ). if same_name x [] then Some n else number_of_name (n + 1) (field_names fs) []) is ∙ again

module _ (given own : List FieldDef) (named_given : AreNamed given) (named_own : AreNamed own) (h : same_fields given own ≡ true) where
  halves : (list_all (has_field own) given ≡ true) × (list_all (has_field given) own ≡ true)
  halves = and_parts (list_all (has_field own) given) (list_all (has_field given) own) h

  -- where the field with this number is in the given table
  there : (n : ℕ) → n < length own → IsAmong given (get_or own n no_field)
  there n lt = among given (get_or own n no_field) (all-at (has_field given) own n no_field halves.1 lt)

  number-is : (n : ℕ) (lt : n < length own) → number_in given own n ≡ (there n lt).place
  number-is n lt = ap (λ (o : Option ℕ). unwrap_or o (length given + n)) (there n lt).found

  pub number-within : (n : ℕ) → n < length own → number_in given own n < length given
  number-within n lt = omega (arith, number-is n lt, (there n lt).within)

  pub number-same : (n : ℕ) → n < length own → same_field (get_or own n no_field) (get_or given (number_in given own n) no_field) ≡ true
  number-same n lt = subst (λ (i : ℕ). same_field (get_or own n no_field) (get_or given i no_field) ≡ true) (sym (number-is n lt)) (there n lt).same

  pub number-named : (n : ℕ) → n < length own → same_name (get_or given (number_in given own n) no_field).name (get_or own n no_field).name ≡ true
  number-named n lt = subst (λ (i : ℕ). same_name (get_or given i no_field).name (get_or own n no_field).name ≡ true) (sym (number-is n lt)) (there n lt).named

  number-past : (n : ℕ) → length own ≤ n → number_in given own n ≡ length given + n
  number-past n le =
      ap (λ (f : FieldDef). unwrap_or (number_of_name 0 (field_names given) f.name) (length given + n)) (get_or-past own n le)
      ∙ ap (λ (o : Option ℕ). unwrap_or o (length given + n)) (nameless given 0 named_given.names)
    where
      get_or-past : (fs : List FieldDef) (n : ℕ) → length fs ≤ n → get_or fs n no_field ≡ no_field
      get_or-past [] n le = refl
      get_or-past (f ∷ fs) zero le = absurd (omega (arith, le))
      get_or-past (f ∷ fs) (suc n) le = get_or-past fs n (omega (arith, le))

  -- no two numbers become one
  pub number-apart : (k n : ℕ) → number_in given own k ≡ number_in given own n → k ≡ n
  number-apart k n e = ⊎_elim (λ (inside : k < length own). ⊎_elim (both inside) (one k n e inside) (cases_lt n (length own))) (λ (past : length own ≤ k). ⊎_elim (λ (inside : n < length own). sym (one n k (sym e) inside past)) (neither past) (cases_lt n (length own))) (cases_lt k (length own))
    where
      both : k < length own → n < length own → k ≡ n
      both ltk ltn =
          one_place own k n named_own.once ltk ltn
          (same_name-along (get_or own k no_field).name (get_or given (number_in given own k) no_field).name (get_or own n no_field).name (same_name-back (get_or given (number_in given own k) no_field).name (get_or own k no_field).name (number-named k ltk))
          (subst (λ (i : ℕ). same_name (get_or given i no_field).name (get_or own n no_field).name ≡ true) (sym e) (number-named n ltn)))

      one : (k n : ℕ) → number_in given own k ≡ number_in given own n → k < length own → length own ≤ n → k ≡ n
      one k n e lt le = absurd (omega (arith, e, number-within k lt, number-past n le))

      neither : length own ≤ k → length own ≤ n → k ≡ n
      neither lek len = omega (arith, e, number-past k lek, number-past n len)

  -- each given field is that of a number
  pub number-all : (m : ℕ) → m < length given → (n : ℕ) × (n < length own) × (number_in given own n ≡ m)
  number-all m lt =
      let at = among own (get_or given m no_field) (all-at (has_field own) given m no_field halves.0 lt) in
      let name = (get_or own at.place no_field).name in
      let found : number_of_name 0 (field_names given) name ≡ Some m = found_at (field_names given) name m named_given.once (omega (arith, lt, names-length given)) (ap (λ (x : List ℕ). same_name x name) (name-at given m) ∙ same_name-back name (get_or given m no_field).name at.named) in
      (at.place, at.within, ap (λ (o : Option ℕ). unwrap_or o (length given + at.place)) found)

-- ---- tables

pub tables-length : (as_ bs : List TableDef) → same_tables as_ bs ≡ true → length as_ ≡ length bs
tables-length [] [] h = refl
tables-length [] (b ∷ bs) h = absurd (false≢true h)
tables-length (a ∷ as_) [] h = absurd (false≢true h)
tables-length (a ∷ as_) (b ∷ bs) h = ap suc (tables-length as_ bs (and_parts (same_table a b) (same_tables as_ bs) h).1)

pub table-same : (as_ bs : List TableDef) (t : ℕ) → same_tables as_ bs ≡ true → t < length as_ → same_table (get_or as_ t no_table) (get_or bs t no_table) ≡ true
table-same [] bs t h lt = absurd (omega (arith, lt))
table-same (a ∷ as_) [] t h lt = absurd (false≢true h)
table-same (a ∷ as_) (b ∷ bs) zero h lt = (and_parts (same_table a b) (same_tables as_ bs) h).0
table-same (a ∷ as_) (b ∷ bs) (suc t) h lt = table-same as_ bs t (and_parts (same_table a b) (same_tables as_ bs) h).1 (omega (arith, lt))

pub fields-same : (a b : TableDef) → same_table a b ≡ true → same_fields a.fields b.fields ≡ true
fields-same a b h =
    let rest = (and_parts (same_name a.name b.name) (same_fields a.fields b.fields && same_indexes a b) h).1 in
    (and_parts (same_fields a.fields b.fields) (same_indexes a b) rest).0
