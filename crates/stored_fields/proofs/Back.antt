-- A row of live fields is read back from its bytes, and what is read fits.
use Rattle.std.proofs.Common.{◌≡◌, ℕ, zero, suc, ◌<◌, Bool, true, false, List, [], ◌∷◌, length, get_or, Option, Some, None, refl, sym, ap, ◌∙◌, subst, arith}
use Rattle.std.specs.Prelude.{◌||◌, if◌then◌else◌, option_map, IfSome, All}
use Rattle.std.proofs.lemmas.List.{same_lists}
use Rattle.std.proofs.lemmas.List.Elements.{All-head, All-tail}
use Rattle.abl_base.specs.declared.value.Value.{Value}
use Rattle.abl_base.specs.declared.value.Value.TheVariants.{Unknown}
use Rattle.abl_base.specs.declared.value.Kind.{Kind}
use Rattle.abl_values.specs.Fit.{IsOfField}
use Rattle.abl_values.specs.Keys.{AreBytes}
use Rattle.abl_values.specs.Rows.{FitsFields, bytes_of_row, field_bytes, field_in, with_first}
use Rattle.abl_values.proofs.RowLaws.{field_in-bytes, field_in-back, rest_are_bytes}
use Rattle.stored_fields.specs.declared.field.StoredField.{StoredField}
use Rattle.stored_fields.specs.Rows.{AreStoredFor, bytes_of, has_number, initials_of, is_live, live_row, live_value, row_in, stored_in, stored_values, value_for}
use Rattle.stored_fields.proofs.Numbers.{below-at, length-below, same_number}
use Rattle.stored_fields.proofs.Left.{stored-none, stored-read}

abbrev pub stored_kinds : List StoredField → List (Option Kind)
stored_kinds [] = []
stored_kinds (f ∷ fs) = f.kind ∷ stored_kinds fs

abbrev pub Numbered : List (Option Kind) → StoredField → Type 0
Numbered kinds f = IfSome f.live (λ n. (n < length kinds) × (f.kind ≡ get_or kinds n None))

-- ---- rows that fit

pub fits-length : (kinds : List (Option Kind)) (row : List Value) → FitsFields kinds row → length row ≡ length kinds
fits-length [] [] h = refl
fits-length [] (v ∷ row) h = absurd h
fits-length (kind ∷ kinds) [] h = absurd h
fits-length (kind ∷ kinds) (v ∷ row) h = ap suc (fits-length kinds row h.1)

pub fits-at : (kinds : List (Option Kind)) (row : List Value) (n : ℕ) → FitsFields kinds row → n < length kinds → IsOfField (get_or kinds n None) (get_or row n Unknown)
fits-at [] row n h lt = absurd (omega (arith, lt))
fits-at (kind ∷ kinds) [] n h lt = absurd h
fits-at (kind ∷ kinds) (v ∷ row) zero h lt = h.0
fits-at (kind ∷ kinds) (v ∷ row) (suc n) h lt = fits-at kinds row n h.1 (omega (arith, lt))

pub fits-all : (kinds : List (Option Kind)) (row : List Value) → length row ≡ length kinds → ((n : ℕ) → n < length kinds → IsOfField (get_or kinds n None) (get_or row n Unknown)) → FitsFields kinds row
fits-all [] [] same h = tt
fits-all [] (v ∷ row) same h = absurd (omega (arith, same))
fits-all (kind ∷ kinds) [] same h = absurd (omega (arith, same))
fits-all (kind ∷ kinds) (v ∷ row) same h = (h 0 (omega arith), fits-all kinds row (omega (arith, same)) (λ n lt. h (suc n) (omega (arith, lt))))

unknown_fits : (kind : Option Kind) → IsOfField kind Unknown
unknown_fits None = refl
unknown_fits (Some kind) = tt

-- ---- written

value_fits : (kinds : List (Option Kind)) (row : List Value) (f : StoredField) (live : Option ℕ) → FitsFields kinds row → IfSome live (λ n. (n < length kinds) × (f.kind ≡ get_or kinds n None)) → IsOfField f.kind (value_for row live)
value_fits kinds row f None fits h = unknown_fits f.kind
value_fits kinds row f (Some n) fits h = subst (λ kind. IsOfField kind (get_or row n Unknown)) (sym h.1) (fits-at kinds row n fits h.0)

values_fit : (kinds : List (Option Kind)) (fs : List StoredField) (row : List Value) → FitsFields kinds row → All (Numbered kinds) fs → FitsFields (stored_kinds fs) (stored_values fs row)
values_fit kinds [] row fits h = tt
values_fit kinds (f ∷ fs) row fits h = (value_fits kinds row f f.live fits (All-head (Numbered kinds) f fs h), values_fit kinds fs row fits (All-tail (Numbered kinds) f fs h))

-- bytes of all stored fields are read back
pub stored-back : (fs : List StoredField) (vs : List Value) → FitsFields (stored_kinds fs) vs → stored_in fs (bytes_of_row vs) ≡ Some vs
unfolding bytes_of_row stored_in
stored-back [] [] h = refl
stored-back [] (v ∷ vs) h = absurd h
stored-back (f ∷ fs) [] h = absurd h
stored-back (f ∷ fs) (v ∷ vs) h =
    stored-read f fs (bytes_of_row (v ∷ vs)) v (bytes_of_row vs) (field_in-bytes f.kind v (bytes_of_row vs) h.0) ∙ ap (with_first v) (stored-back fs vs h.1)

own_value : (row : List Value) (live : Option ℕ) (n : ℕ) → has_number live n ≡ true → value_for row live ≡ get_or row n Unknown
own_value row None n h = cc
own_value row (Some k) n h = ap (λ (i : ℕ). get_or row i Unknown) (same_number k n h)

value-back : (fs : List StoredField) (row : List Value) (n : ℕ) → is_live fs n ≡ true → live_value fs (stored_values fs row) n ≡ get_or row n Unknown
value-back [] row n h = cc
value-back (f ∷ fs) row n h = by_number (λ l. value-back fs row n l) (has_number f.live n) refl h
  where
    by_number : (is_live fs n ≡ true → live_value fs (stored_values fs row) n ≡ get_or row n Unknown) → (b : Bool) → has_number f.live n ≡ b → (b || is_live fs n) ≡ true → (if b then value_for row f.live else live_value fs (stored_values fs row) n) ≡ get_or row n Unknown
    by_number again true e h = own_value row f.live n e
    by_number again false e h = again h

-- the law: a row is read back
pub row-back : (kinds : List (Option Kind)) (fields : List StoredField) (row : List Value) → AreStoredFor kinds fields → FitsFields kinds row → row_in (length kinds) fields (bytes_of fields row) ≡ Some row
row-back kinds fields row stored fits =
    ap (option_map (live_row (length kinds) fields)) (stored-back fields (stored_values fields row) (values_fit kinds fields row fits stored.numbered))
    ∙ ap Some (same_lists (live_row (length kinds) fields (stored_values fields row)) row lengths at)
  where
    lengths : length (live_row (length kinds) fields (stored_values fields row)) ≡ length row
    lengths = length-below (length kinds) (live_value fields (stored_values fields row)) ∙ sym (fits-length kinds row fits)

    any_default : (xs : List Value) (k : ℕ) (d e : Value) → k < length xs → get_or xs k d ≡ get_or xs k e
    any_default [] k d e lt = absurd (omega (arith, lt))
    any_default (x ∷ xs) zero d e lt = refl
    any_default (x ∷ xs) (suc k) d e lt = any_default xs k d e (omega (arith, lt))

    at : (k : ℕ) (d : Value) → k < length (live_row (length kinds) fields (stored_values fields row)) → get_or (live_row (length kinds) fields (stored_values fields row)) k d ≡ get_or row k d
    at k d lt =
        let within : k < length kinds = omega (arith, lt, length-below (length kinds) (live_value fields (stored_values fields row))) in
        below-at (length kinds) (live_value fields (stored_values fields row)) k d within
        ∙ value-back fields row k (stored.covered k within)
        ∙ any_default row k Unknown d (omega (arith, within, fits-length kinds row fits))

-- ---- read

abbrev Holds : StoredField → Type 0
Holds f = IsOfField f.kind f.initial

initials_fit : (fs : List StoredField) → All Holds fs → FitsFields (stored_kinds fs) (initials_of fs)
initials_fit [] h = tt
initials_fit (f ∷ fs) h = (All-head Holds f fs h, initials_fit fs (All-tail Holds f fs h))

first_fits : (f : StoredField) (fs : List StoredField) (v : Value) (o : Option (List Value)) (vs : List Value) → IsOfField f.kind v → ((ws : List Value) → o ≡ Some ws → FitsFields (stored_kinds fs) ws)
    → with_first v o ≡ Some vs → FitsFields (stored_kinds (f ∷ fs)) vs
first_fits f fs v None vs one more e = cc
first_fits f fs v (Some ws) vs one more e = let same : v ∷ ws ≡ vs = cc in subst (FitsFields (stored_kinds (f ∷ fs))) same (one, more ws refl)

none_some : (x : List Value) → None ≡ Some x → ⊥
none_some x h = cc

pub stored-fits : (fs : List StoredField) (bytes : List ℕ) (vs : List Value) → AreBytes bytes → All Holds fs → stored_in fs bytes ≡ Some vs → FitsFields (stored_kinds fs) vs
unfolding stored_in
stored-fits [] [] vs small h e = let same : [] ≡ vs = cc in subst (FitsFields []) same tt
stored-fits [] (b ∷ bytes) vs small h e = cc
stored-fits (f ∷ fs) [] vs small h e = let same : initials_of (f ∷ fs) ≡ vs = cc in subst (FitsFields (stored_kinds (f ∷ fs))) same (initials_fit (f ∷ fs) h)
stored-fits (f ∷ fs) (b ∷ bytes) vs small h e = by_found (λ rest ws after found. stored-fits fs rest ws after (All-tail Holds f fs h) found) (field_in f.kind (b ∷ bytes)) refl
  where
    by_found : ((rest : List ℕ) (ws : List Value) → AreBytes rest → stored_in fs rest ≡ Some ws → FitsFields (stored_kinds fs) ws) → (found : Option (Value × List ℕ)) → field_in f.kind (b ∷ bytes) ≡ found → FitsFields (stored_kinds (f ∷ fs)) vs
    by_found again None is = absurd (none_some vs (sym (stored-none f fs (b ∷ bytes) (omega arith) is) ∙ e))
    by_found again (Some (v, rest)) is =
        let back = field_in-back f.kind (b ∷ bytes) v rest small is in
        let after : AreBytes rest = rest_are_bytes (field_bytes v) rest (subst AreBytes (sym back.0) small) in
        first_fits f fs v (stored_in fs rest) vs back.1 (λ ws found. again rest ws after found) (sym (stored-read f fs (b ∷ bytes) v rest is) ∙ e)

numbered_kind : (kinds : List (Option Kind)) (kind : Option Kind) (live : Option ℕ) (n : ℕ) (v : Value) → IfSome live (λ k. (k < length kinds) × (kind ≡ get_or kinds k None)) → has_number live n ≡ true → IsOfField kind v → IsOfField (get_or kinds n None) v
numbered_kind kinds kind None n v h e one = cc
numbered_kind kinds kind (Some k) n v h e one = subst (λ (i : ℕ). IsOfField (get_or kinds i None) v) (same_number k n e) (subst (λ x. IsOfField x v) h.1 one)

live-fits : (kinds : List (Option Kind)) (fs : List StoredField) (vs : List Value) (n : ℕ) → All (Numbered kinds) fs → FitsFields (stored_kinds fs) vs → is_live fs n ≡ true → IsOfField (get_or kinds n None) (live_value fs vs n)
live-fits kinds [] vs n h fits live = cc
live-fits kinds (f ∷ fs) [] n h fits live = absurd fits
live-fits kinds (f ∷ fs) (v ∷ vs) n h fits live = by_number (λ l. live-fits kinds fs vs n (All-tail (Numbered kinds) f fs h) fits.1 l) (has_number f.live n) refl live
  where
    by_number : (is_live fs n ≡ true → IsOfField (get_or kinds n None) (live_value fs vs n)) → (b : Bool) → has_number f.live n ≡ b → (b || is_live fs n) ≡ true → IsOfField (get_or kinds n None) (if b then v else live_value fs vs n)
    by_number again true e l = numbered_kind kinds f.kind f.live n v (All-head (Numbered kinds) f fs h) e fits.0
    by_number again false e l = again l

any_unknown : (xs : List Value) (k : ℕ) (d : Value) → k < length xs → get_or xs k Unknown ≡ get_or xs k d
any_unknown [] k d lt = absurd (omega (arith, lt))
any_unknown (x ∷ xs) zero d lt = refl
any_unknown (x ∷ xs) (suc k) d lt = any_unknown xs k d (omega (arith, lt))

-- the law: a row that is read fits
pub row-fits : (kinds : List (Option Kind)) (fields : List StoredField) (bytes : List ℕ) (row : List Value) → AreStoredFor kinds fields → AreBytes bytes → row_in (length kinds) fields bytes ≡ Some row → FitsFields kinds row
row-fits kinds fields bytes row stored small e = by_values (stored_in fields bytes) refl e
  where
    by_values : (o : Option (List Value)) → stored_in fields bytes ≡ o → option_map (live_row (length kinds) fields) o ≡ Some row → FitsFields kinds row
    by_values None is e = absurd (none_some row e)
    by_values (Some vs) is e =
        let same : live_row (length kinds) fields vs ≡ row = cc in
        let fits = stored-fits fields bytes vs small stored.initials is in
        subst (FitsFields kinds) same (fits-all kinds (live_row (length kinds) fields vs) (length-below (length kinds) (live_value fields vs)) (λ n lt.
        subst (IsOfField (get_or kinds n None)) (sym (below-at (length kinds) (live_value fields vs) n Unknown lt)) (live-fits kinds fields vs n stored.numbered fits (stored.covered n lt))))
