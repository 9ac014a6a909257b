-- Rows of before, read after a field was dropped.
use Rattle.std.proofs.Common.{◌≡◌, ◌≢◌, ℕ, suc, ◌<◌, Bool, true, false, List, [], ◌∷◌, length, map, Option, Some, None, refl, sym, ap, ◌∙◌, subst, arith}
use Rattle.std.specs.Prelude.{if◌then◌else◌, option_map}
use Rattle.std.proofs.lemmas.List.{same_lists}
use Rattle.abl_base.specs.declared.value.Value.{Value}
use Rattle.abl_base.specs.declared.value.Kind.{Kind}
use Rattle.abl_values.specs.Rows.{field_in, with_first}
use Rattle.stored_fields.specs.declared.field.StoredField.{StoredField}
use Rattle.stored_fields.specs.Rows.{has_number, initials_of, live_row, live_value, row_in, stored_in, values_below}
use Rattle.stored_fields.proofs.Left.{stored-end, stored-none, stored-read}
use Rattle.stored_fields.proofs.Numbers.{below-at, length-below}
use Rattle.table_changes.specs.Changes.{StoredTable, live_after, number_after, stored_after, with_number, without, without_field}
use Rattle.table_changes.proofs.Numbers.{number-kept, place, place-number, place-other, place-within, with_number-kind, with_number-live, without-at, without-length}

-- the other fields have the same values
abbrev AreKept : ℕ → List StoredField → List Value → List Value → Type 0
AreKept n fs vs ws = (k : ℕ) → k ≢ n → live_value (map (stored_after n) fs) ws (number_after n k) ≡ live_value fs vs k

-- what the bytes are then
record IsKept (n : ℕ) (fs : List StoredField) (bytes : List ℕ) (vs : List Value) : Type 0 where
  values : List Value
  stored : stored_in (map (stored_after n) fs) bytes ≡ Some values
  kept : AreKept n fs vs values

number-of : (n : ℕ) (f : StoredField) (k : ℕ) → k ≢ n → has_number (stored_after n f).live (number_after n k) ≡ has_number f.live k
number-of n f k other = ap (λ (live : Option ℕ). has_number live (number_after n k)) (with_number-live (live_after n f.live) f) ∙ number-kept n f.live k other

-- one field: its value is the same, or it is the dropped one
one_kept : (n : ℕ) (f : StoredField) (fs : List StoredField) (v w : Value) (vs ws : List Value) → ((k : ℕ) → k ≢ n → has_number f.live k ≡ true → w ≡ v) → AreKept n fs vs ws → AreKept n (f ∷ fs) (v ∷ vs) (w ∷ ws)
one_kept n f fs v w vs ws same later k other =
    ap (λ (b : Bool). if b then w else live_value (map (stored_after n) fs) ws (number_after n k)) (number-of n f k other)
    ∙ ap (λ (x : Value). if has_number f.live k then w else x) (later k other)
    ∙ by_test (has_number f.live k) refl
  where
    by_test : (b : Bool) → has_number f.live k ≡ b → (if b then w else live_value fs vs k) ≡ (if b then v else live_value fs vs k)
    by_test true is = same k other is
    by_test false is = refl

-- the initial value of another live field is kept
initial-of : (n : ℕ) (f : StoredField) (k : ℕ) → k ≢ n → has_number f.live k ≡ true → (stored_after n f).initial ≡ f.initial
initial-of n f k other has = by_live (live_after n f.live) (number-kept n f.live k other ∙ has)
  where
    by_live : (live : Option ℕ) → has_number live (number_after n k) ≡ true → (with_number live f).initial ≡ f.initial
    by_live None is = cc
    by_live (Some m) is = refl

initials-kept : (n : ℕ) (fs : List StoredField) → AreKept n fs (initials_of fs) (initials_of (map (stored_after n) fs))
initials-kept n [] k other = refl
initials-kept n (f ∷ fs) k other =
    one_kept n f fs f.initial (stored_after n f).initial (initials_of fs) (initials_of (map (stored_after n) fs)) (λ j differs has. initial-of n f j differs has) (initials-kept n fs) k other

none_some : (x : List Value) → None ≡ Some x → ⊥
none_some x h = cc

kept-first : (n : ℕ) (f : StoredField) (fs : List StoredField) (bytes rest : List ℕ) (v : Value) (o : Option (List Value)) (vs : List Value) → field_in f.kind bytes ≡ Some (v, rest) → ((ws : List Value) → o ≡ Some ws → IsKept n fs rest ws) → with_first v o ≡ Some vs → IsKept n (f ∷ fs) bytes vs
kept-first n f fs bytes rest v None vs is later e = cc
kept-first n f fs bytes rest v (Some us) vs is later e =
    let same : v ∷ us ≡ vs = cc in
    let more = later us refl in
    let kind : field_in (stored_after n f).kind bytes ≡ Some (v, rest) = ap (λ (kind : Option Kind). field_in kind bytes) (with_number-kind (live_after n f.live) f) ∙ is in
    subst (IsKept n (f ∷ fs) bytes) same (record {
      values = v ∷ more.values;
      stored = stored-read (stored_after n f) (map (stored_after n) fs) bytes v rest kind ∙ ap (with_first v) more.stored;
      kept = one_kept n f fs v v us more.values (λ j differs has. refl) more.kept;
    })

stored-kept : (n : ℕ) (fs : List StoredField) (bytes : List ℕ) (vs : List Value) → stored_in fs bytes ≡ Some vs → IsKept n fs bytes vs
unfolding stored_in
stored-kept n [] [] vs e = record { values = []; stored = refl; kept = λ k other. refl }
stored-kept n [] (b ∷ bytes) vs e = cc
stored-kept n (f ∷ fs) [] vs e =
    let same : initials_of (f ∷ fs) ≡ vs = cc in
    subst (IsKept n (f ∷ fs) []) same (record { values = initials_of (map (stored_after n) (f ∷ fs)); stored = stored-end (map (stored_after n) (f ∷ fs)); kept = initials-kept n (f ∷ fs) })
stored-kept n (f ∷ fs) (b ∷ bytes) vs e = by_found (λ rest ws now. stored-kept n fs rest ws now) (field_in f.kind (b ∷ bytes)) refl
  where
    by_found : ((rest : List ℕ) (ws : List Value) → stored_in fs rest ≡ Some ws → IsKept n fs rest ws) → (found : Option (Value × List ℕ)) → field_in f.kind (b ∷ bytes) ≡ found → IsKept n (f ∷ fs) (b ∷ bytes) vs
    by_found again None is = absurd (none_some vs (sym (stored-none f fs (b ∷ bytes) (omega arith) is) ∙ e))
    by_found again (Some (v, rest)) is = kept-first n f fs (b ∷ bytes) rest v (stored_in fs rest) vs is (λ ws now. again rest ws now) (sym (stored-read f fs (b ∷ bytes) v rest is) ∙ e)

-- the law: the row without the field
pub row-dropped : (n count : ℕ) (t : StoredTable) (bytes : List ℕ) (row : List Value) → n < suc count → row_in (suc count) t.stored bytes ≡ Some row → row_in count (without_field n t).stored bytes ≡ Some (without n row)
row-dropped n count t bytes row lt e = by_values (stored_in t.stored bytes) refl e
  where
    by_values : (o : Option (List Value)) → stored_in t.stored bytes ≡ o → option_map (live_row (suc count) t.stored) o ≡ Some row → row_in count (without_field n t).stored bytes ≡ Some (without n row)
    by_values None is e = absurd (none_some row e)
    by_values (Some vs) is e =
        let same : live_row (suc count) t.stored vs ≡ row = cc in
        let kept = stored-kept n t.stored bytes vs is in
        let whole = values_below (suc count) (live_value t.stored vs) in
        let long : length (without n whole) ≡ count = omega (arith, without-length n whole (omega (arith, lt, length-below (suc count) (live_value t.stored vs))), length-below (suc count) (live_value t.stored vs)) in
        let short : length (live_row count (map (stored_after n) t.stored) kept.values) ≡ count = length-below count (live_value (map (stored_after n) t.stored) kept.values) in
        ap (option_map (live_row count (map (stored_after n) t.stored))) kept.stored
        ∙ ap Some (same_lists (live_row count (map (stored_after n) t.stored) kept.values) (without n whole) (short ∙ sym long) (λ k d low.
        (let inside : k < count = omega (arith, low, short) in
        below-at count (live_value (map (stored_after n) t.stored) kept.values) k d inside
        ∙ ap (live_value (map (stored_after n) t.stored) kept.values) (sym (place-number n k))
        ∙ kept.kept (place n k) (place-other n k)
        ∙ sym (below-at (suc count) (live_value t.stored vs) (place n k) d (place-within n k count inside))
        ∙ sym (without-at n whole k d))))
        ∙ ap (λ (r : List Value). Some (without n r)) same
