-- A table without a field is stored as its other fields say.
use Rattle.std.proofs.Common.{◌≡◌, ◌≢◌, ⊎_elim, ℕ, zero, suc, ◌+◌, ◌-◌, ◌<◌, ◌≤◌, Bool, true, false, ◌==◌, List, [], ◌∷◌, ◌++◌, length, get_or, map, Option, Some, None, refl, sym, ap, ◌∙◌, subst, arith}
use Rattle.std.specs.Prelude.{All, IfSome, IsTrue, if◌then◌else◌, option_to_list}
use Rattle.std.specs.List.{range_with_len}
use Rattle.std.proofs.lemmas.Bool.{cases_Bool, cases_lt, eqb-true}
use Rattle.std.proofs.lemmas.Bool.Decides.{nat_tests}
use Rattle.std.proofs.lemmas.List.{length-map}
use Rattle.std.proofs.lemmas.List.Elements.{All-head, All-nil, All-tail}
use Rattle.abl_values.specs.declared.schema.FieldDef.{FieldDef}
use Rattle.abl_values.specs.Names.{is_name}
use Rattle.abl_values.specs.Schema.{no_field}
use Rattle.stored_fields.specs.declared.field.StoredField.{StoredField}
use Rattle.stored_schema.specs.Stored.{AreStoredAs, IsLiveAs, IsStoredAs, live_numbers}
use Rattle.stored_schema.proofs.Live.{IsFirst, numbered}
use Rattle.table_changes.specs.Changes.{live_after, number_after, stored_after, with_number, without}
use Rattle.table_changes.proofs.Numbers.{number-before, number-past, with_number-live, number-place, without-at, without-length}

first_of : (k a c : ℕ) (more : List ℕ) → k ∷ more ≡ range_with_len a c → IsFirst k a c more
first_of k a zero more h = cc
first_of k a (suc c) more h = record { rest = c; count = refl; first = cc; others = cc }

differs : (i j : ℕ) → j < i → (i == j) ≡ false
differs i j h = grind (arith, nat_tests)

not_same : (i j : ℕ) → (i == j) ≡ false → i ≡ j → ⊥
not_same i j h e = grind (arith, nat_tests)

above : (i j : ℕ) → i ≤ j → (i ≡ j → ⊥) → i + 1 ≤ j
above i j le other = ⊎_elim (λ (lt : i < j). omega (arith, lt)) (λ (ge : j ≤ i). absurd (other (let same : i ≡ j = omega (arith, le, ge) in same))) (cases_lt i j)

-- the numbers of one more stored field
one_more : (n : ℕ) (f : StoredField) (fs : List StoredField) (live : Option ℕ) → f.live ≡ live → live_numbers (map (stored_after n) (f ∷ fs)) ≡ option_to_list (live_after n live) ++ live_numbers (map (stored_after n) fs)
one_more n f fs live is = ap (λ (l : Option ℕ). option_to_list l ++ live_numbers (map (stored_after n) fs)) (with_number-live (live_after n f.live) f ∙ ap (live_after n) is)

kept_number : (n k : ℕ) → (k == n) ≡ false → live_after n (Some k) ≡ Some (number_after n k)
kept_number n k h = ap (λ (b : Bool). if b then None else Some (number_after n k)) h

gone_number : (n k : ℕ) → (k == n) ≡ true → live_after n (Some k) ≡ None
gone_number n k h = ap (λ (b : Bool). if b then None else Some (number_after n k)) h

numbers-past : (n a c : ℕ) (fs : List StoredField) → n < a → live_numbers fs ≡ range_with_len a c → live_numbers (map (stored_after n) fs) ≡ range_with_len (a - 1) c
numbers-past n a zero [] lt h = refl
numbers-past n a (suc c) [] lt h = cc
numbers-past n a c (f ∷ fs) lt h = by_live (λ a c low e. numbers-past n a c fs low e) f.live refl h
  where
    by_live : ((a c : ℕ) → n < a → live_numbers fs ≡ range_with_len a c → live_numbers (map (stored_after n) fs) ≡ range_with_len (a - 1) c) → (live : Option ℕ) → f.live ≡ live → option_to_list live ++ live_numbers fs ≡ range_with_len a c → live_numbers (map (stored_after n) (f ∷ fs)) ≡ range_with_len (a - 1) c
    by_live again None is h = one_more n f fs None is ∙ again a c lt h
    by_live again (Some k) is h =
        let first = first_of k a c (live_numbers fs) h in
        let test : (k == n) ≡ false = differs k n (omega (arith, lt, first.first)) in
        let number : number_after n k ≡ a - 1 = number-past n k (omega (arith, lt, first.first)) ∙ ap (λ (m : ℕ). m - 1) first.first in
        let step : a + 1 - 1 ≡ a - 1 + 1 = omega (arith, lt) in
        one_more n f fs (Some k) is ∙ ap (λ (l : Option ℕ). option_to_list l ++ live_numbers (map (stored_after n) fs)) (kept_number n k test)
        ∙ ap (λ (m : ℕ). m ∷ live_numbers (map (stored_after n) fs)) number
        ∙ ap (λ (ms : List ℕ). (a - 1) ∷ ms) (again (a + 1) first.rest (omega (arith, lt)) first.others ∙ ap (λ (m : ℕ). range_with_len m first.rest) step)
        ∙ ap (range_with_len (a - 1)) (sym first.count)

numbers-kept : (n a c : ℕ) (fs : List StoredField) → a ≤ n → n < a + c → live_numbers fs ≡ range_with_len a c → live_numbers (map (stored_after n) fs) ≡ range_with_len a (c - 1)
numbers-kept n a zero fs le lt h = absurd (omega (arith, le, lt))
numbers-kept n a (suc c) [] le lt h = cc
numbers-kept n a (suc c) (f ∷ fs) le lt h = by_live (λ a c low high e. numbers-kept n a c fs low high e) f.live refl h
  where
    by_live : ((a c : ℕ) → a ≤ n → n < a + c → live_numbers fs ≡ range_with_len a c → live_numbers (map (stored_after n) fs) ≡ range_with_len a (c - 1)) → (live : Option ℕ) → f.live ≡ live → option_to_list live ++ live_numbers fs ≡ range_with_len a (suc c) → live_numbers (map (stored_after n) (f ∷ fs)) ≡ range_with_len a (suc c - 1)
    by_live again None is h = one_more n f fs None is ∙ again a (suc c) le lt h
    by_live again (Some k) is h =
        ⊎_elim (λ (here : (k == n) ≡ true). gone (first_of k a (suc c) (live_numbers fs) h) here) (λ (other : (k == n) ≡ false). stays (first_of k a (suc c) (live_numbers fs) h) other) (cases_Bool (k == n))
      where
        gone : IsFirst k a (suc c) (live_numbers fs) → (k == n) ≡ true → live_numbers (map (stored_after n) (f ∷ fs)) ≡ range_with_len a (suc c - 1)
        gone first here =
            let same : k ≡ n = eqb-true k n here in
            let count : first.rest ≡ suc c - 1 = omega (arith, first.count) in
            let start : a + 1 - 1 ≡ a = omega arith in
            one_more n f fs (Some k) is ∙ ap (λ (l : Option ℕ). option_to_list l ++ live_numbers (map (stored_after n) fs)) (gone_number n k here)
            ∙ numbers-past n (a + 1) first.rest fs (omega (arith, same, first.first)) first.others
            ∙ ap (λ (m : ℕ). range_with_len m first.rest) start ∙ ap (range_with_len a) count

        stays : IsFirst k a (suc c) (live_numbers fs) → (k == n) ≡ false → live_numbers (map (stored_after n) (f ∷ fs)) ≡ range_with_len a (suc c - 1)
        stays first other =
            let apart : k ≢ n = λ e. not_same k n other e in
            let low : a + 1 ≤ n = above a n le (λ e. apart (first.first ∙ e)) in
            let number : number_after n k ≡ a = number-before n k (omega (arith, le, first.first)) ∙ first.first in
            let count : suc (first.rest - 1) ≡ suc c - 1 = omega (arith, first.count, lt, low) in
            one_more n f fs (Some k) is ∙ ap (λ (l : Option ℕ). option_to_list l ++ live_numbers (map (stored_after n) fs)) (kept_number n k other)
            ∙ ap (λ (m : ℕ). m ∷ live_numbers (map (stored_after n) fs)) number
            ∙ ap (λ (ms : List ℕ). a ∷ ms) (again (a + 1) first.rest low (omega (arith, first.count, lt)) first.others)
            ∙ ap (range_with_len a) count

-- ---- the stored fields

module _ (n : ℕ) (fields : List FieldDef) (names : All (λ (f : FieldDef). IsTrue (is_name f.name)) fields) where
  same_field_there : (k : ℕ) → k ≢ n → get_or (without n fields) (number_after n k) no_field ≡ get_or fields k no_field
  same_field_there k other = without-at n fields (number_after n k) no_field ∙ ap (λ (i : ℕ). get_or fields i no_field) (number-place n k other)

  kept_at : (x : StoredField) (k : ℕ) (b : Bool) → (k == n) ≡ b → k < length fields → IsLiveAs (get_or fields k no_field) x → IsStoredAs (without n fields) (if b then None else Some (number_after n k)) (with_number (if b then None else Some (number_after n k)) x)
  kept_at x k true test lt is = record { name = subst (λ (name : List ℕ). IsTrue (is_name name)) (sym is.name) (names k no_field lt); initial = refl }
  kept_at x k false test lt is =
      subst (λ (f : FieldDef). IsLiveAs f (with_number (Some (number_after n k)) x)) (sym (same_field_there k (λ e. not_same k n test e))) (record { name = is.name; kind = is.kind; initial = is.initial })

  kept_one : (x : StoredField) (live : Option ℕ) → IfSome live (λ k. k < 0 + length fields) → IsStoredAs fields live x → IsStoredAs (without n fields) (live_after n live) (with_number (live_after n live) x)
  kept_one x None lt is = record { name = is.name; initial = refl }
  kept_one x (Some k) lt is = kept_at x k (k == n) refl (omega (arith, lt)) is

  abbrev IsPlace : StoredField → Type 0
  IsPlace x = IsStoredAs (without n fields) x.live x

  each-kept : (fs : List StoredField) → All (λ (x : StoredField). IsPlace (stored_after n x)) fs → All IsPlace (map (stored_after n) fs)
  each-kept [] h = All-nil IsPlace
  each-kept (f ∷ fs) h = cons (All-head (λ (x : StoredField). IsPlace (stored_after n x)) f fs h) (each-kept fs (All-tail (λ (x : StoredField). IsPlace (stored_after n x)) f fs h))
    where
      cons : IsPlace (stored_after n f) → All IsPlace (map (stored_after n) fs) → All IsPlace (map (stored_after n) (f ∷ fs))
      cons one more zero d lt = one
      cons one more (suc k) d lt = more k d (omega (arith, lt))

  -- the law
  pub stored-without-field : (stored : List StoredField) → n < length fields → AreStoredAs fields stored → AreStoredAs (without n fields) (map (stored_after n) stored)
  stored-without-field stored lt is =
      let numbers = numbered 0 (length fields) stored is.numbers in
      let fewer : length fields - 1 ≡ length (without n fields) = omega (arith, without-length n fields lt) in
      record {
        few = omega (arith, is.few, length-map stored (stored_after n));
        numbers = numbers-kept n 0 (length fields) stored (omega arith) (omega (arith, lt)) is.numbers ∙ ap (range_with_len 0) fewer;
        each = each-kept stored (λ k d low.
            subst (λ (live : Option ℕ). IsStoredAs (without n fields) live (stored_after n (get_or stored k d))) (sym (with_number-live (live_after n (get_or stored k d).live) (get_or stored k d)))
            (kept_one (get_or stored k d) (get_or stored k d).live (numbers.within k d low) (is.each k d low)));
      }
