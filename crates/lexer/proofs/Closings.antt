-- Where a text between quotes ends, and the longest form at a quote.
use Rattle.std.proofs.Common.{ℕ, zero, suc, ◌+◌, ◌<◌, ◌≤◌, ◌≡◌, Bool, true, false, List, [], ◌∷◌, length, take, drop, get_or, Option, Some, None, refl, sym, ◌∙◌, ap, subst, arith, add-one, inl, inr}
use Rattle.std.specs.Prelude.{◌==◌, slice_index}
use Rattle.std.proofs.Math.Seq.{drop-cons}
use Rattle.std.proofs.lemmas.List.{drop-drop}
use Rattle.std.proofs.Math.ListN.{drop_of_length-le}
use Rattle.lexer.specs.declared.form.Form.{Form}
use Rattle.lexer.specs.declared.form.Form.TheVariants.{Word, Qualified, Digits, Fractional, Dated, Quoted, Symbol}
use Rattle.lexer.specs.Bytes.{tilde, is_quote, is_symbol_byte, starts, starts_quote}
use Rattle.lexer.specs.Forms.{form, closing, closes, is_at, plus, Longest, NoForm}
use Rattle.std.proofs.lemmas.Bool.{cond-true, cond-false, and_from, both_ways, not-true, not_from_false, cases_Bool, eq-eqb, eqb-true}
use Rattle.abl_base.proofs.Bools.{left_of_and, right_of_and}
use Rattle.lexer.proofs.Comments.{plus_plus, plus_none}
use Rattle.lexer.proofs.Prefixes.{length_take}
use Rattle.lexer.proofs.Shapes.{letter_no_quote, digit_no_quote, quote_no_symbol, first_byte, no_empty}

-- ONE STEP
pub closing_nil : (q : ℕ) (p : Bool) → closing q p [] ≡ None
unfolding closing
closing_nil q true = refl
closing_nil q false = refl

pub step_passed : (q b : ℕ) (bs : List ℕ) → closing q true (b ∷ bs) ≡ plus 1 (closing q false bs)
unfolding closing
step_passed q b bs = refl

pub step_tilde : (q b : ℕ) (bs : List ℕ) → (b == tilde) ≡ true → closing q false (b ∷ bs) ≡ plus 1 (closing q true bs)
unfolding closing
step_tilde q b bs e = cond-true (b == tilde) _ _ e

pub step_plain : (q b : ℕ) (bs : List ℕ) → (b == tilde) ≡ false → (b == q) ≡ false → closing q false (b ∷ bs) ≡ plus 1 (closing q false bs)
unfolding closing
step_plain q b bs e f = cond-false (b == tilde) _ _ e ∙ cond-false (b == q) _ _ f

pub step_doubled : (q b : ℕ) (bs : List ℕ) → (b == tilde) ≡ false → (b == q) ≡ true → starts q bs ≡ true → closing q false (b ∷ bs) ≡ plus 1 (closing q true bs)
unfolding closing
step_doubled q b bs e f s = cond-false (b == tilde) _ _ e ∙ cond-true (b == q) _ _ f ∙ cond-true (starts q bs) _ _ s

pub step_last : (q b : ℕ) (bs : List ℕ) → (b == tilde) ≡ false → (b == q) ≡ true → starts q bs ≡ false → closing q false (b ∷ bs) ≡ Some 1
unfolding closing
step_last q b bs e f s = cond-false (b == tilde) _ _ e ∙ cond-true (b == q) _ _ f ∙ cond-false (starts q bs) _ _ s

plus_some : (a : ℕ) (o : Option ℕ) (m : ℕ) → plus a o ≡ Some m → (k : ℕ) × (o ≡ Some k) × (m ≡ a + k)
plus_some a None m e = cc
plus_some a (Some k) m e = let q : a + k ≡ m = cc in (k, refl, sym q)

-- THE WORD AND THE TEXT
-- the m bytes at the start end as a text does, and the own quote does not follow
pub record Closes (q : ℕ) (p : Bool) (xs : List ℕ) (m : ℕ) : Type 0 where
  pub within : m ≤ length xs
  pub is : closing q p (take m xs) ≡ Some m
  pub apart : starts q (drop m xs) ≡ false

one_more : (q : ℕ) (p r : Bool) (b : ℕ) (bs : List ℕ) (m k : ℕ) → ((ys : List ℕ) → closing q p (b ∷ ys) ≡ plus 1 (closing q r ys)) → m ≡ 1 + k → Closes q r bs k → Closes q p (b ∷ bs) m
one_more q p r b bs m k step e c =
    let s : suc k ≡ m = omega arith in
    let w = c.within in
    subst (λ n. Closes q p (b ∷ bs) n) s record {
      within = omega arith;
      is = step (take k bs) ∙ ap (plus 1) c.is ∙ (let t : 1 + k ≡ suc k = omega arith in ap (λ n. Some n) t);
      apart = c.apart;
    }

starts_leading : (q k : ℕ) (bs : List ℕ) → 0 < k → starts q bs ≡ true → starts q (take k bs) ≡ true
starts_leading q zero bs h s = absurd (omega arith)
starts_leading q (suc k) [] h s = s
starts_leading q (suc k) (b ∷ bs) h s = s

none_some : (k : ℕ) → None ≡ Some k → ⊥
none_some k e = cc

some_inside : (q : ℕ) (p : Bool) (k : ℕ) (bs : List ℕ) → closing q p (take k bs) ≡ Some k → 0 < k
some_inside q p zero bs e = absurd (none_some 0 (sym (closing_nil q p) ∙ e))
some_inside q p (suc k) bs e = omega arith

doubled : (q b : ℕ) (bs : List ℕ) (m k : ℕ) → (b == tilde) ≡ false → (b == q) ≡ true → starts q bs ≡ true → m ≡ 1 + k → Closes q true bs k → Closes q false (b ∷ bs) m
doubled q b bs m k t u v e c =
    let s : suc k ≡ m = omega arith in
    let w = c.within in
    subst (λ n. Closes q false (b ∷ bs) n) s record {
      within = omega arith;
      is = step_doubled q b (take k bs) t u (starts_leading q k bs (some_inside q true k bs c.is) v) ∙ ap (plus 1) c.is ∙ (let t : 1 + k ≡ suc k = omega arith in ap (λ n. Some n) t);
      apart = c.apart;
    }

pub closes_at : (q : ℕ) (p : Bool) (xs : List ℕ) (m : ℕ) → closing q p xs ≡ Some m → Closes q p xs m
closes_at q p [] m e = let z : None ≡ Some m = sym (closing_nil q p) ∙ e in cc
closes_at q true (b ∷ bs) m e =
    let s = plus_some 1 (closing q false bs) m (sym (step_passed q b bs) ∙ e) in
    one_more q true false b bs m s.0 (step_passed q b) s.2 (closes_at q false bs s.0 s.1)
closes_at q false (b ∷ bs) m e = elim (cases_Bool (b == tilde)) [
  | inl t ↦ (
      let s = plus_some 1 (closing q true bs) m (sym (step_tilde q b bs t) ∙ e) in
      one_more q false true b bs m s.0 (λ ys. step_tilde q b ys t) s.2 (closes_at q true bs s.0 s.1))
  | inr t ↦ elim (cases_Bool (b == q)) [
    | inr u ↦ (
        let s = plus_some 1 (closing q false bs) m (sym (step_plain q b bs t u) ∙ e) in
        one_more q false false b bs m s.0 (λ ys. step_plain q b ys t u) s.2 (closes_at q false bs s.0 s.1))
    | inl u ↦ elim (cases_Bool (starts q bs)) [
      | inl v ↦ (
          let s = plus_some 1 (closing q true bs) m (sym (step_doubled q b bs t u v) ∙ e) in
          doubled q b bs m s.0 t u v s.2 (closes_at q true bs s.0 s.1))
      | inr v ↦ (
          let s : Some 1 ≡ Some m = sym (step_last q b bs t u v) ∙ e in
          let i : 1 ≡ m = cc in
          subst (λ n. Closes q false (b ∷ bs) n) i record { within = omega arith; is = step_last q b [] t u refl; apart = v })
    ]
  ]
]

-- what a step says of the text, it says of the word
back : (q : ℕ) (p r : Bool) (b : ℕ) (bs : List ℕ) (m : ℕ) → ((ys : List ℕ) → closing q p (b ∷ ys) ≡ plus 1 (closing q r ys)) → closing q p (b ∷ take m bs) ≡ Some (suc m) → closing q r (take m bs) ≡ Some m
back q p r b bs m step e =
    let s = plus_some 1 (closing q r (take m bs)) (suc m) (sym (step (take m bs)) ∙ e) in
    let i : s.0 ≡ m = (let z = s.2 in omega arith) in
    s.1 ∙ ap (λ n. Some n) i

on : (q : ℕ) (p r : Bool) (b : ℕ) (bs : List ℕ) (m : ℕ) → closing q p (b ∷ bs) ≡ plus 1 (closing q r bs) → closing q r bs ≡ Some m → closing q p (b ∷ bs) ≡ Some (suc m)
on q p r b bs m step e = step ∙ ap (plus 1) e ∙ (let t : 1 + m ≡ suc m = omega arith in ap (λ n. Some n) t)

take_starts : (q m : ℕ) (bs : List ℕ) → starts q (take m bs) ≡ true → starts q bs ≡ true
take_starts q zero bs s = let z : false ≡ true = s in cc
take_starts q (suc m) [] s = s
take_starts q (suc m) (b ∷ bs) s = s

-- where the quote does not start the leading bytes, it starts the text only if these are empty
not_starts : (q m : ℕ) (bs : List ℕ) → starts q (take m bs) ≡ false → starts q (drop m bs) ≡ false → Some 1 ≡ Some (suc m) → starts q bs ≡ false
not_starts q zero bs s a e = a
not_starts q (suc m) bs s a e = let z : 1 ≡ suc (suc m) = cc in absurd (omega arith)

-- only there does the text end
pub closes_only : (q : ℕ) (p : Bool) (xs : List ℕ) (m : ℕ) → Closes q p xs m → closing q p xs ≡ Some m
closes_only q p xs zero c = absurd (none_some 0 (sym (closing_nil q p) ∙ c.is))
closes_only q p [] (suc m) c = absurd (let w = c.within in omega arith)
closes_only q true (b ∷ bs) (suc m) c =
    let w = c.within in
    let i = back q true false b bs m (step_passed q b) c.is in
    on q true false b bs m (step_passed q b bs) (closes_only q false bs m record { within = omega arith; is = i; apart = c.apart })
closes_only q false (b ∷ bs) (suc m) c =
    let w = c.within in
    elim (cases_Bool (b == tilde)) [
      | inl t ↦ (
          let i = back q false true b bs m (λ ys. step_tilde q b ys t) c.is in
          on q false true b bs m (step_tilde q b bs t) (closes_only q true bs m record { within = omega arith; is = i; apart = c.apart }))
      | inr t ↦ elim (cases_Bool (b == q)) [
        | inr u ↦ (
            let i = back q false false b bs m (λ ys. step_plain q b ys t u) c.is in
            on q false false b bs m (step_plain q b bs t u) (closes_only q false bs m record { within = omega arith; is = i; apart = c.apart }))
        | inl u ↦ elim (cases_Bool (starts q (take m bs))) [
          | inl v ↦ (
              let s = plus_some 1 (closing q true (take m bs)) (suc m) (sym (step_doubled q b (take m bs) t u v) ∙ c.is) in
              let i : s.0 ≡ m = (let z = s.2 in omega arith) in
              let d : closing q true (take m bs) ≡ Some m = s.1 ∙ ap (λ n. Some n) i in
              on q false true b bs m (step_doubled q b bs t u (take_starts q m bs v)) (closes_only q true bs m record { within = omega arith; is = d; apart = c.apart }))
          | inr v ↦ (
              let s : Some 1 ≡ Some (suc m) = sym (step_last q b (take m bs) t u v) ∙ c.is in
              step_last q b bs t u (not_starts q m bs v c.apart s) ∙ s)
        ]
      ]
    ]

-- THE FORM
at_is : (o : Option ℕ) (n : ℕ) → is_at o n ≡ true → o ≡ Some n
at_is None n e = let z : false ≡ true = e in cc
at_is (Some m) n e = ap (λ k. Some k) (eqb-true m n e)

is_at_made : (o : Option ℕ) (n : ℕ) → o ≡ Some n → is_at o n ≡ true
is_at_made o n e = ap (λ v. is_at v n) e ∙ eq-eqb n n refl

quoted_form : (b : ℕ) (bs : List ℕ) (m : ℕ) → m ≤ length bs → form Quoted (b ∷ take m bs) (drop m bs) ≡ true → Closes b false bs m
unfolding form
quoted_form b bs m h e =
    let r = right_of_and (is_quote b) _ e in
    let c = at_is (closing b false (take m bs)) (length (take m bs)) (left_of_and (closes b (take m bs)) _ r) in
    record {
      within = h;
      is = c ∙ ap (λ n. Some n) (length_take m bs h);
      apart = not-true _ (right_of_and (closes b (take m bs)) _ r);
    }

quoted_made : (b : ℕ) (bs : List ℕ) (m : ℕ) → is_quote b ≡ true → Closes b false bs m → form Quoted (b ∷ take m bs) (drop m bs) ≡ true
unfolding form
quoted_made b bs m q c =
    and_from (is_quote b) _ q (and_from (closes b (take m bs)) _ (is_at_made (closing b false (take m bs)) (length (take m bs)) (c.is ∙ ap (λ n. Some n) (sym (length_take m bs c.within)))) (not_from_false _ c.apart))

-- every form at a quote is the one text
quoted_here : (g : Form) (m b : ℕ) (bs : List ℕ) → is_quote b ≡ true → m ≤ length (b ∷ bs) → form g (take m (b ∷ bs)) (drop m (b ∷ bs)) ≡ true → (k : ℕ) × (m ≡ suc k) × (closing b false bs ≡ Some k)
quoted_here g zero b bs q h e = absurd (no_empty g (b ∷ bs) e)
quoted_here Word (suc m) b bs q h e = absurd (both_ways (is_quote b) (letter_no_quote b (first_byte Word (suc m) b bs e)) q)
quoted_here Qualified (suc m) b bs q h e = absurd (both_ways (is_quote b) (letter_no_quote b (first_byte Qualified (suc m) b bs e)) q)
quoted_here Digits (suc m) b bs q h e = absurd (both_ways (is_quote b) (digit_no_quote b (first_byte Digits (suc m) b bs e)) q)
quoted_here Fractional (suc m) b bs q h e = absurd (both_ways (is_quote b) (digit_no_quote b (first_byte Fractional (suc m) b bs e)) q)
quoted_here Dated (suc m) b bs q h e = absurd (both_ways (is_quote b) (digit_no_quote b (first_byte Dated (suc m) b bs e)) q)
quoted_here Quoted (suc m) b bs q h e = (m, refl, closes_only b false bs m (quoted_form b bs m (omega arith) e))
quoted_here Symbol (suc m) b bs q h e = absurd (both_ways (is_symbol_byte b) (quote_no_symbol b q) (first_byte Symbol (suc m) b bs e))

quoted_at : (b : ℕ) (bs : List ℕ) (k : ℕ) → is_quote b ≡ true → closing b false bs ≡ Some k → Longest Quoted (suc k) (b ∷ bs)
quoted_at b bs k q e =
    let c = closes_at b false bs k e in
    let w = c.within in
    record {
      some = omega arith;
      within = omega arith;
      matches = quoted_made b bs k q c;
      longest = λ g m h l f.
          let t = quoted_here g m b bs q l f in
          let z : Some t.0 ≡ Some k = sym t.2 ∙ e in
          let i : t.0 ≡ k = cc in
          let r = t.1 in
          omega arith;
    }

open_at : (b : ℕ) (bs : List ℕ) → is_quote b ≡ true → closing b false bs ≡ None → NoForm (b ∷ bs)
open_at b bs q e g m l f =
    let t = quoted_here g m b bs q l f in
    let z : Some t.0 ≡ None = sym t.2 ∙ e in
    cc

-- AS THE CODE FINDS THEM
pub quoted_longest : (xs rest : List ℕ) (k : ℕ) → 0 < length xs → rest ≡ drop 1 xs → is_quote (slice_index xs 0) ≡ true → Some k ≡ closing (slice_index xs 0) false rest → Longest Quoted (k + 1) xs
quoted_longest [] rest k h e q c = absurd (omega arith)
quoted_longest (b ∷ bs) rest k h e q c =
    let i : suc k ≡ k + 1 = omega arith in
    subst (λ n. Longest Quoted n (b ∷ bs)) i (quoted_at b bs k q (ap (closing b false) (sym e) ∙ sym c))

pub quoted_open : (xs rest : List ℕ) → 0 < length xs → rest ≡ drop 1 xs → is_quote (slice_index xs 0) ≡ true → None ≡ closing (slice_index xs 0) false rest → (starts_quote xs ≡ true) × NoForm xs
quoted_open [] rest h e q c = absurd (omega arith)
quoted_open (b ∷ bs) rest h e q c = (q, open_at b bs q (ap (closing b false) (sym e) ∙ sym c))

-- THE LOOP
pub record ClosingSofar (q : ℕ) (xs : List ℕ) (i : ℕ) : Type 0 where
  pub is : closing q false xs ≡ plus i (closing q false (drop i xs))

parts : (xs : List ℕ) (i : ℕ) → i < length xs → drop i xs ≡ get_or xs i 0 ∷ drop (i + 1) xs
parts xs i h = rw (add-one, drop-cons xs i 0)

drop_one : (i : ℕ) (xs : List ℕ) → drop 1 (drop i xs) ≡ drop (i + 1) xs
drop_one i xs = drop-drop 1 i xs

passed_over : (q : ℕ) (ys : List ℕ) → closing q true ys ≡ plus 1 (closing q false (drop 1 ys))
passed_over q [] = closing_nil q true ∙ sym (ap (plus 1) (closing_nil q false))
passed_over q (y ∷ ys) = step_passed q y ys

two_on : (q i : ℕ) (xs : List ℕ) → plus 1 (closing q true (drop (i + 1) xs)) ≡ plus 2 (closing q false (drop (i + 2) xs))
two_on q i xs =
    ap (plus 1) (passed_over q (drop (i + 1) xs)) ∙ plus_plus 1 1 (closing q false (drop 1 (drop (i + 1) xs)))
    ∙ ap (λ ys. plus 2 (closing q false ys)) (drop_one (i + 1) xs ∙ (let e : i + 1 + 1 ≡ i + 2 = omega arith in ap (λ n. drop n xs) e))

pub at_tilde : (q : ℕ) (xs : List ℕ) (i : ℕ) → ClosingSofar q xs i → i < length xs → get_or xs i 0 ≡ tilde → ClosingSofar q xs (i + 2)
at_tilde q xs i s h e = record {
  is = s.is ∙ ap (λ ys. plus i (closing q false ys)) (parts xs i h) ∙ ap (plus i) (step_tilde q (get_or xs i 0) (drop (i + 1) xs) (eq-eqb _ _ e) ∙ two_on q i xs) ∙ plus_plus i 2 _;
}

pub at_plain : (q : ℕ) (xs : List ℕ) (i : ℕ) → ClosingSofar q xs i → i < length xs → (get_or xs i 0 == tilde) ≡ false → (get_or xs i 0 == q) ≡ false → ClosingSofar q xs (i + 1)
at_plain q xs i s h e f = record {
  is = s.is ∙ ap (λ ys. plus i (closing q false ys)) (parts xs i h) ∙ ap (plus i) (step_plain q (get_or xs i 0) (drop (i + 1) xs) e f) ∙ plus_plus i 1 _;
}

pub at_doubled : (q : ℕ) (xs : List ℕ) (i : ℕ) → ClosingSofar q xs i → i < length xs → (get_or xs i 0 == tilde) ≡ false → (get_or xs i 0 == q) ≡ true → starts q (drop (i + 1) xs) ≡ true → ClosingSofar q xs (i + 2)
at_doubled q xs i s h e f d = record {
  is = s.is ∙ ap (λ ys. plus i (closing q false ys)) (parts xs i h) ∙ ap (plus i) (step_doubled q (get_or xs i 0) (drop (i + 1) xs) e f d ∙ two_on q i xs) ∙ plus_plus i 2 _;
}

pub at_last : (q : ℕ) (xs : List ℕ) (i : ℕ) → ClosingSofar q xs i → i < length xs → (get_or xs i 0 == tilde) ≡ false → (get_or xs i 0 == q) ≡ true → starts q (drop (i + 1) xs) ≡ false → Some (i + 1) ≡ closing q false xs
at_last q xs i s h e f d = sym (s.is ∙ ap (λ ys. plus i (closing q false ys)) (parts xs i h) ∙ ap (plus i) (step_last q (get_or xs i 0) (drop (i + 1) xs) e f d))

pub at_end : (q : ℕ) (xs : List ℕ) (i : ℕ) → ClosingSofar q xs i → length xs ≤ i → None ≡ closing q false xs
at_end q xs i s h = sym (s.is ∙ plus_none i _ (ap (closing q false) (drop_of_length-le xs h) ∙ closing_nil q false))

plus_zero : (o : Option ℕ) → plus 0 o ≡ o
plus_zero None = refl
plus_zero (Some n) = let e : 0 + n ≡ n = omega arith in ap (λ k. Some k) e

pub at_start : (q : ℕ) (xs : List ℕ) → ClosingSofar q xs 0
at_start q xs = record { is = sym (plus_zero (closing q false xs)) }
