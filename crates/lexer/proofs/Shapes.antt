-- Which byte each form begins with, and how names and digits begin a text.
use Rattle.std.proofs.Common.{ℕ, zero, suc, ◌<◌, ◌≤◌, ◌≡◌, Bool, true, false, ◌&&◌, ◌||◌, List, [], ◌∷◌, length, take, drop, sym, subst, arith, inl, inr}
use Rattle.std.specs.List.{prefix_len}
use Rattle.std.proofs.lemmas.Bool.Decides.{nat_tests}
use Rattle.lexer.specs.declared.form.Form.{Form}
use Rattle.lexer.specs.declared.form.Form.TheVariants.{Word, Qualified, Digits, Fractional, Dated, Quoted, Symbol}
use Rattle.lexer.specs.Bytes.{point, slash, is_letter, is_digit, is_name_byte, is_name_sign, is_quote, is_symbol_byte, starts_digit, starts_letter}
use Rattle.lexer.specs.Forms.{form, leading, parted, is_name, is_digits, is_dated, one_or_two, is_pair}
use Rattle.std.proofs.lemmas.Bool.{and_from, or_left, cases_Bool}
use Rattle.abl_base.proofs.Bools.{left_of_and, right_of_and}
use Rattle.lexer.proofs.Prefixes.{all_prefix, all_take, prefix_more, prefix_stops}

pub letter_no_digit : (b : ℕ) → is_letter b ≡ true → is_digit b ≡ false
letter_no_digit b e = grind (arith, nat_tests)

pub letter_no_quote : (b : ℕ) → is_letter b ≡ true → is_quote b ≡ false
letter_no_quote b e = grind (arith, nat_tests)

pub letter_no_symbol : (b : ℕ) → is_letter b ≡ true → is_symbol_byte b ≡ false
letter_no_symbol b e = grind (arith, nat_tests)

pub digit_no_quote : (b : ℕ) → is_digit b ≡ true → is_quote b ≡ false
digit_no_quote b e = grind (arith, nat_tests)

pub digit_no_symbol : (b : ℕ) → is_digit b ≡ true → is_symbol_byte b ≡ false
digit_no_symbol b e = grind (arith, nat_tests)

pub quote_no_symbol : (b : ℕ) → is_quote b ≡ true → is_symbol_byte b ≡ false
quote_no_symbol b e = grind (arith, nat_tests)

pub pair_symbol : (b c : ℕ) → is_pair b c ≡ true → is_symbol_byte b ≡ true
pair_symbol b c e = grind (arith, nat_tests)

-- the byte that a form begins with
abbrev pub can_start : Form → ℕ → Bool
can_start Word b = is_letter b
can_start Qualified b = is_letter b
can_start Digits b = is_digit b
can_start Fractional b = is_digit b
can_start Dated b = is_digit b
can_start Quoted b = is_quote b
can_start Symbol b = is_symbol_byte b

name_first : (n b : ℕ) (bs : List ℕ) → is_name (take n (b ∷ bs)) ≡ true → is_letter b ≡ true
name_first zero b bs e = let z : false ≡ true = e in cc
name_first (suc n) b bs e = left_of_and (is_letter b) _ e

digits_first : (n b : ℕ) (bs : List ℕ) → is_digits (take n (b ∷ bs)) ≡ true → is_digit b ≡ true
digits_first zero b bs e = let z : false ≡ true = e in cc
digits_first (suc n) b bs e = left_of_and (is_digit b) _ e

few_first : (b : ℕ) (bs : List ℕ) → one_or_two (leading is_digit (b ∷ bs)) ≡ true → is_digit b ≡ true
few_first b bs e = elim (cases_Bool (is_digit b)) [
  | inl t ↦ t
  | inr t ↦ (
      let q = prefix_stops is_digit b bs t in
      let z : one_or_two [] ≡ true = subst (λ n. one_or_two (take n (b ∷ bs)) ≡ true) q e in
      let y : false ≡ true = z in cc)
]

symbol_first : (b : ℕ) (bs a : List ℕ) → form Symbol (b ∷ bs) a ≡ true → is_symbol_byte b ≡ true
unfolding form
symbol_first b [] a e = left_of_and (is_symbol_byte b) _ e
symbol_first b (c ∷ []) a e = pair_symbol b c e
symbol_first b (c ∷ d ∷ bs) a e = let z : false ≡ true = e in cc

pub started : (f : Form) (b : ℕ) (bs a : List ℕ) → form f (b ∷ bs) a ≡ true → can_start f b ≡ true
unfolding form
started Word b bs a e = left_of_and (is_letter b) _ e
started Qualified b bs a e = name_first _ b bs (right_of_and (parted is_name_byte point (b ∷ bs)) _ (left_of_and (parted is_name_byte point (b ∷ bs) && is_name (leading is_name_byte (b ∷ bs))) _ e))
started Digits b bs a e = left_of_and (is_digit b) _ e
started Fractional b bs a e = digits_first _ b bs (right_of_and (parted is_digit point (b ∷ bs)) _ (left_of_and (parted is_digit point (b ∷ bs) && is_digits (leading is_digit (b ∷ bs))) _ e))
started Dated b bs a e = few_first b bs (right_of_and (parted is_digit slash (b ∷ bs)) _ (left_of_and (parted is_digit slash (b ∷ bs) && one_or_two (leading is_digit (b ∷ bs))) _ (left_of_and (is_dated (b ∷ bs)) _ e)))
started Quoted b bs a e = left_of_and (is_quote b) _ e
started Symbol b bs a e = symbol_first b bs a e

pub no_empty : (f : Form) (a : List ℕ) → form f [] a ≡ true → ⊥
unfolding form
no_empty Word a e = let z : false ≡ true = e in cc
no_empty Qualified a e = let z : false ≡ true = e in cc
no_empty Digits a e = let z : false ≡ true = e in cc
no_empty Fractional a e = let z : false ≡ true = e in cc
no_empty Dated a e = let z : false ≡ true = e in cc
no_empty Quoted a e = let z : false ≡ true = e in cc
no_empty Symbol a e = let z : false ≡ true = e in cc

pub first_byte : (f : Form) (m b : ℕ) (bs : List ℕ) → form f (take m (b ∷ bs)) (drop m (b ∷ bs)) ≡ true → can_start f b ≡ true
first_byte f zero b bs e = absurd (no_empty f (b ∷ bs) e)
first_byte f (suc m) b bs e = started f b (take m bs) (drop m bs) e

-- NAMES AND DIGITS AT THE START OF A TEXT
pub letter_byte : (b : ℕ) → is_letter b ≡ true → is_name_byte b ≡ true
letter_byte b e = or_left (is_letter b || is_digit b) (is_name_sign b) (or_left (is_letter b) (is_digit b) e)

pub record NameFront (ys : List ℕ) (j : ℕ) : Type 0 where
  pub some : 0 < j
  pub most : j ≤ prefix_len is_name_byte ys
  pub letter : starts_letter ys ≡ true

pub name_leading : (ys : List ℕ) (j : ℕ) → j ≤ length ys → is_name (take j ys) ≡ true → NameFront ys j
name_leading ys zero h e = let z : false ≡ true = e in cc
name_leading [] (suc j) h e = absurd (omega arith)
name_leading (b ∷ bs) (suc j) h e =
    let l = left_of_and (is_letter b) _ e in
    let i = all_take is_name_byte bs j (omega arith) (right_of_and (is_letter b) _ e) in
    let q = prefix_more is_name_byte b bs (letter_byte b l) in
    record { some = omega arith; most = omega arith; letter = l }

pub name_whole : (ys : List ℕ) → starts_letter ys ≡ true → (is_name (take (prefix_len is_name_byte ys) ys) ≡ true) × (0 < prefix_len is_name_byte ys)
name_whole [] e = let z : false ≡ true = e in cc
name_whole (b ∷ bs) e =
    let q = prefix_more is_name_byte b bs (letter_byte b e) in
    let r : prefix_len is_name_byte (b ∷ bs) ≡ suc (prefix_len is_name_byte bs) = omega arith in
    (subst (λ n. is_name (take n (b ∷ bs)) ≡ true) (sym r) (and_from (is_letter b) _ e (all_prefix is_name_byte bs)), omega arith)

pub record DigitsFront (ys : List ℕ) (j : ℕ) : Type 0 where
  pub some : 0 < j
  pub most : j ≤ prefix_len is_digit ys

pub digits_leading : (ys : List ℕ) (j : ℕ) → j ≤ length ys → is_digits (take j ys) ≡ true → DigitsFront ys j
digits_leading ys zero h e = let z : false ≡ true = e in cc
digits_leading [] (suc j) h e = absurd (omega arith)
digits_leading (b ∷ bs) (suc j) h e = record { some = omega arith; most = all_take is_digit (b ∷ bs) (suc j) h e }

pub digits_whole : (ys : List ℕ) → 0 < prefix_len is_digit ys → is_digits (take (prefix_len is_digit ys) ys) ≡ true
digits_whole [] h = absurd (omega arith)
digits_whole (b ∷ bs) h = elim (cases_Bool (is_digit b)) [
  | inl t ↦ (
      let q = prefix_more is_digit b bs t in
      let r : prefix_len is_digit (b ∷ bs) ≡ suc (prefix_len is_digit bs) = omega arith in
      subst (λ n. is_digits (take n (b ∷ bs)) ≡ true) (sym r) (and_from (is_digit b) _ t (all_prefix is_digit bs)))
  | inr t ↦ (let q = prefix_stops is_digit b bs t in absurd (omega arith))
]

pub digit_some : (ys : List ℕ) → starts_digit ys ≡ true → 0 < prefix_len is_digit ys
digit_some [] e = let z : false ≡ true = e in cc
digit_some (b ∷ bs) e = let q = prefix_more is_digit b bs e in omega arith
