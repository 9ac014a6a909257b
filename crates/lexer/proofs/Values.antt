-- The numbers that digits spell.
use Rattle.std.proofs.Common.{ℕ, zero, suc, ◌+◌, ◌-◌, ◌*◌, ◌^◌, ◌<◌, ◌≤◌, ◌≡◌, inl, inr, true, ◌&&◌, ◌||◌, List, [], ◌∷◌, ◌++◌, length, take, drop, get_or, refl, sym, ◌∙◌, ap, arith, add-one}
use Rattle.std.specs.Prelude.{◌==◌}
use Rattle.std.specs.List.{list_all, prefix_len}
use Rattle.std.proofs.Math.Seq.{take-suc}
use Rattle.std.proofs.Math.Nat.{pow-suc, pow-le-pow_right}
use Rattle.std.proofs.lemmas.List.Sums.{fold-append}
use Rattle.std.proofs.lemmas.List.Folds.{list_all_at}
use Rattle.std.proofs.lemmas.Bool.Decides.{nat_tests}
use Rattle.parse_tree.specs.declared.token.CivilDate.{CivilDate}
use Rattle.lexer.specs.Bytes.{is_digit, slash}
use Rattle.lexer.specs.Forms.{leading, after_separator, parted, is_dated, is_digits, one_or_two}
use Rattle.lexer.specs.Meanings.{number_of, date_of, year_of}
use Rattle.std.proofs.lemmas.Bool.{cases_Bool, both_ways}
use Rattle.abl_base.proofs.Bools.{left_of_and, right_of_and}
use Rattle.lexer.proofs.Prefixes.{all_prefix, leading_length, starts_inside}

-- a digit is between 48 and 57
pub record IsDigit (b : ℕ) : Type 0 where
  pub low : 48 ≤ b
  pub high : b ≤ 57

low : (b : ℕ) → is_digit b ≡ true → 48 ≤ b
low b e = grind (arith, nat_tests)

high : (b : ℕ) → is_digit b ≡ true → b ≤ 57
high b e = grind (arith, nat_tests)

digit_range : (b : ℕ) → is_digit b ≡ true → IsDigit b
digit_range b e = record { low = low b e; high = high b e }

pub digit_at : (xs : List ℕ) (i : ℕ) → list_all is_digit xs ≡ true → i < length xs → IsDigit (get_or xs i 0)
digit_at xs i e h = elim (cases_Bool (is_digit (get_or xs i 0))) [
  | inl t ↦ digit_range (get_or xs i 0) t
  | inr t ↦ absurd (both_ways (list_all is_digit xs) (list_all_at is_digit xs i 0 h t) e)
]

pub one_digit_more : (xs : List ℕ) (i : ℕ) → i < length xs → number_of (take (i + 1) xs) ≡ number_of (take i xs) * 10 + (get_or xs i 0 - 48)
one_digit_more xs i h =
    let e : take (i + 1) xs ≡ take i xs ++ (get_or xs i 0 ∷ []) = rw (add-one, take-suc xs i 0) in
    ap number_of e ∙ fold-append (λ n b. n * 10 + (b - 48)) 0 (take i xs) (get_or xs i 0 ∷ [])

pub take_all : (xs : List ℕ) (i : ℕ) → length xs ≤ i → take i xs ≡ xs
take_all [] zero h = refl
take_all [] (suc i) h = refl
take_all (x ∷ xs) zero h = absurd (omega arith)
take_all (x ∷ xs) (suc i) h = ap (λ l. x ∷ l) (take_all xs i (omega arith))

pub ten_more : (i : ℕ) → 10 ^ (i + 1) ≡ 10 ^ i * 10
ten_more i = (let e : i + 1 ≡ suc i = omega arith in ap (λ k. 10 ^ k) e) ∙ pow-suc 10 i

pub ten_most : (i k : ℕ) → i ≤ k → 10 ^ i ≤ 10 ^ k
ten_most i k h = pow-le-pow_right {n = 10} (omega arith) h

-- the number so far
pub record NumberSofar (xs : List ℕ) (i n : ℕ) : Type 0 where
  pub is : n ≡ number_of (take i xs)
  pub below : n < 10 ^ i

pub number_room : (xs : List ℕ) (i n : ℕ) → NumberSofar xs i n → i < length xs → length xs ≤ 18 → n < 10 ^ 17
number_room xs i n s h l = let m = ten_most i 17 (omega arith) in let c = s.below in omega arith

pub number_next : (xs : List ℕ) (i n : ℕ) → NumberSofar xs i n → i < length xs → list_all is_digit xs ≡ true → NumberSofar xs (i + 1) (n * 10 + (get_or xs i 0 - 48))
number_next xs i n s h e =
    let d = digit_at xs i e h in
    let top = d.high in
    let b = s.below in
    record {
      is = ap (λ k. k * 10 + (get_or xs i 0 - 48)) s.is ∙ sym (one_digit_more xs i h);
      below = (let t = ten_more i in omega arith);
    }

pub number_start : (xs : List ℕ) → NumberSofar xs 0 0
number_start xs = record { is = refl; below = omega arith }

pub number_value : (xs : List ℕ) (i n : ℕ) → NumberSofar xs i n → length xs ≤ i → n ≡ number_of xs
number_value xs i n s h = s.is ∙ ap number_of (take_all xs i h)

pub number_bound : (xs : List ℕ) (i n : ℕ) → NumberSofar xs i n → i ≤ length xs → n < 10 ^ length xs
number_bound xs i n s h = let m = ten_most i (length xs) h in let b = s.below in omega arith

-- PARTS OF A WORD
pub leading_part : (w part : List ℕ) (n : ℕ) → n ≡ prefix_len is_digit w → part ≡ take (n - 0) w → part ≡ leading is_digit w
leading_part w part n e h = h ∙ (let q : n - 0 ≡ prefix_len is_digit w = omega arith in ap (λ k. take k w) q)

pub leading_all : (w part : List ℕ) (n : ℕ) → n ≡ prefix_len is_digit w → part ≡ take (n - 0) w → list_all is_digit part ≡ true
leading_all w part n e h = ap (list_all is_digit) (leading_part w part n e h) ∙ all_prefix is_digit w

pub after_separator_part : (w part : List ℕ) (n : ℕ) → n ≡ prefix_len is_digit w → part ≡ drop (n + 1) w → part ≡ after_separator is_digit w
after_separator_part w part n e h = h ∙ (let q : n + 1 ≡ suc (prefix_len is_digit w) = omega arith in ap (λ k. drop k w) q)

-- A DATE
few_number : (n : ℕ) → (n == 1 || n == 2) ≡ true → n ≤ 2
few_number n e = grind (arith, nat_tests)

few_most : (w : List ℕ) → one_or_two w ≡ true → length w ≤ 2
few_most w e = few_number (length w) e

years_number : (n : ℕ) → (n == 2 || n == 4) ≡ true → n ≤ 4
years_number n e = grind (arith, nat_tests)

pub digits_all : (w : List ℕ) → is_digits w ≡ true → list_all is_digit w ≡ true
digits_all [] e = refl
digits_all (b ∷ bs) e = e

-- the sizes of the parts of a date
pub record DateParts (w : List ℕ) : Type 0 where
  pub point : prefix_len is_digit w < length w
  pub month : prefix_len is_digit w ≤ 2
  pub second : prefix_len is_digit (after_separator is_digit w) < length (after_separator is_digit w)
  pub day : prefix_len is_digit (after_separator is_digit w) ≤ 2
  pub year : length (after_separator is_digit (after_separator is_digit w)) ≤ 4
  pub year_digits : list_all is_digit (after_separator is_digit (after_separator is_digit w)) ≡ true

pub date_parts : (w : List ℕ) → is_dated w ≡ true → DateParts w
date_parts w e =
    let l = left_of_and (parted is_digit slash w && one_or_two (leading is_digit w)) _ e in
    let r = right_of_and (parted is_digit slash w && one_or_two (leading is_digit w)) _ e in
    let v = after_separator is_digit w in
    let m = left_of_and (parted is_digit slash v && one_or_two (leading is_digit v)) _ r in
    let y = right_of_and (parted is_digit slash v && one_or_two (leading is_digit v)) _ r in
    let a = few_most (leading is_digit w) (right_of_and (parted is_digit slash w) _ l) in
    let b = few_most (leading is_digit v) (right_of_and (parted is_digit slash v) _ m) in
    let c = years_number (length (after_separator is_digit v)) (right_of_and (is_digits (after_separator is_digit v)) _ y) in
    let f = leading_length is_digit w in
    let g = leading_length is_digit v in
    record {
      point = starts_inside slash (prefix_len is_digit w) w (left_of_and (parted is_digit slash w) _ l);
      month = omega arith;
      second = starts_inside slash (prefix_len is_digit v) v (left_of_and (parted is_digit slash v) _ m);
      day = omega arith;
      year = c;
      year_digits = digits_all (after_separator is_digit v) (left_of_and (is_digits (after_separator is_digit v)) _ y);
    }

abbrev pub date : ℕ → ℕ → ℕ → CivilDate
date m d y = record { month = m; day = d; year = y }

same_date : (m m' d d' y y' : ℕ) → m ≡ m' → d ≡ d' → y ≡ y' → date m d y ≡ date m' d' y'
same_date m m' d d' y y' e f g = ap (λ a. date a d y) e ∙ ap (λ a. date m' a y) f ∙ ap (λ a. date m' d' a) g

pub date_known : (w v month day years : List ℕ) (n k m d y : ℕ) → n ≡ prefix_len is_digit w → v ≡ drop (n + 1) w → k ≡ prefix_len is_digit v → month ≡ take (n - 0) w → day ≡ take (k - 0) v → years ≡ drop (k + 1) v → m ≡ number_of month → d ≡ number_of day → y ≡ year_of years → date m d y ≡ date_of w
date_known w v month day years n k m d y en ev ek em ed ey vm vd vy =
    let b = after_separator_part w v n en ev in
    same_date m _ d _ y _ (vm ∙ ap number_of (leading_part w month n en em))
    (vd ∙ ap number_of (leading_part v day k ek ed) ∙ ap (λ x. number_of (leading is_digit x)) b)
    (vy ∙ ap year_of (after_separator_part v years k ek ey) ∙ ap (λ x. year_of (after_separator is_digit x)) b)
