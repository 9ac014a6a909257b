-- The plain text of a number denotes it.
use Rattle.std.proofs.Common.{◌≡◌, ℕ, suc, ◌+◌, ◌-◌, ◌*◌, ◌/◌, ◌%◌, ◌^◌, ◌<◌, ◌≤◌, Bool, true, false, ◌&&◌, ◌==◌, nat_le, nat_lt, if◌then◌else◌, List, [], ◌∷◌, ◌++◌, length, drop, Some, None, ℤ, pos, negsuc, refl, sym, ap, ◌∙◌, arith, lit≤}
use Rattle.std.specs.List.{list_all}
use Rattle.std.specs.Fmt.{decimal, signed_decimal}
use Rattle.std.proofs.lemmas.Bool.{false≢true, le-leb, le-ltb, ltb-true, ne_eqb, and_from, and_parts}
use Rattle.abl_values.specs.Arithmetic.{fits_bits, with_sign}
use Rattle.abl_values.specs.Masks.{is_digit, without_minus}
use Rattle.abl_values.specs.Digits.{are_digits, from_first_not, has_minus, number_of}
use Rattle.abl_values.specs.Order.{without_trailing}
use Rattle.abl_values.specs.Texts.{after_point, decimal_text, last_digits, magnitude_text}
use Rattle.text_values.specs.TextValues.{is_point_and_decimals, magnitude_in, number_in, number_in_bits, scaled_of, signed_in_bits, whole_in}
use Rattle.value_formats.proofs.Spelled.{SpellsNumber, behind_digits, decimal_spells, digit_low, digits_before, are_all_digits, last_are, last_number, length_last, no_digit, trimmed_are, trimmed_number, trimmed_shorter}

-- ---- sizes

pub small_of : (n : ℕ) → n < 2 ^ 127 → n + 1 < 10 ^ 64
small_of n h =
    let room : 2 ^ 127 + 1 ≤ 10 ^ 64 = lit≤ tt in
    omega arith

bits_small : (k : ℕ) (n : ℕ) → 2 ^ k ≤ 2 ^ 127 → nat_lt n (2 ^ k) ≡ true → n + 1 < 10 ^ 64
bits_small k n room h =
    let low : n < 2 ^ k = ltb-true n (2 ^ k) h in
    let lower : n < 2 ^ 127 = omega arith in
    small_of n lower

-- ---- a sign

no_sign : (d : ℕ) (ds : List ℕ) → are_digits (d ∷ ds) ≡ true → (d == 45) ≡ false
no_sign d ds h =
    let low = digit_low d (and_parts (is_digit d) (list_all is_digit ds) h).0 in
    ne_eqb d 45 (λ e. omega (arith, e, low))

fits_some : (k : ℕ) (n : ℤ) → fits_bits k n ≡ true → number_in_bits k n ≡ Some n
fits_some k n h = ap (λ (t : Bool). if t then Some n else None) h

-- ---- whole numbers

whole_of : (k n : ℕ) (ds : List ℕ) → SpellsNumber n ds → fits_bits k (pos n) ≡ true → whole_in k ds ≡ Some (pos n)
whole_of k n [] s h = absurd (false≢true s.are)
whole_of k n (d ∷ ds) s h =
    ap (λ (t : Bool). signed_in_bits k t (if are_digits (if t then ds else d ∷ ds) then Some (number_of (if t then ds else d ∷ ds)) else None)) (no_sign d ds s.are)
    ∙ ap (λ (t : Bool). signed_in_bits k false (if t then Some (number_of (d ∷ ds)) else None)) s.are
    ∙ ap (λ (m : ℕ). number_in_bits k (pos m)) s.number
    ∙ fits_some k (pos n) h

negative_of : (k n : ℕ) (ds : List ℕ) → SpellsNumber (suc n) ds → fits_bits k (negsuc n) ≡ true → whole_in k (45 ∷ ds) ≡ Some (negsuc n)
negative_of k n ds s h =
    ap (λ (t : Bool). signed_in_bits k true (if t then Some (number_of ds) else None)) s.are
    ∙ ap (λ (m : ℕ). number_in_bits k (with_sign true m)) s.number
    ∙ fits_some k (negsuc n) h

pub whole_back : (k : ℕ) (n : ℤ) → 2 ^ k ≤ 2 ^ 127 → fits_bits k n ≡ true → whole_in k (signed_decimal n) ≡ Some n
whole_back k (pos n) room h =
    let small = bits_small k n room h in
    whole_of k n (decimal n) (decimal_spells n (omega arith)) h
whole_back k (negsuc n) room h =
    let small = bits_small k n room h in
    negative_of k n (decimal (suc n)) (decimal_spells (suc n) (omega arith)) h

-- ---- decimals

no_digit_point : (fs : List ℕ) → no_digit (after_point fs) ≡ true
no_digit_point [] = refl
no_digit_point (f ∷ fs) = refl

after_is : (fs : List ℕ) → list_all is_digit fs ≡ true → length fs ≤ 10 → is_point_and_decimals (after_point fs) ≡ true
after_is [] h k = refl
after_is (f ∷ fs) h k = and_from (list_all is_digit (f ∷ fs)) (nat_le (length (f ∷ fs)) 10) h (le-leb (length (f ∷ fs)) 10 k)

without_point : (fs : List ℕ) → drop 1 (after_point fs) ≡ fs
without_point [] = refl
without_point (f ∷ fs) = refl

magnitude_of : (w f : ℕ) (ds fs : List ℕ) → SpellsNumber w ds → list_all is_digit fs ≡ true → length fs ≤ 10 → number_of fs * 10 ^ (10 - length fs) ≡ f
    → magnitude_in (ds ++ after_point fs) ≡ Some (w * 10000000000 + f)
magnitude_of w f ds fs s h k e =
    let more : List ℕ = after_point fs in
    let all = are_all_digits ds s.are in
    ap (λ (x : List ℕ). if are_digits x && is_point_and_decimals (from_first_not is_digit (ds ++ more)) then Some (scaled_of x (drop 1 (from_first_not is_digit (ds ++ more)))) else None)
    (digits_before ds more all (no_digit_point fs))
    ∙ ap (λ (y : List ℕ). if are_digits ds && is_point_and_decimals y then Some (scaled_of ds (drop 1 y)) else None) (behind_digits ds more all (no_digit_point fs))
    ∙ ap (λ (t : Bool). if t then Some (scaled_of ds (drop 1 more)) else None) (and_from (are_digits ds) (is_point_and_decimals more) s.are (after_is fs h k))
    ∙ ap (λ (y : List ℕ). Some (scaled_of ds y)) (without_point fs)
    ∙ ap (λ (m : ℕ). Some (m * 10000000000 + number_of fs * 10 ^ (10 - length fs))) s.number
    ∙ ap (λ (m : ℕ). Some (w * 10000000000 + m)) e

fraction_number : (r : ℕ) → r < 10000000000 → number_of (without_trailing 48 (last_digits 10 r)) * 10 ^ (10 - length (without_trailing 48 (last_digits 10 r))) ≡ r
fraction_number r h =
    let room : r < 10 ^ 10 = omega arith in
    ap (λ (k : ℕ). number_of (without_trailing 48 (last_digits 10 r)) * 10 ^ (k - length (without_trailing 48 (last_digits 10 r)))) (sym (length_last 10 r))
    ∙ trimmed_number (last_digits 10 r) ∙ last_number 10 r room

magnitude_back : (n : ℕ) → n < 10 ^ 64 → magnitude_in (magnitude_text n) ≡ Some n
magnitude_back n h =
    let w : ℕ = n / 10000000000 in
    let r : ℕ = n % 10000000000 in
    let whole : w * 10000000000 + r ≡ n = omega arith in
    let low : w < 10 ^ 64 = omega arith in
    let few : length (without_trailing 48 (last_digits 10 r)) ≤ 10 = omega (arith, trimmed_shorter (last_digits 10 r), length_last 10 r) in
    magnitude_of w r (decimal w) (without_trailing 48 (last_digits 10 r)) (decimal_spells w low) (trimmed_are (last_digits 10 r) (last_are 10 r)) few (fraction_number r (omega arith))
    ∙ ap (λ (m : ℕ). Some m) whole

-- a text without a sign
pub record Unsigned (text : List ℕ) : Type 0 where
  pub no_minus : has_minus text ≡ false
  pub same : without_minus text ≡ text

unsigned_digits : (ds more : List ℕ) → are_digits ds ≡ true → Unsigned (ds ++ more)
unsigned_digits [] more h = absurd (false≢true h)
unsigned_digits (d ∷ ds) more h = record {
  no_minus = no_sign d ds h;
  same = ap (λ (t : Bool). if t then ds ++ more else d ∷ (ds ++ more)) (no_sign d ds h);
}

unsigned_magnitude : (n : ℕ) → n < 10 ^ 64 → Unsigned (magnitude_text n)
unsigned_magnitude n h =
    let low : n / 10000000000 < 10 ^ 64 = omega arith in
    unsigned_digits (decimal (n / 10000000000)) (after_point (without_trailing 48 (last_digits 10 (n % 10000000000)))) (decimal_spells (n / 10000000000) low).are

positive_back : (n : ℕ) → n < 10 ^ 64 → fits_bits 127 (pos n) ≡ true → number_in (magnitude_text n) ≡ Some (pos n)
unfolding number_in
positive_back n small h =
    let u = unsigned_magnitude n small in
    ap (λ (t : Bool). signed_in_bits 127 t (magnitude_in (without_minus (magnitude_text n)))) u.no_minus
    ∙ ap (λ (xs : List ℕ). signed_in_bits 127 false (magnitude_in xs)) u.same
    ∙ ap (signed_in_bits 127 false) (magnitude_back n small)
    ∙ fits_some 127 (pos n) h

negative_back : (n : ℕ) → suc n < 10 ^ 64 → fits_bits 127 (negsuc n) ≡ true → number_in (45 ∷ magnitude_text (suc n)) ≡ Some (negsuc n)
unfolding number_in
negative_back n small h =
    ap (signed_in_bits 127 true) (magnitude_back (suc n) small) ∙ fits_some 127 (negsuc n) h

-- the sign that is written
pub positive_text : (n : ℕ) → decimal_text (pos n) ≡ magnitude_text n
positive_text n = ap (λ (t : Bool). (if t then 45 ∷ [] else []) ++ magnitude_text n) (le-ltb n 0 (omega arith))

pub negative_text : (n : ℕ) → decimal_text (negsuc n) ≡ 45 ∷ magnitude_text (suc n)
negative_text n = refl

pub decimal_back : (n : ℤ) → fits_bits 127 n ≡ true → number_in (decimal_text n) ≡ Some n
decimal_back (pos n) h =
    let small = small_of n (ltb-true n (2 ^ 127) h) in
    ap number_in (positive_text n) ∙ positive_back n (omega arith) h
decimal_back (negsuc n) h =
    let small = small_of n (ltb-true n (2 ^ 127) h) in
    ap number_in (negative_text n) ∙ negative_back n (omega arith) h
