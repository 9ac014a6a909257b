-- Where the parts of a line end, and which numbers its digits determine.
use Rattle.std.proofs.Common.{◌≡◌, ℕ, zero, suc, ◌+◌, ◌/◌, ◌%◌, ◌^◌, ◌<◌, ◌≤◌, true, List, [], ◌∷◌, ◌++◌, length, ℤ, pos, negsuc, refl, sym, ap, ◌∙◌, arith}
use Rattle.std.proofs.lemmas.Bool.{ltb-true}
use Rattle.std.proofs.lemmas.List.{same_from_push, length_push}
use Rattle.std.proofs.lemmas.Fmt.{decimal_by_steps_wide, decimal_is_IsNumeral_wide}
use Rattle.std.specs.Fmt.{decimal, signed_decimal}
use Rattle.std.specs.Str.Parse.{digits_value}
use Rattle.abl_values.specs.Arithmetic.{fits_bits}
use Rattle.abl_values.specs.Texts.{last_digits}

-- ---- the first byte and the rest

pub heads : (a b : ℕ) (xs ys : List ℕ) → a ∷ xs ≡ b ∷ ys → a ≡ b
heads a b xs ys e = cc

pub tails : (a b : ℕ) (xs ys : List ℕ) → a ∷ xs ≡ b ∷ ys → xs ≡ ys
tails a b xs ys e = cc

-- ---- words

-- every byte is above the blank
abbrev pub IsPlain : List ℕ → Type 0
IsPlain [] = Unit {0}
IsPlain (b ∷ bs) = (32 < b) × IsPlain bs

pub record Cut (xs ys : List ℕ) (a b : ℕ) (r s : List ℕ) : Type 0 where
  pub words : xs ≡ ys
  pub ends : a ≡ b
  pub rests : r ≡ s

-- equal lines have equal first parts, equal ends of these, and equal rests
pub cut : (xs ys : List ℕ) (a b : ℕ) (r s : List ℕ) → IsPlain xs → IsPlain ys → a ≤ 32 → b ≤ 32 → xs ++ a ∷ r ≡ ys ++ b ∷ s → Cut xs ys a b r s
cut [] [] a b r s hx hy ha hb h = record { words = refl; ends = cc; rests = cc }
cut [] (y ∷ ys) a b r s hx hy ha hb h =
    let e : a ≡ y = cc in
    absurd (omega (arith, hy.0))
cut (x ∷ xs) [] a b r s hx hy ha hb h =
    let e : x ≡ b = cc in
    absurd (omega (arith, hx.0))
cut (x ∷ xs) (y ∷ ys) a b r s hx hy ha hb h =
    let e : x ≡ y = cc in
    let rest : xs ++ a ∷ r ≡ ys ++ b ∷ s = cc in
    let c = cut xs ys a b r s hx.1 hy.1 ha hb rest in
    let words = c.words in
    record { words = cc; ends = c.ends; rests = c.rests }

-- digits
abbrev pub IsDigits : List ℕ → Type 0
IsDigits [] = Unit {0}
IsDigits (b ∷ bs) = ((48 ≤ b) × (b ≤ 57)) × IsDigits bs

-- digits, and the marks before and between the digits of a number or a date: `-`, `.`, `/`
abbrev pub IsMarks : List ℕ → Type 0
IsMarks [] = Unit {0}
IsMarks (b ∷ bs) = ((45 ≤ b) × (b ≤ 57)) × IsMarks bs

pub digits_are_marks : (xs : List ℕ) → IsDigits xs → IsMarks xs
digits_are_marks [] h = tt
digits_are_marks (x ∷ xs) h = ((omega (arith, h.0.0), h.0.1), digits_are_marks xs h.1)

pub marks_are_plain : (xs : List ℕ) → IsMarks xs → IsPlain xs
marks_are_plain [] h = tt
marks_are_plain (x ∷ xs) h = (omega (arith, h.0.0), marks_are_plain xs h.1)

pub marks_tell : (xs : List ℕ) → IsMarks xs → 63 ∷ [] ≡ xs → ⊥
marks_tell [] h e = cc
marks_tell (x ∷ xs) h e =
    let same : 63 ≡ x = cc in
    omega (arith, h.0.1)

pub IsDigits-append : (xs ys : List ℕ) → IsDigits xs → IsDigits ys → IsDigits (xs ++ ys)
IsDigits-append [] ys hx hy = hy
IsDigits-append (x ∷ xs) ys hx hy = (hx.0, IsDigits-append xs ys hx.1 hy)

pub IsMarks-append : (xs ys : List ℕ) → IsMarks xs → IsMarks ys → IsMarks (xs ++ ys)
IsMarks-append [] ys hx hy = hy
IsMarks-append (x ∷ xs) ys hx hy = (hx.0, IsMarks-append xs ys hx.1 hy)

-- ---- decimal numbers

digit : (n : ℕ) → n < 10 → (48 ≤ 48 + n) × (48 + n ≤ 57)
digit n h = (omega arith, omega arith)

decimal_more : (n : ℕ) (ds : List ℕ) → 10 ≤ n → IsDigits ds → IsDigits (ds ++ (48 + n % 10) ∷ [])
decimal_more n ds h hd = IsDigits-append ds ((48 + n % 10) ∷ []) hd (digit (n % 10) (omega arith), tt)

pub decimal-digits : (n : ℕ) → n < 10 ^ 64 → IsDigits (decimal n)
decimal-digits n h = decimal_by_steps_wide (λ _ ds. IsDigits ds) (λ k low. (digit k low, tt)) decimal_more n h

pub decimal-tells : (m n : ℕ) → m < 10 ^ 64 → n < 10 ^ 64 → decimal m ≡ decimal n → m ≡ n
decimal-tells m n hm hn e = sym (decimal_is_IsNumeral_wide m hm).1 ∙ ap (digits_value 10) e ∙ (decimal_is_IsNumeral_wide n hn).1

no_minus : (xs ys : List ℕ) → IsDigits xs → xs ≡ 45 ∷ ys → ⊥
no_minus [] ys h e = cc
no_minus (x ∷ xs) ys h e =
    let same : x ≡ 45 = cc in
    omega (arith, h.0.0)

small : (n : ℕ) → fits_bits 63 (pos n) ≡ true → n + 1 < 10 ^ 64
small n h = omega (arith, ltb-true n (2 ^ 63) h)

pub signed_decimal-tells : (y z : ℤ) → fits_bits 63 y ≡ true → fits_bits 63 z ≡ true → signed_decimal y ≡ signed_decimal z → y ≡ z
signed_decimal-tells (pos m) (pos n) hm hn e = ap pos (decimal-tells m n (omega (arith, small m hm)) (omega (arith, small n hn)) e)
signed_decimal-tells (pos m) (negsuc n) hm hn e = absurd (no_minus (decimal m) (decimal (suc n)) (decimal-digits m (omega (arith, small m hm))) e)
signed_decimal-tells (negsuc m) (pos n) hm hn e = absurd (no_minus (decimal n) (decimal (suc m)) (decimal-digits n (omega (arith, small n hn))) (sym e))
signed_decimal-tells (negsuc m) (negsuc n) hm hn e =
    let rest : decimal (suc m) ≡ decimal (suc n) = cc in
    let same = decimal-tells (suc m) (suc n) (omega (arith, small m hm)) (omega (arith, small n hn)) rest in
    let one : m ≡ n = omega arith in
    ap negsuc one

pub signed_decimal-marks : (z : ℤ) → fits_bits 63 z ≡ true → IsMarks (signed_decimal z)
signed_decimal-marks (pos n) h = digits_are_marks (decimal n) (decimal-digits n (omega (arith, small n h)))
signed_decimal-marks (negsuc n) h = ((omega arith, omega arith), digits_are_marks (decimal (suc n)) (decimal-digits (suc n) (omega (arith, small n h))))

-- ---- the last digits of a number

pub last_digits-digits : (k n : ℕ) → IsDigits (last_digits k n)
last_digits-digits zero n = tt
last_digits-digits (suc k) n = IsDigits-append (last_digits k (n / 10)) ((48 + n % 10) ∷ []) (last_digits-digits k (n / 10)) (digit (n % 10) (omega arith), tt)

pub length-last_digits : (k n : ℕ) → length (last_digits k n) ≡ k
length-last_digits zero n = refl
length-last_digits (suc k) n =
    let again = length-last_digits k (n / 10) in
    let more = length_push (last_digits k (n / 10)) (48 + n % 10) in
    omega arith

pub last_digits-tell : (k m n : ℕ) → m < 10 ^ k → n < 10 ^ k → last_digits k m ≡ last_digits k n → m ≡ n
last_digits-tell zero m n hm hn e = omega arith
last_digits-tell (suc k) m n hm hn e =
    let parts = same_from_push (last_digits k (m / 10)) (last_digits k (n / 10)) (48 + m % 10) (48 + n % 10) e in
    let last = parts.1 in
    let front = last_digits-tell k (m / 10) (n / 10) (lower k m hm) (lower k n hn) parts.0 in
    omega arith
  where
    lower : (k n : ℕ) → n < 10 ^ suc k → n / 10 < 10 ^ k
    lower k n h = omega arith
