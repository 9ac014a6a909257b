-- The EXPORT text of a value determines the value, given its kind.
use Rattle.std.proofs.Common.{◌≡◌, ℕ, zero, suc, ◌+◌, ◌-◌, ◌/◌, ◌%◌, ◌^◌, ◌<◌, ◌≤◌, Bool, true, false, ◌==◌, ◌&&◌, if◌then◌else◌, cond, List, [], ◌∷◌, ◌++◌, length, Option, Some, None, ℤ, pos, negsuc, refl, sym, ap, subst, ◌∙◌, arith, append_assoc}
use Rattle.std.proofs.lemmas.Bool.{and_parts, eqb-true, eqb-false, ltb-true, leb-true}
use Rattle.std.proofs.lemmas.Bool.Decides.{nat_tests}
use Rattle.std.specs.Fmt.{decimal, signed_decimal}
use Rattle.std.specs.Int.{is_negative}
use Rattle.std.specs.Prelude.{nat_le}
use Rattle.abl_base.specs.declared.value.Kind.{Kind}
use Rattle.abl_base.specs.declared.value.Kind.TheVariants.{Character, Integer, Int64 as Whole64, Decimal, Logical as Truth, Date as Day}
use Rattle.abl_base.specs.declared.limits.TheConstants.{MAX_TEXT_BYTES}
use Rattle.abl_base.specs.declared.value.Value.{Value}
use Rattle.abl_base.specs.declared.value.Value.TheVariants.{Text, Int, Int64, Dec, Logical, Date, Unknown}
use Rattle.abl_values.specs.Arithmetic.{fits_bits}
use Rattle.abl_values.specs.Dates.{HasDate, CivilDate, date_of_day, day_number, is_civil, is_day, is_leap, length_at, months_of}
use Rattle.abl_values.specs.Fit.{IsOfField, IsOfKind}
use Rattle.abl_values.specs.Order.{kept_before, without_trailing}
use Rattle.abl_values.specs.Texts.{after_point, date_text, decimal_text, doubled, export_text, last_digits, magnitude_text, plain_text, year_text}
use Rattle.abl_values.proofs.DayDates.{has_date}
use Rattle.schema_reader.proofs.ObservableBytes.{IsDigits, IsMarks, IsMarks-append, cut, decimal-digits, decimal-tells, digits_are_marks, last_digits-digits, last_digits-tell, length-last_digits, marks_are_plain, marks_tell, signed_decimal-marks, signed_decimal-tells, heads, tails}

-- ---- decimals

-- two lists of the same length are equal if they are equal without their trailing bytes d
trailing-tells : (d : ℕ) (xs ys : List ℕ) → length xs ≡ length ys → without_trailing d xs ≡ without_trailing d ys → xs ≡ ys
trailing-tells d [] [] h e = refl
trailing-tells d [] (y ∷ ys) h e = absurd (omega arith)
trailing-tells d (x ∷ xs) [] h e = absurd (omega arith)
trailing-tells d (x ∷ xs) (y ∷ ys) h e =
    let parts = go (without_trailing d xs) (without_trailing d ys) e in
    let heads = parts.0 in
    let tails = trailing-tells d xs ys (omega arith) parts.1 in
    cc
  where
    one : (b c : Bool) → x == d ≡ b → y == d ≡ c → cond b [] (x ∷ []) ≡ cond c [] (y ∷ []) → x ≡ y
    one true true hb hc e = eqb-true x d hb ∙ sym (eqb-true y d hc)
    one true false hb hc e = cc
    one false true hb hc e = cc
    one false false hb hc e = cc

    none : (b : Bool) (z c : ℕ) (cs : List ℕ) → cond b [] (x ∷ []) ≡ z ∷ c ∷ cs → ⊥
    none true z c cs e = cc
    none false z c cs e = cc

    none_here : (b : Bool) (z c : ℕ) (cs : List ℕ) → cond b [] (y ∷ []) ≡ z ∷ c ∷ cs → ⊥
    none_here true z c cs e = cc
    none_here false z c cs e = cc

    go : (us vs : List ℕ) → kept_before d x us ≡ kept_before d y vs → (x ≡ y) × (us ≡ vs)
    go [] [] e = (one (x == d) (y == d) refl refl e, refl)
    go [] (v ∷ vs) e = absurd (none (x == d) y v vs e)
    go (u ∷ us) [] e = absurd (none_here (y == d) x u us (sym e))
    go (u ∷ us) (v ∷ vs) e = (cc, cc)

-- digits, followed by nothing or by a point and more
digits_cut : (xs ys us vs : List ℕ) → IsDigits xs → IsDigits ys → xs ++ after_point us ≡ ys ++ after_point vs → (xs ≡ ys) × (us ≡ vs)
digits_cut [] [] us vs hx hy e = (refl, same us vs e)
  where
    same : (us vs : List ℕ) → after_point us ≡ after_point vs → us ≡ vs
    same [] [] e = refl
    same [] (v ∷ vs) e = cc
    same (u ∷ us) [] e = cc
    same (u ∷ us) (v ∷ vs) e = cc
digits_cut [] (y ∷ ys) us vs hx hy e = absurd (none us e)
  where
    none : (us : List ℕ) → after_point us ≡ y ∷ (ys ++ after_point vs) → ⊥
    none [] e = cc
    none (u ∷ us) e =
        let same : 46 ≡ y = cc in
        omega (arith, hy.0.0)
digits_cut (x ∷ xs) [] us vs hx hy e = absurd (none vs (sym e))
  where
    none : (vs : List ℕ) → after_point vs ≡ x ∷ (xs ++ after_point us) → ⊥
    none [] e = cc
    none (v ∷ vs) e =
        let same : 46 ≡ x = cc in
        omega (arith, hx.0.0)
digits_cut (x ∷ xs) (y ∷ ys) us vs hx hy e =
    let heads : x ≡ y = cc in
    let rest : xs ++ after_point us ≡ ys ++ after_point vs = cc in
    let parts = digits_cut xs ys us vs hx.1 hy.1 rest in
    let words = parts.0 in
    (cc, parts.1)

magnitude-tells : (m n : ℕ) → m < 10 ^ 60 → n < 10 ^ 60 → magnitude_text m ≡ magnitude_text n → m ≡ n
magnitude-tells m n hm hn e =
    let p : ℕ = 10000000000 in
    let parts = digits_cut (decimal (m / 10000000000)) (decimal (n / 10000000000)) (without_trailing 48 (last_digits 10 (m % 10000000000))) (without_trailing 48 (last_digits 10 (n % 10000000000)))
    (decimal-digits (m / 10000000000) (omega arith)) (decimal-digits (n / 10000000000) (omega arith)) e in
    let whole = decimal-tells (m / 10000000000) (n / 10000000000) (omega arith) (omega arith) parts.0 in
    let behind = trailing-tells 48 (last_digits 10 (m % 10000000000)) (last_digits 10 (n % 10000000000)) (length-last_digits 10 (m % 10000000000) ∙ sym (length-last_digits 10 (n % 10000000000))) parts.1 in
    let part = last_digits-tell 10 (m % 10000000000) (n % 10000000000) (omega arith) (omega arith) behind in
    omega arith

no_minus_here : (xs us ys : List ℕ) → IsDigits xs → xs ++ after_point us ≡ 45 ∷ ys → ⊥
no_minus_here [] [] ys h e = cc
no_minus_here [] (u ∷ us) ys h e = absurd (omega (arith, heads 46 45 (u ∷ us) ys e))
no_minus_here (x ∷ xs) us ys h e =
    let same : x ≡ 45 = cc in
    omega (arith, h.0.0)

in_range : (n : ℕ) → fits_bits 127 (pos n) ≡ true → n + 1 < 10 ^ 60
in_range n h = omega (arith, ltb-true n (2 ^ 127) h)

not_negative : (n : ℕ) → is_negative (pos n) ≡ false
not_negative n = grind (arith, nat_tests)

negative : (n : ℕ) → is_negative (negsuc n) ≡ true
negative n = grind (arith, nat_tests)

decimal_text-pos : (n : ℕ) → decimal_text (pos n) ≡ magnitude_text n
decimal_text-pos n = ap (λ b. cond b (45 ∷ []) [] ++ magnitude_text n) (not_negative n)

decimal_text-negsuc : (n : ℕ) → decimal_text (negsuc n) ≡ 45 ∷ magnitude_text (suc n)
decimal_text-negsuc n = ap (λ b. cond b (45 ∷ []) [] ++ magnitude_text (suc n)) (negative n)

decimal_text-tells : (y z : ℤ) → fits_bits 127 y ≡ true → fits_bits 127 z ≡ true → decimal_text y ≡ decimal_text z → y ≡ z
decimal_text-tells (pos m) (pos n) hm hn e = ap pos (magnitude-tells m n (omega (arith, in_range m hm)) (omega (arith, in_range n hn)) (sym (decimal_text-pos m) ∙ e ∙ decimal_text-pos n))
decimal_text-tells (pos m) (negsuc n) hm hn e =
    absurd (no_minus_here (decimal (m / 10000000000)) (without_trailing 48 (last_digits 10 (m % 10000000000))) (magnitude_text (suc n)) (decimal-digits (m / 10000000000) (omega (arith, in_range m hm))) (sym (decimal_text-pos m) ∙ e ∙ decimal_text-negsuc n))
decimal_text-tells (negsuc m) (pos n) hm hn e =
    absurd (no_minus_here (decimal (n / 10000000000)) (without_trailing 48 (last_digits 10 (n % 10000000000))) (magnitude_text (suc m)) (decimal-digits (n / 10000000000) (omega (arith, in_range n hn))) (sym (decimal_text-pos n) ∙ sym e ∙ decimal_text-negsuc m))
decimal_text-tells (negsuc m) (negsuc n) hm hn e =
    let same = magnitude-tells (suc m) (suc n) (omega (arith, in_range m hm)) (omega (arith, in_range n hn)) (tails 45 45 (magnitude_text (suc m)) (magnitude_text (suc n)) (sym (decimal_text-negsuc m) ∙ e ∙ decimal_text-negsuc n)) in
    let one : m ≡ n = omega arith in
    ap negsuc one

trailing-digits : (xs : List ℕ) → IsDigits xs → IsDigits (without_trailing 48 xs)
trailing-digits [] h = tt
trailing-digits (x ∷ xs) h = go (without_trailing 48 xs) (trailing-digits xs h.1)
  where
    one : (b : Bool) → IsDigits (cond b [] (x ∷ []))
    one true = tt
    one false = (h.0, tt)

    go : (us : List ℕ) → IsDigits us → IsDigits (kept_before 48 x us)
    go [] k = one (x == 48)
    go (u ∷ us) k = (h.0, k)

point-marks : (xs : List ℕ) → IsDigits xs → IsMarks (after_point xs)
point-marks [] h = tt
point-marks (x ∷ xs) h = ((omega arith, omega arith), digits_are_marks (x ∷ xs) h)

magnitude-marks : (n : ℕ) → n < 10 ^ 60 → IsMarks (magnitude_text n)
magnitude-marks n h =
    IsMarks-append (decimal (n / 10000000000)) (after_point (without_trailing 48 (last_digits 10 (n % 10000000000))))
    (digits_are_marks (decimal (n / 10000000000)) (decimal-digits (n / 10000000000) (omega arith)))
    (point-marks (without_trailing 48 (last_digits 10 (n % 10000000000))) (trailing-digits (last_digits 10 (n % 10000000000)) (last_digits-digits 10 (n % 10000000000))))

decimal_text-marks : (z : ℤ) → fits_bits 127 z ≡ true → IsMarks (decimal_text z)
decimal_text-marks (pos n) h = subst IsMarks (sym (decimal_text-pos n)) (magnitude-marks n (omega (arith, in_range n h)))
decimal_text-marks (negsuc n) h = subst IsMarks (sym (decimal_text-negsuc n)) ((omega arith, omega arith), magnitude-marks (suc n) (omega (arith, in_range n h)))

-- ---- dates

abbrev Months : List ℕ → Type 0
Months [] = Unit {0}
Months (d ∷ ds) = (d ≤ 31) × Months ds

length_at-le : (months : List ℕ) (n : ℕ) → Months months → length_at months n ≤ 31
length_at-le [] n h = omega arith
length_at-le (d ∷ ds) zero h = h.0
length_at-le (d ∷ ds) (suc n) h = length_at-le ds n h.1

months_of-le : (year : ℕ) → Months (months_of year)
months_of-le year = go (is_leap year)
  where
    go : (b : Bool) → Months (31 ∷ (if b then 29 else 28) ∷ 31 ∷ 30 ∷ 31 ∷ 30 ∷ 31 ∷ 31 ∷ 30 ∷ 31 ∷ 30 ∷ 31 ∷ [])
    go true = (omega arith, (omega arith, (omega arith, (omega arith, (omega arith, (omega arith, (omega arith, (omega arith, (omega arith, (omega arith, (omega arith, (omega arith, tt))))))))))))
    go false = (omega arith, (omega arith, (omega arith, (omega arith, (omega arith, (omega arith, (omega arith, (omega arith, (omega arith, (omega arith, (omega arith, (omega arith, tt))))))))))))

record Bounds (y m d : ℕ) : Type 0 where
  year : y ≤ 9999
  month : m ≤ 12
  day : d ≤ 31

bounds : (y m d : ℕ) → is_civil (record { year = y; month = m; day = d }) ≡ true → Bounds y m d
bounds y m d h =
    let a = and_parts ((nat_le 1 y && nat_le y 9999) && (nat_le 1 m && nat_le m 12)) (nat_le 1 d && nat_le d (length_at (months_of y) (m - 1))) h in
    let b = and_parts (nat_le 1 y && nat_le y 9999) (nat_le 1 m && nat_le m 12) a.0 in
    let ys = and_parts (nat_le 1 y) (nat_le y 9999) b.0 in
    let ms = and_parts (nat_le 1 m) (nat_le m 12) b.1 in
    let ds = and_parts (nat_le 1 d) (nat_le d (length_at (months_of y) (m - 1))) a.1 in
    let last = leb-true d (length_at (months_of y) (m - 1)) ds.1 in
    let most = length_at-le (months_of y) (m - 1) (months_of-le y) in
    record { year = leb-true y 9999 ys.1; month = leb-true m 12 ms.1; day = omega arith }

two_tell : (y z : ℕ) → last_digits 2 y ≡ last_digits 2 z → (48 + y / 10 % 10 ≡ 48 + z / 10 % 10) × (48 + y % 10 ≡ 48 + z % 10)
two_tell y z e = go (48 + y / 10 % 10) (48 + y % 10) (48 + z / 10 % 10) (48 + z % 10) e
  where
    go : (a b c d : ℕ) → a ∷ b ∷ [] ≡ c ∷ d ∷ [] → (a ≡ c) × (b ≡ d)
    go a b c d e = (cc, cc)

year_text-tells : (y z : ℕ) → y ≤ 9999 → z ≤ 9999 → year_text y ≡ year_text z → y ≡ z
year_text-tells y z hy hz e = go (nat_le 1950 y && nat_le y 2049) (nat_le 1950 z && nat_le z 2049) refl refl e
  where
    range : (n : ℕ) → (nat_le 1950 n && nat_le n 2049) ≡ true → (1950 ≤ n) × (n ≤ 2049)
    range n h =
        let parts = and_parts (nat_le 1950 n) (nat_le n 2049) h in
        (leb-true 1950 n parts.0, leb-true n 2049 parts.1)

    near : (y z : ℕ) → (1950 ≤ y) × (y ≤ 2049) → (1950 ≤ z) × (z ≤ 2049) → 48 + y / 10 % 10 ≡ 48 + z / 10 % 10 → 48 + y % 10 ≡ 48 + z % 10 → y ≡ z
    near y z hy hz e f = omega (arith, hy.0, hy.1, hz.0, hz.1)

    two_or_four : (a b c d p q : ℕ) → a ∷ b ∷ [] ≡ c ∷ d ∷ p ∷ q ∷ [] → ⊥
    two_or_four a b c d p q e = cc

    go : (b c : Bool) → (nat_le 1950 y && nat_le y 2049) ≡ b → (nat_le 1950 z && nat_le z 2049) ≡ c → cond b (last_digits 2 y) (last_digits 4 y) ≡ cond c (last_digits 2 z) (last_digits 4 z) → y ≡ z
    go true true hb hc e =
        let digits = two_tell y z e in
        near y z (range y hb) (range z hc) digits.0 digits.1
    go true false hb hc e = absurd (two_or_four (48 + y / 10 % 10) (48 + y % 10) (48 + z / 10 / 10 / 10 % 10) (48 + z / 10 / 10 % 10) (48 + z / 10 % 10) (48 + z % 10) e)
    go false true hb hc e = absurd (two_or_four (48 + z / 10 % 10) (48 + z % 10) (48 + y / 10 / 10 / 10 % 10) (48 + y / 10 / 10 % 10) (48 + y / 10 % 10) (48 + y % 10) (sym e))
    go false false hb hc e = last_digits-tell 4 y z (omega arith) (omega arith) e

abbrev is_date : ℕ → ℕ → ℕ → CivilDate
is_date y m d = record { year = y; month = m; day = d }

record IsTold (xs us ps ys vs qs : List ℕ) : Type 0 where
  first : xs ≡ ys
  second : us ≡ vs
  third : ps ≡ qs

date_parts : (a b c d e f g h : ℕ) (ps qs : List ℕ) → a ∷ b ∷ 47 ∷ c ∷ d ∷ 47 ∷ ps ≡ e ∷ f ∷ 47 ∷ g ∷ h ∷ 47 ∷ qs → IsTold (a ∷ b ∷ []) (c ∷ d ∷ []) ps (e ∷ f ∷ []) (g ∷ h ∷ []) qs
date_parts a b c d e f g h ps qs same =
    let one : a ≡ e = cc in
    let two : b ≡ f = cc in
    let three : c ≡ g = cc in
    let four : d ≡ h = cc in
    let five : ps ≡ qs = cc in
    record { first = cc; second = cc; third = five }

same_date : (y z m n d e : ℕ) → y ≡ z → m ≡ n → d ≡ e → is_date y m d ≡ is_date z n e
same_date y z m n d e hy hm hd =
    ap (λ k. is_date k m d) hy ∙ ap (λ k. is_date z k d) hm ∙ ap (λ k. is_date z n k) hd

date_text-tells : (y m d z n e : ℕ) → is_civil (is_date y m d) ≡ true → is_civil (is_date z n e) ≡ true → date_text (is_date y m d) ≡ date_text (is_date z n e) → is_date y m d ≡ is_date z n e
date_text-tells y m d z n e hc hd same =
    let b = bounds y m d hc in
    let c = bounds z n e hd in
    let parts = date_parts (48 + m / 10 % 10) (48 + m % 10) (48 + d / 10 % 10) (48 + d % 10) (48 + n / 10 % 10) (48 + n % 10) (48 + e / 10 % 10) (48 + e % 10) (year_text y) (year_text z) same in
    same_date y z m n d e (year_text-tells y z b.year c.year parts.third)
    (last_digits-tell 2 m n (omega (arith, b.month)) (omega (arith, c.month)) parts.first)
    (last_digits-tell 2 d e (omega (arith, b.day)) (omega (arith, c.day)) parts.second)

year_text-digits : (y : ℕ) → IsDigits (year_text y)
year_text-digits y = go (nat_le 1950 y && nat_le y 2049)
  where
    go : (b : Bool) → IsDigits (cond b (last_digits 2 y) (last_digits 4 y))
    go true = last_digits-digits 2 y
    go false = last_digits-digits 4 y

date_text-marks : (c : CivilDate) → IsMarks (date_text c)
date_text-marks c =
    IsMarks-append (last_digits 2 c.month ++ 47 ∷ last_digits 2 c.day) (47 ∷ year_text c.year)
    (IsMarks-append (last_digits 2 c.month) (47 ∷ last_digits 2 c.day) (digits_are_marks (last_digits 2 c.month) (last_digits-digits 2 c.month)) ((omega arith, omega arith), digits_are_marks (last_digits 2 c.day) (last_digits-digits 2 c.day)))
    ((omega arith, omega arith), digits_are_marks (year_text c.year) (year_text-digits c.year))

day-tells : (d e : ℤ) → HasDate d → HasDate e → date_text (date_of_day d) ≡ date_text (date_of_day e) → d ≡ e
day-tells d e hd he same =
    let c = date_of_day d in
    let k = date_of_day e in
    sym hd.number ∙ ap day_number (date_text-tells c.year c.month c.day k.year k.month k.day hd.civil he.civil same) ∙ he.number

-- ---- values

-- a number that fits in 32 bits fits in 64
wider : (n : ℤ) → fits_bits 31 n ≡ true → fits_bits 63 n ≡ true
wider (pos n) h = grind (arith, nat_tests)
wider (negsuc n) h = grind (arith, nat_tests)

pub record Told (v w : Value) (r s : List ℕ) : Type 0 where
  pub value : v ≡ w
  pub rest : r ≡ s

-- a text in quotation marks, and a line feed
quoted : (t u r s : List ℕ) → doubled t ++ 34 ∷ 10 ∷ r ≡ doubled u ++ 34 ∷ 10 ∷ s → (t ≡ u) × (r ≡ s)
quoted [] [] r s e = (refl, tails 10 10 r s (tails 34 34 (10 ∷ r) (10 ∷ s) e))
quoted [] (y ∷ ys) r s e = absurd (go (y == 34) refl e)
  where
    go : (b : Bool) → (y == 34) ≡ b → 34 ∷ 10 ∷ r ≡ cond b (34 ∷ 34 ∷ []) (y ∷ []) ++ doubled ys ++ 34 ∷ 10 ∷ s → ⊥
    go true h e = omega (arith, heads 10 34 r (doubled ys ++ 34 ∷ 10 ∷ s) (tails 34 34 (10 ∷ r) (34 ∷ (doubled ys ++ 34 ∷ 10 ∷ s)) e))
    go false h e = eqb-false y 34 h (sym (heads 34 y (10 ∷ r) (doubled ys ++ 34 ∷ 10 ∷ s) e))
quoted (x ∷ xs) [] r s e = absurd (go (x == 34) refl (sym e))
  where
    go : (b : Bool) → (x == 34) ≡ b → 34 ∷ 10 ∷ s ≡ cond b (34 ∷ 34 ∷ []) (x ∷ []) ++ doubled xs ++ 34 ∷ 10 ∷ r → ⊥
    go true h e = omega (arith, heads 10 34 s (doubled xs ++ 34 ∷ 10 ∷ r) (tails 34 34 (10 ∷ s) (34 ∷ (doubled xs ++ 34 ∷ 10 ∷ r)) e))
    go false h e = eqb-false x 34 h (sym (heads 34 x (10 ∷ s) (doubled xs ++ 34 ∷ 10 ∷ r) e))
quoted (x ∷ xs) (y ∷ ys) r s e = go (x == 34) (y == 34) refl refl e (λ k. quoted xs ys r s k)
  where
    one : x ≡ y → (xs ≡ ys) × (r ≡ s) → (x ∷ xs ≡ y ∷ ys) × (r ≡ s)
    one h k =
        let rest = k.0 in
        (cc, k.1)

    go : (b c : Bool) → (x == 34) ≡ b → (y == 34) ≡ c → cond b (34 ∷ 34 ∷ []) (x ∷ []) ++ doubled xs ++ 34 ∷ 10 ∷ r ≡ cond c (34 ∷ 34 ∷ []) (y ∷ []) ++ doubled ys ++ 34 ∷ 10 ∷ s
        → (doubled xs ++ 34 ∷ 10 ∷ r ≡ doubled ys ++ 34 ∷ 10 ∷ s → (xs ≡ ys) × (r ≡ s)) → (x ∷ xs ≡ y ∷ ys) × (r ≡ s)
    go true true hx hy e again =
        one (eqb-true x 34 hx ∙ sym (eqb-true y 34 hy)) (again (tails 34 34 (doubled xs ++ 34 ∷ 10 ∷ r) (doubled ys ++ 34 ∷ 10 ∷ s) (tails 34 34 (34 ∷ (doubled xs ++ 34 ∷ 10 ∷ r)) (34 ∷ (doubled ys ++ 34 ∷ 10 ∷ s)) e)))
    go true false hx hy e again = absurd (eqb-false y 34 hy (sym (heads 34 y (34 ∷ (doubled xs ++ 34 ∷ 10 ∷ r)) (doubled ys ++ 34 ∷ 10 ∷ s) e)))
    go false true hx hy e again = absurd (eqb-false x 34 hx (heads x 34 (doubled xs ++ 34 ∷ 10 ∷ r) (34 ∷ (doubled ys ++ 34 ∷ 10 ∷ s)) e))
    go false false hx hy e again =
        one (heads x y (doubled xs ++ 34 ∷ 10 ∷ r) (doubled ys ++ 34 ∷ 10 ∷ s) e) (again (tails x y (doubled xs ++ 34 ∷ 10 ∷ r) (doubled ys ++ 34 ∷ 10 ∷ s) e))

-- a value before a line feed
abbrev pub Tells : Value → Value → Type 0
Tells v w = (r s : List ℕ) → export_text v ++ 10 ∷ r ≡ export_text w ++ 10 ∷ s → Told v w r s

marked : (v w : Value) (xs ys r s : List ℕ) → IsMarks xs → IsMarks ys → (xs ≡ ys → v ≡ w) → xs ++ 10 ∷ r ≡ ys ++ 10 ∷ s → Told v w r s
marked v w xs ys r s hx hy same e =
    let c = cut xs ys 10 10 r s (marks_are_plain xs hx) (marks_are_plain ys hy) (omega arith) (omega arith) e in
    record { value = same c.words; rest = c.rests }

unmarked : (xs r s : List ℕ) → IsMarks xs → 63 ∷ 10 ∷ r ≡ xs ++ 10 ∷ s → ⊥
unmarked xs r s h e =
    let c = cut (63 ∷ []) xs 10 10 r s (omega arith, tt) (marks_are_plain xs h) (omega arith) (omega arith) e in
    marks_tell xs h c.words

unknown-tells : (kind : Kind) (w : Value) → IsOfKind kind w → Tells Unknown w
unfolding export_text plain_text
unknown-tells kind Unknown h r s e = record { value = refl; rest = tails 10 10 r s (tails 63 63 (10 ∷ r) (10 ∷ s) e) }
unknown-tells Character (Text t) h r s e = absurd (omega (arith, heads 63 34 (10 ∷ r) (doubled t ++ 34 ∷ [] ++ 10 ∷ s) e))
unknown-tells Integer (Int n) h r s e = absurd (unmarked (signed_decimal n) r s (signed_decimal-marks n (wider n h)) e)
unknown-tells Whole64 (Int64 n) h r s e = absurd (unmarked (signed_decimal n) r s (signed_decimal-marks n h) e)
unknown-tells Decimal (Dec n) h r s e = absurd (unmarked (decimal_text n) r s (decimal_text-marks n h) e)
unknown-tells Truth (Logical true) h r s e = absurd (omega (arith, heads 63 121 (10 ∷ r) (101 ∷ 115 ∷ 10 ∷ s) e))
unknown-tells Truth (Logical false) h r s e = absurd (omega (arith, heads 63 110 (10 ∷ r) (111 ∷ 10 ∷ s) e))
unknown-tells Day (Date d) h r s e = absurd (unmarked (date_text (date_of_day d)) r s (date_text-marks (date_of_day d)) e)
unknown-tells kind w h r s e = absurd h

tells_back : (v w : Value) → Tells v w → Tells w v
tells_back v w h r s e =
    let k = h s r (sym e) in
    record { value = sym k.value; rest = sym k.rest }

text-tells : (t : List ℕ) (w : Value) → length t ≤ MAX_TEXT_BYTES → IsOfKind Character w → Tells (Text t) w
unfolding export_text plain_text
text-tells t Unknown k h r s e = tells_back Unknown (Text t) (unknown-tells Character (Text t) k) r s e
text-tells t (Text u) k h r s e =
    let parts = quoted t u r s (sym (append_assoc (doubled t) (34 ∷ []) (10 ∷ r)) ∙ tails 34 34 (doubled t ++ 34 ∷ [] ++ 10 ∷ r) (doubled u ++ 34 ∷ [] ++ 10 ∷ s) e ∙ append_assoc (doubled u) (34 ∷ []) (10 ∷ s)) in
    record { value = ap Text parts.0; rest = parts.1 }
text-tells t w k h r s e = absurd h

int-tells : (n : ℤ) (w : Value) → fits_bits 31 n ≡ true → IsOfKind Integer w → Tells (Int n) w
unfolding export_text plain_text
int-tells n Unknown k h r s e = tells_back Unknown (Int n) (unknown-tells Integer (Int n) k) r s e
int-tells n (Int m) k h r s e =
    let one = wider n k in
    let other = wider m h in
    marked (Int n) (Int m) (signed_decimal n) (signed_decimal m) r s (signed_decimal-marks n one) (signed_decimal-marks m other) (λ same. ap Int (signed_decimal-tells n m one other same)) e
int-tells n w k h r s e = absurd h

long-tells : (n : ℤ) (w : Value) → fits_bits 63 n ≡ true → IsOfKind Whole64 w → Tells (Int64 n) w
unfolding export_text plain_text
long-tells n Unknown k h r s e = tells_back Unknown (Int64 n) (unknown-tells Whole64 (Int64 n) k) r s e
long-tells n (Int64 m) k h r s e = marked (Int64 n) (Int64 m) (signed_decimal n) (signed_decimal m) r s (signed_decimal-marks n k) (signed_decimal-marks m h) (λ same. ap Int64 (signed_decimal-tells n m k h same)) e
long-tells n w k h r s e = absurd h

decimal-value-tells : (n : ℤ) (w : Value) → fits_bits 127 n ≡ true → IsOfKind Decimal w → Tells (Dec n) w
unfolding export_text plain_text
decimal-value-tells n Unknown k h r s e = tells_back Unknown (Dec n) (unknown-tells Decimal (Dec n) k) r s e
decimal-value-tells n (Dec m) k h r s e = marked (Dec n) (Dec m) (decimal_text n) (decimal_text m) r s (decimal_text-marks n k) (decimal_text-marks m h) (λ same. ap Dec (decimal_text-tells n m k h same)) e
decimal-value-tells n w k h r s e = absurd h

truth-tells : (b : Bool) (w : Value) → IsOfKind Truth w → Tells (Logical b) w
unfolding export_text plain_text
truth-tells b Unknown h r s e = tells_back Unknown (Logical b) (unknown-tells Truth (Logical b) tt) r s e
truth-tells true (Logical true) h r s e = record { value = refl; rest = cc }
truth-tells true (Logical false) h r s e = absurd (omega (arith, heads 121 110 (101 ∷ 115 ∷ 10 ∷ r) (111 ∷ 10 ∷ s) e))
truth-tells false (Logical true) h r s e = absurd (omega (arith, heads 110 121 (111 ∷ 10 ∷ r) (101 ∷ 115 ∷ 10 ∷ s) e))
truth-tells false (Logical false) h r s e = record { value = refl; rest = cc }
truth-tells b w h r s e = absurd h

date-tells : (d : ℤ) (w : Value) → is_day d ≡ true → IsOfKind Day w → Tells (Date d) w
unfolding export_text plain_text
date-tells d Unknown k h r s e = tells_back Unknown (Date d) (unknown-tells Day (Date d) k) r s e
date-tells d (Date m) k h r s e =
    marked (Date d) (Date m) (date_text (date_of_day d)) (date_text (date_of_day m)) r s (date_text-marks (date_of_day d)) (date_text-marks (date_of_day m)) (λ same. ap Date (day-tells d m (has_date d k) (has_date m h) same)) e
date-tells d w k h r s e = absurd h

pub value-tells : (kind : Option Kind) (v w : Value) → IsOfField kind v → IsOfField kind w → Tells v w
value-tells None v w h k r s e =
    let c = unknown-tells Character Unknown tt r s (ap (λ u. export_text u ++ 10 ∷ r) (sym h) ∙ e ∙ ap (λ u. export_text u ++ 10 ∷ s) k) in
    record { value = h ∙ sym k; rest = c.rest }
value-tells (Some kind) Unknown w h k r s e = unknown-tells kind w k r s e
value-tells (Some Character) (Text t) w h k r s e = text-tells t w h k r s e
value-tells (Some Integer) (Int n) w h k r s e = int-tells n w h k r s e
value-tells (Some Whole64) (Int64 n) w h k r s e = long-tells n w h k r s e
value-tells (Some Decimal) (Dec n) w h k r s e = decimal-value-tells n w h k r s e
value-tells (Some Truth) (Logical b) w h k r s e = truth-tells b w k r s e
value-tells (Some Day) (Date d) w h k r s e = date-tells d w h k r s e
value-tells (Some kind) v w h k r s e = absurd h
