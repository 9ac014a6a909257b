-- Each day of the years 1 to 9999 has a date, whose number it is.
use Rattle.std.proofs.Common.{◌≡◌, ℕ, zero, suc, ◌+◌, ◌-◌, ◌<◌, ◌≤◌, ◌⊎◌, inl, inr, Bool, true, false, nat_le, if◌then◌else◌, List, [], ◌∷◌, ℤ, pos, negsuc, ◌-ℤ◌, refl, sym, ap, ◌∙◌, subst, arith}
use Rattle.std.proofs.lemmas.Int.{ints}
use Rattle.std.proofs.lemmas.Bool.{cases_lt, le-leb}
use Rattle.std.proofs.lemmas.Bool.Decides.{nat_tests}
use Rattle.abl_values.specs.Dates.{HasDate, is_leap, months_of, days_of_years, days_of_first, length_at, day_number, is_civil, is_day, date_after, date_in_years, date_of_day}
use Rattle.abl_values.proofs.Days.{all_tests, abs_of_day, before_is, date_after-days_before}
use Rattle.abl_values.proofs.DateLaws.{nearest_itself}

-- ---- the place of a day in the calendar

february_of : Bool → ℕ
february_of leap = if leap then 29 else 28

february_long : (leap : Bool) → 28 ≤ february_of leap
unfolding february_of
february_long true = omega arith
february_long false = omega arith

-- a month has a day
month_long : (y j : ℕ) → j < 12 → 0 < length_at (months_of y) j
unfolding february_of
month_long y zero h = omega arith
month_long y (suc zero) h = omega (arith, february_long (is_leap y))
month_long y (suc (suc zero)) h = omega arith
month_long y (suc (suc (suc zero))) h = omega arith
month_long y (suc (suc (suc (suc zero)))) h = omega arith
month_long y (suc (suc (suc (suc (suc zero))))) h = omega arith
month_long y (suc (suc (suc (suc (suc (suc zero)))))) h = omega arith
month_long y (suc (suc (suc (suc (suc (suc (suc zero))))))) h = omega arith
month_long y (suc (suc (suc (suc (suc (suc (suc (suc zero)))))))) h = omega arith
month_long y (suc (suc (suc (suc (suc (suc (suc (suc (suc zero))))))))) h = omega arith
month_long y (suc (suc (suc (suc (suc (suc (suc (suc (suc (suc zero)))))))))) h = omega arith
month_long y (suc (suc (suc (suc (suc (suc (suc (suc (suc (suc (suc zero))))))))))) h = omega arith
month_long y (suc (suc (suc (suc (suc (suc (suc (suc (suc (suc (suc (suc j)))))))))))) h = absurd (omega arith)

-- and at most 31
pub month_short : (y j : ℕ) → length_at (months_of y) j ≤ 31
unfolding february_of
month_short y zero = omega arith
month_short y (suc zero) = omega (arith, february_short (is_leap y))
  where
    february_short : (leap : Bool) → february_of leap ≤ 31
    february_short true = omega arith
    february_short false = omega arith
month_short y (suc (suc zero)) = omega arith
month_short y (suc (suc (suc zero))) = omega arith
month_short y (suc (suc (suc (suc zero)))) = omega arith
month_short y (suc (suc (suc (suc (suc zero))))) = omega arith
month_short y (suc (suc (suc (suc (suc (suc zero)))))) = omega arith
month_short y (suc (suc (suc (suc (suc (suc (suc zero))))))) = omega arith
month_short y (suc (suc (suc (suc (suc (suc (suc (suc zero)))))))) = omega arith
month_short y (suc (suc (suc (suc (suc (suc (suc (suc (suc zero))))))))) = omega arith
month_short y (suc (suc (suc (suc (suc (suc (suc (suc (suc (suc zero)))))))))) = omega arith
month_short y (suc (suc (suc (suc (suc (suc (suc (suc (suc (suc (suc zero))))))))))) = omega arith
month_short y (suc (suc (suc (suc (suc (suc (suc (suc (suc (suc (suc (suc j)))))))))))) = omega arith

first_more : (months : List ℕ) (j : ℕ) → days_of_first months (suc j) ≡ days_of_first months j + length_at months j
first_more [] zero = omega arith
first_more [] (suc j) = omega arith
first_more (days ∷ months) zero = omega arith
first_more (days ∷ months) (suc j) = omega (arith, first_more months j)

year_days : (leap : Bool) → ℕ
year_days leap = if leap then 366 else 365

year_sum : (leap : Bool) (feb : ℕ) → feb ≡ february_of leap → 31 + (feb + 306) ≡ year_days leap
unfolding february_of year_days
year_sum true feb e = omega arith
year_sum false feb e = omega arith

days_of_year : (y : ℕ) → days_of_first (months_of y) 12 ≡ year_days (is_leap y)
unfolding february_of
days_of_year y = omega (arith, year_sum (is_leap y) (if is_leap y then 29 else 28) refl)

years_more : (k : ℕ) → days_of_years (suc k) ≡ days_of_years k + year_days (is_leap (suc k))
unfolding year_days
years_more k = grind (arith, nat_tests)

-- the n-th day from 1 January of the year 1, counted from 0, is in this year, month and place, each counted from 0
record Place (n : ℕ) : Type 0 where
  year : ℕ
  month : ℕ
  day : ℕ
  in_year : month < 12
  in_month : day < length_at (months_of (suc year)) month
  counted : n ≡ days_of_years year + days_of_first (months_of (suc year)) month + day

next_month : (n k j i : ℕ) → j < 12 → n ≡ days_of_years k + days_of_first (months_of (suc k)) j + i → length_at (months_of (suc k)) j ≡ i + 1 → (suc j < 12) ⊎ (12 ≤ suc j) → Place (suc n)
next_month n k j i h c e (inl more) = record {
  year = k;
  month = suc j;
  day = 0;
  in_year = more;
  in_month = month_long (suc k) (suc j) more;
  counted = omega (arith, first_more (months_of (suc k)) j);
}
next_month n k j i h c e (inr last) =
    let is : suc j ≡ 12 = omega arith in
    let whole : days_of_first (months_of (suc k)) 12 ≡ days_of_first (months_of (suc k)) j + length_at (months_of (suc k)) j =
    ap (days_of_first (months_of (suc k))) (sym is) ∙ first_more (months_of (suc k)) j in
    record {
      year = suc k;
      month = 0;
      day = 0;
      in_year = omega arith;
      in_month = month_long (suc (suc k)) 0 (omega arith);
      counted = omega (arith, whole, days_of_year (suc k), years_more k);
    }

next_day : (n k j i : ℕ) → j < 12 → i < length_at (months_of (suc k)) j → n ≡ days_of_years k + days_of_first (months_of (suc k)) j + i → (i + 1 < length_at (months_of (suc k)) j) ⊎ (length_at (months_of (suc k)) j ≤ i + 1) → Place (suc n)
next_day n k j i h m c (inl more) = record { year = k; month = j; day = i + 1; in_year = h; in_month = more; counted = omega arith }
next_day n k j i h m c (inr last) = next_month n k j i h c (omega arith) (cases_lt (suc j) 12)

place_of : (n : ℕ) → Place n
place_of zero = record { year = 0; month = 0; day = 0; in_year = omega arith; in_month = month_long 1 0 (omega arith); counted = refl }
place_of (suc n) =
    let p = place_of n in
    next_day n p.year p.month p.day p.in_year p.in_month p.counted (cases_lt (p.day + 1) (length_at (months_of (suc p.year)) p.month))

-- ---- the date of a day

years_grow : (k : ℕ) → 9999 ≤ k → 3652059 ≤ days_of_years k
years_grow k h = omega arith

year_low : (n k : ℕ) → n ≤ 3652058 → days_of_years k ≤ n → k ≤ 9998
year_low n k h low = elim (cases_lt k 9999) [ inl a ↦ omega arith | inr a ↦ absurd (omega (arith, years_grow k a)) ]

month_lengths : (y j : ℕ) → length_at (months_of y) (suc j - 1) ≡ length_at (months_of y) j
month_lengths y j =
    let e : suc j - 1 ≡ j = omega arith in
    ap (length_at (months_of y)) e

civil_of : (k j i : ℕ) → k ≤ 9998 → j < 12 → i < length_at (months_of (suc k)) j → is_civil (record { year = suc k; month = suc j; day = suc i }) ≡ true
civil_of k j i hk hj hi =
    let room : suc i ≤ length_at (months_of (suc k)) (suc j - 1) = omega (arith, month_lengths (suc k) j) in
    all_tests (nat_le 1 (suc k)) (nat_le (suc k) 9999) (nat_le 1 (suc j)) (nat_le (suc j) 12) (nat_le 1 (suc i)) (nat_le (suc i) (length_at (months_of (suc k)) (suc j - 1)))
    (le-leb 1 (suc k) (omega arith)) (le-leb (suc k) 9999 (omega arith)) (le-leb 1 (suc j) (omega arith)) (le-leb (suc j) 12 (omega arith)) (le-leb 1 (suc i) (omega arith)) (le-leb (suc i) (length_at (months_of (suc k)) (suc j - 1)) room)

-- a day of the years 1 to 9999 by its number from 1 January of the year 1
record Counted (day : ℤ) : Type 0 where
  n : ℕ
  low : n ≤ 3652058
  is : day ≡ pos n -ℤ pos 719162

counted_of : (day : ℤ) → is_day day ≡ true → Counted day
counted_of (pos m) h = record { n = m + 719162; low = grind (arith, ints, nat_tests); is = grind (arith, ints) }
counted_of (negsuc m) h = record { n = 719161 - m; low = omega arith; is = grind (arith, ints, nat_tests) }

dated_at : (n : ℕ) → n ≤ 3652058 → HasDate (pos n -ℤ pos 719162)
unfolding date_of_day date_in_years day_number
dated_at n h =
    let p = place_of n in
    let day : ℤ = pos n -ℤ pos 719162 in
    let date : date_of_day day ≡ record { year = suc p.year; month = suc p.month; day = suc p.day } =
    ap date_in_years (nearest_itself n h) ∙ ap date_after (abs_of_day n ∙ p.counted) ∙ date_after-days_before p.year p.month p.day p.in_year p.in_month in
    let years : p.year ≤ 9998 = year_low n p.year h (omega (arith, p.counted)) in
    record {
      civil = ap is_civil date ∙ civil_of p.year p.month p.day years p.in_year p.in_month;
      number = ap day_number date ∙ ap (λ (k : ℕ). pos k -ℤ pos 719162) (before_is p.year p.month p.day ∙ sym p.counted);
    }

pub has_date : (day : ℤ) → is_day day ≡ true → HasDate day
has_date day h =
    let c = counted_of day h in
    subst HasDate (sym c.is) (dated_at c.n c.low)
