-- The day number of a date leads back to the date.
use Rattle.std.proofs.Common.{◌≡◌, inl, inr, ℕ, zero, suc, ◌+◌, ◌-◌, ◌/◌, ◌%◌, ◌<◌, ◌≤◌, true, nat_le, ◌&&◌, pos, ◌-ℤ◌, ap, ◌∙◌, arith}
use Rattle.std.proofs.lemmas.Int.{ints}
use Rattle.std.proofs.lemmas.Bool.{and_parts}
use Rattle.abl_values.specs.Dates.{CivilDate, is_civil, days_of_years, days_of_first, length_at, months_of, days_before, day_number, nearest_day, date_after, date_in_years, date_of_day}
use Rattle.abl_values.proofs.Days.{MayEnd, test_le, before_is, year_bound, february_ends, abs_of_day, date_after-days_before}

-- the numbers of a date stand in their ranges
pub record Parts (y m d : ℕ) : Type 0 where
  pub year_low : 1 ≤ y
  pub year_high : y ≤ 9999
  pub month_low : 1 ≤ m
  pub month_high : m ≤ 12
  pub day_low : 1 ≤ d
  pub day_high : d ≤ length_at (months_of y) (m - 1)

pub parts_of : (y m d : ℕ) → is_civil (record { year = y; month = m; day = d }) ≡ true → Parts y m d
parts_of y m d h =
    let a = and_parts ((nat_le 1 y && nat_le y 9999) && (nat_le 1 m && nat_le m 12)) (nat_le 1 d && nat_le d (length_at (months_of y) (m - 1))) h in
    let b = and_parts (nat_le 1 y && nat_le y 9999) (nat_le 1 m && nat_le m 12) a.0 in
    let ys = and_parts (nat_le 1 y) (nat_le y 9999) b.0 in
    let ms = and_parts (nat_le 1 m) (nat_le m 12) b.1 in
    let ds = and_parts (nat_le 1 d) (nat_le d (length_at (months_of y) (m - 1))) a.1 in
    record {
      year_low = test_le 1 y ys.0;
      year_high = test_le y 9999 ys.1;
      month_low = test_le 1 m ms.0;
      month_high = test_le m 12 ms.1;
      day_low = test_le 1 d ds.0;
      day_high = test_le d (length_at (months_of y) (m - 1)) ds.1;
    }

-- a day of the years 1 to 9999 lies before 1 January of the year 10000
last_room : (k doy : ℕ) → k ≤ 9998 → doy < 366 → MayEnd (k % 400 / 100) (k % 100 / 4) (k % 4) doy → days_of_years k + doy ≤ 3652058
last_room k doy hk hd leap = elim leap [ inl h ↦ omega arith | inr h ↦ omega (arith, h.0) ]

-- a day of the years 1 to 9999 is the nearest one
pub nearest_itself : (b : ℕ) → b ≤ 3652058 → nearest_day (pos b -ℤ pos 719162) ≡ pos b -ℤ pos 719162
nearest_itself b h = grind (arith, ints)

reads_back : (y m d : ℕ) → is_civil (record { year = y; month = m; day = d }) ≡ true
    → date_of_day (day_number (record { year = y; month = m; day = d })) ≡ record { year = y; month = m; day = d }
unfolding date_of_day date_in_years day_number
reads_back (suc k) (suc j) (suc i) h =
    let p = parts_of (suc k) (suc j) (suc i) h in
    let jm : suc j - 1 ≡ j = omega arith in
    let hj : j < 12 = omega (arith, p.month_high) in
    let room : i < length_at (months_of (suc k)) j = omega (arith, p.day_high, ap (λ (z : ℕ). length_at (months_of (suc k)) z) jm) in
    let doy : ℕ = days_of_first (months_of (suc k)) j + i in
    let ends = february_ends k doy (omega (arith, year_bound (suc k) j hj)) in
    let b : ℕ = days_before (record { year = suc k; month = suc j; day = suc i }) in
    let counted : b ≡ days_of_years k + days_of_first (months_of (suc k)) j + i = before_is k j i in
    let low : b ≤ 3652058 = omega (arith, counted, last_room k doy (omega (arith, p.year_high)) ends.0 ends.1) in
    ap date_in_years (nearest_itself b low) ∙ ap date_after (abs_of_day b ∙ counted) ∙ date_after-days_before k j i hj room
reads_back zero m d h = absurd (omega (arith, (parts_of zero m d h).year_low))
reads_back (suc k) zero d h = absurd (omega (arith, (parts_of (suc k) zero d h).month_low))
reads_back (suc k) (suc j) zero h = absurd (omega (arith, (parts_of (suc k) (suc j) zero h).day_low))

pub day_reads_back : (d : CivilDate) → is_civil d ≡ true → date_of_day (day_number d) ≡ d
day_reads_back d h = reads_back d.year d.month d.day h
