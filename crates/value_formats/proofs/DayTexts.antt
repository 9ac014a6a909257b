-- The text of a day's date denotes the day.
use Rattle.std.proofs.Common.{◌≡◌, ℕ, ◌+◌, ◌-◌, ◌%◌, ◌^◌, ◌<◌, ◌≤◌, Bool, true, false, ◌&&◌, nat_le, nat_lt, if◌then◌else◌, List, ◌∷◌, ◌++◌, Some, None, ℤ, pos, refl, ap, ◌∙◌, arith}
use Rattle.std.specs.List.{list_all}
use Rattle.std.proofs.lemmas.Bool.{and_parts}
use Rattle.std.proofs.lemmas.Bool.Decides.{nat_tests}
use Rattle.abl_values.specs.Dates.{CivilDate, day_number, is_civil, is_day, date_from, date_of_day}
use Rattle.abl_values.specs.Masks.{is_digit}
use Rattle.abl_values.specs.Digits.{from_first_not, number_of}
use Rattle.abl_values.specs.Texts.{date_text, last_digits, year_text}
use Rattle.abl_values.proofs.DateLaws.{parts_of}
use Rattle.abl_values.proofs.DayDates.{has_date, month_short}
use Rattle.text_values.specs.TextValues.{after_slash, date_in, dated, with_day, with_year, year_of}
use Rattle.value_formats.proofs.Spelled.{behind_digits, digits_before, last_are, last_number}

-- ---- the text of a date

number_2 : (n : ℕ) → n < 100 → number_of (last_digits 2 n) ≡ n
number_2 n h =
    let room : n < 10 ^ 2 = omega arith in
    last_number 2 n room

number_4 : (n : ℕ) → n < 10000 → number_of (last_digits 4 n) ≡ n
number_4 n h =
    let room : n < 10 ^ 4 = omega arith in
    last_number 4 n room

pub year_digits : (year : ℕ) → list_all is_digit (year_text year) ≡ true
year_digits year = by_age (nat_le 1950 year && nat_le year 2049)
  where
    by_age : (t : Bool) → list_all is_digit (if t then last_digits 2 year else last_digits 4 year) ≡ true
    by_age true = last_are 2 year
    by_age false = last_are 4 year

century : (y r : ℕ) → 1950 ≤ y → y ≤ 2049 → r ≡ y % 100 → (if nat_lt (1900 + r) 1950 then 2000 + r else 1900 + r) ≡ y
century y r low high e = grind (arith, nat_tests)

two_digits : (n : ℕ) → number_of (last_digits 2 n) ≡ n % 100
two_digits n = omega arith

year_back : (year : ℕ) → year ≤ 9999 → year_of (year_text year) ≡ Some year
year_back year h = by_age (nat_le 1950 year && nat_le year 2049) refl
  where
    by_age : (t : Bool) → nat_le 1950 year && nat_le year 2049 ≡ t → year_of (if t then last_digits 2 year else last_digits 4 year) ≡ Some year
    by_age true e =
        let both = and_parts (nat_le 1950 year) (nat_le year 2049) e in
        let low : 1950 ≤ year = grind (arith, nat_tests) in
        let high : year ≤ 2049 = grind (arith, nat_tests) in
        ap (λ (y : ℕ). Some y) (century year (number_of (last_digits 2 year)) low high (two_digits year))
    by_age false e = ap (λ (y : ℕ). Some y) (number_4 year (omega arith))

with_year_back : (m d year : ℕ) → year ≤ 9999 → with_year (last_digits 2 m) (last_digits 2 d) (Some (year_text year)) ≡ dated (last_digits 2 m) (last_digits 2 d) (Some year)
with_year_back m d year h =
    ap (λ (t : Bool). if t then dated (last_digits 2 m) (last_digits 2 d) (year_of (year_text year)) else None) (year_digits year)
    ∙ ap (dated (last_digits 2 m) (last_digits 2 d)) (year_back year h)

parts_back : (m d year : ℕ) → year ≤ 9999 → date_in (date_text (record { year = year; month = m; day = d })) ≡ dated (last_digits 2 m) (last_digits 2 d) (Some year)
parts_back m d year h =
    let text_2 : List ℕ = last_digits 2 d ++ 47 ∷ year_text year in
    ap (λ (x : List ℕ). with_day x (after_slash (from_first_not is_digit (last_digits 2 m ++ 47 ∷ text_2)))) (digits_before (last_digits 2 m) (47 ∷ text_2) (last_are 2 m) refl)
    ∙ ap (λ (x : List ℕ). with_day (last_digits 2 m) (after_slash x)) (behind_digits (last_digits 2 m) (47 ∷ text_2) (last_are 2 m) refl)
    ∙ ap (λ (x : List ℕ). with_year (last_digits 2 m) x (after_slash (from_first_not is_digit text_2))) (digits_before (last_digits 2 d) (47 ∷ year_text year) (last_are 2 d) refl)
    ∙ ap (λ (x : List ℕ). with_year (last_digits 2 m) (last_digits 2 d) (after_slash x)) (behind_digits (last_digits 2 d) (47 ∷ year_text year) (last_are 2 d) refl)
    ∙ with_year_back m d year h

date_back : (d : CivilDate) → is_civil d ≡ true → date_in (date_text d) ≡ Some (day_number d)
unfolding date_from
date_back d h =
    let p = parts_of d.year d.month d.day h in
    parts_back d.month d.day d.year p.year_high
    ∙ ap (λ (m : ℕ). date_from (pos m) (pos (number_of (last_digits 2 d.day))) (pos d.year)) (number_2 d.month (omega (arith, p.month_high)))
    ∙ ap (λ (n : ℕ). date_from (pos d.month) (pos n) (pos d.year)) (number_2 d.day (omega (arith, p.day_high, month_short d.year (d.month - 1))))
    ∙ ap (λ (t : Bool). if t then Some (day_number d) else None) h

-- the text of a day's date denotes the day
pub day_back : (day : ℤ) → is_day day ≡ true → date_in (date_text (date_of_day day)) ≡ Some day
day_back day h =
    let d = has_date day h in
    date_back (date_of_day day) d.civil ∙ ap (λ (z : ℤ). Some z) d.number
