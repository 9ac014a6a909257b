-- Dates of the years 1 to 9999 of the Gregorian calendar, and their day numbers: 0 is 1 January 1970.
use Rattle.std.specs.Prelude.{ℕ, zero, suc, ◌+◌, ◌-◌, ◌*◌, ◌/◌, ◌%◌, min, Bool, not, ◌&&◌, ◌||◌, ◌==◌, nat_le, nat_lt, if◌then◌else◌, List, [], ◌∷◌, Option, Some, None, ℤ, pos, negsuc, neg_ℤ, ◌+ℤ◌, ◌-ℤ◌, int_le, int_lt, unsigned_abs, IsTrue, ◌≡◌}
use Rattle.abl_base.specs.declared.limits.TheConstants.{FIRST_YEAR, LAST_YEAR, DAYS_BEFORE_1970, LAST_DAY}

-- every fourth year is a leap year, but of the full hundreds only every fourth
abbrev pub is_leap : ℕ → Bool
is_leap year = (year % 4 == 0) && (not (year % 100 == 0) || (year % 400 == 0))

-- the days of the months of a year, from January on
abbrev pub months_of : ℕ → List ℕ
months_of year =
    31 ∷ (if is_leap year then 29 else 28) ∷ 31 ∷ 30 ∷ 31 ∷ 30 ∷ 31 ∷ 31 ∷ 30 ∷ 31 ∷ 30 ∷ 31 ∷ []

-- the days of the years 1 to `years`
abbrev pub days_of_years : ℕ → ℕ
days_of_years years = ((365 * years + years / 4) - years / 100) + years / 400

-- the days of the first `n` of these months
abbrev pub days_of_first : List ℕ → ℕ → ℕ
days_of_first months zero = 0
days_of_first [] (suc n) = 0
days_of_first (days ∷ months) (suc n) = days + days_of_first months n

-- the length of the n-th of these months, counted from 0, and 0 where there is none
abbrev pub length_at : List ℕ → ℕ → ℕ
length_at [] n = 0
length_at (days ∷ months) zero = days
length_at (days ∷ months) (suc n) = length_at months n

-- a day of the calendar
pub record CivilDate : Type 0 where
  pub year : ℕ
  pub month : ℕ
  pub day : ℕ

-- the year is one of 1 to 9999, the month one of its twelve, the day one of the month's
abbrev pub is_civil : CivilDate → Bool
is_civil d =
    (nat_le FIRST_YEAR d.year && nat_le d.year LAST_YEAR) && (nat_le 1 d.month && nat_le d.month 12)
    && (nat_le 1 d.day && nat_le d.day (length_at (months_of d.year) (d.month - 1)))

-- how many days lie from 1 January of the year 1 to the date
abbrev pub days_before : CivilDate → ℕ
days_before d =
    days_of_years (d.year - 1) + days_of_first (months_of d.year) (d.month - 1) + (d.day - 1)

-- the day number of a date
unfoldable pub day_number : CivilDate → ℤ
day_number d = pos (days_before d) -ℤ pos DAYS_BEFORE_1970

-- the day numbers of 1 January of the year 1 and of 31 December 9999
abbrev pub first_day : ℤ
first_day = neg_ℤ (pos DAYS_BEFORE_1970)

abbrev pub last_day : ℤ
last_day = pos LAST_DAY

-- a day of the years 1 to 9999
abbrev pub is_day : ℤ → Bool
is_day day = int_le first_day day && int_le day last_day

-- the date's day number, and none where the three numbers are no date
unfoldable pub date_from : ℤ → ℤ → ℤ → Option ℤ
date_from (pos month) (pos day) (pos year) =
    (let d : CivilDate = record { year = year; month = month; day = day } in
    if is_civil d then Some (day_number d) else None)
date_from (negsuc month) day year = None
date_from (pos month) (negsuc day) year = None
date_from (pos month) (pos day) (negsuc year) = None

-- the day itself, or the nearest one of the years 1 to 9999
abbrev pub nearest_day : ℤ → ℤ
nearest_day day = if int_lt day first_day then first_day else (if int_lt last_day day then last_day else day)

-- the month in which the n-th day, counted from 0, of these months lies, and that day's number in it, both from 1
abbrev pub month_and_day : List ℕ → ℕ → ℕ → ℕ × ℕ
month_and_day [] month n = (month, n + 1)
month_and_day (days ∷ months) month n =
    if nat_lt n days then (month, n + 1) else month_and_day months (month + 1) (n - days)

-- the date this number of days after 1 January of the year 1, by the cycles of 400, 100, 4 and 1 years:
-- 400 years have 146,097 days, 100 have 36,524 and one more at the end of the 400, four have 1,461 save at the end of a hundred
unfoldable pub date_after : ℕ → CivilDate
date_after n =
    (let in_400 : ℕ = n % 146097 in
    let hundreds : ℕ = min 3 (in_400 / 36524) in
    let in_100 : ℕ = in_400 - hundreds * 36524 in
    let in_4 : ℕ = in_100 % 1461 in
    let ones : ℕ = min 3 (in_4 / 365) in
    let year : ℕ = (400 * (n / 146097) + 100 * hundreds + 4 * (in_100 / 1461) + ones) + 1 in
    let found : ℕ × ℕ = month_and_day (months_of year) 1 (in_4 - ones * 365) in
    record { year = year; month = found.0; day = found.1 })

-- the date of a day of the years 1 to 9999
unfoldable pub date_in_years : ℤ → CivilDate
date_in_years day = date_after (unsigned_abs (day +ℤ pos DAYS_BEFORE_1970))

-- the date of a day number, or of the nearest day of the years 1 to 9999
unfoldable pub date_of_day : ℤ → CivilDate
date_of_day day = date_in_years (nearest_day day)

-- the day has a date of the calendar, whose number it is
pub record HasDate (day : ℤ) : Type 0 where
  pub civil : IsTrue (is_civil (date_of_day day))
  pub number : day_number (date_of_day day) ≡ day
