-- The day numbers of the definitions are those that the calendar counts.
use Rattle.std.proofs.Common.{◌≡◌, ◌≢◌, ◌⊎◌, inl, inr, not, ◌||◌, ◌==◌, min, nat_lt, ℕ, zero, suc, ◌+◌, ◌-◌, ◌*◌, ◌/◌, ◌%◌, ◌<◌, ◌≤◌, Bool, true, false, cond, ◌&&◌, nat_le, if◌then◌else◌, List, [], ◌∷◌, Some, None, ℤ, pos, negsuc, ◌+ℤ◌, ◌-ℤ◌, ◌≤ℤ◌, ◌<ℤ◌, unsigned_abs, refl, sym, ap, ◌∙◌, arith, subst}
use Rattle.std.proofs.lemmas.Bool.Decides.{nat_tests}
use borrow.Author.Differences.{up, down}
use Rattle.jiff_core.specs.Calendar.{IsDate, IsCivilDate, days_from_civil, day_count, day_of_year, days_of_months, days_in_month, days_in_year}
use Rattle.jiff_core.proofs.CalendarLemmas.{day_count-lt_year, days_in_month_bounds, days_from_civil-day_count, day_count-day_of_year, day_count-next_year}
use Rattle.jiff_core.proofs.MarchLemmas.{day_count-early}
use Rattle.jiff_core.proofs.SignedLemmas.{signed_arith}
use Rattle.std.proofs.lemmas.Bool.{and_parts}
use Rattle.abl_values.specs.Dates.{CivilDate, is_leap, months_of, days_of_years, days_of_first, length_at, days_before, day_number, is_civil, date_from, month_and_day, date_after, date_in_years}

-- 1 January of the year 1, from 1 January of the year -10000
first_year : day_count (pos 1) 1 1 ≡ 3_652_791
first_year = day_count-early (pos 1) 10000 1 1 refl (omega arith) (omega arith) (omega arith)

leap_of : Bool → ℕ
leap_of b = cond b 366 365

days_of_years-suc : (n : ℕ) → days_of_years (suc n) ≡ days_of_years n + days_in_year (pos (suc n))
days_of_years-suc n = grind (arith, nat_tests)

year_count : (n : ℕ) → day_count (pos (suc n)) 1 1 ≡ 3_652_791 + days_of_years n
year_count zero = first_year
year_count (suc n) =
    day_count-next_year (pos (suc n)) (pos (suc (suc n))) (omega (arith, signed_arith)) (omega (arith, signed_arith))
    ∙ ap (λ (k : ℕ). k + days_in_year (pos (suc n))) (year_count n) ∙ omega (arith, days_of_years-suc n)

month_count : (y n : ℕ) → n < 12 → days_of_months (pos y) n ≡ days_of_first (months_of y) n
unfolding days_of_months
month_count y zero h = refl
month_count y (suc zero) h = omega arith
month_count y (suc (suc zero)) h = omega arith
month_count y (suc (suc (suc zero))) h = omega arith
month_count y (suc (suc (suc (suc zero)))) h = omega arith
month_count y (suc (suc (suc (suc (suc zero))))) h = omega arith
month_count y (suc (suc (suc (suc (suc (suc zero)))))) h = omega arith
month_count y (suc (suc (suc (suc (suc (suc (suc zero))))))) h = omega arith
month_count y (suc (suc (suc (suc (suc (suc (suc (suc zero)))))))) h = omega arith
month_count y (suc (suc (suc (suc (suc (suc (suc (suc (suc zero))))))))) h = omega arith
month_count y (suc (suc (suc (suc (suc (suc (suc (suc (suc (suc zero)))))))))) h = omega arith
month_count y (suc (suc (suc (suc (suc (suc (suc (suc (suc (suc (suc zero))))))))))) h = omega arith
month_count y (suc (suc (suc (suc (suc (suc (suc (suc (suc (suc (suc (suc n)))))))))))) h = absurd (omega arith)

counted_from : (z : ℤ) (c b : ℕ) → up z + 4_371_953 ≡ down z + c → c ≡ 3_652_791 + b → z ≡ pos b -ℤ pos 719162
counted_from z c b h e = omega (arith, signed_arith)

pub before_is : (y m d : ℕ) → days_before (record { year = suc y; month = suc m; day = suc d }) ≡ days_of_years y + days_of_first (months_of (suc y)) m + d
before_is y m d =
    let ey : suc y - 1 ≡ y = omega arith in
    let em : suc m - 1 ≡ m = omega arith in
    let ed : suc d - 1 ≡ d = omega arith in
    rw (ey, em, ed) refl

count_is : (y m d : ℕ) → m < 12 → day_count (pos (suc y)) (suc m) (suc d) ≡ 3_652_791 + (days_of_years y + days_of_first (months_of (suc y)) m + d)
count_is y m d h =
    let em : suc m - 1 ≡ m = omega arith in
    let place : day_of_year (pos (suc y)) (suc m) (suc d) ≡ days_of_first (months_of (suc y)) m + suc d =
    ap (λ (k : ℕ). days_of_months (pos (suc y)) k + suc d) em ∙ ap (λ (k : ℕ). k + suc d) (month_count (suc y) m h) in
    let whole = day_count-day_of_year (pos (suc y)) (suc m) (suc d) (omega arith) in
    omega (arith, year_count y)

-- the calendar's day number of a date is the definition's
pub days_from_civil-day_number : (y m d : ℕ) → 1 ≤ y → 1 ≤ m → m ≤ 12 → 1 ≤ d → days_from_civil (pos y) m d ≡ day_number (record { year = y; month = m; day = d })
unfolding day_number
days_from_civil-day_number (suc y) (suc m) (suc d) hy hm hl hd =
    counted_from (days_from_civil (pos (suc y)) (suc m) (suc d)) (day_count (pos (suc y)) (suc m) (suc d)) (days_before (record { year = suc y; month = suc m; day = suc d }))
    (days_from_civil-day_count (pos (suc y)) (suc m) (suc d)) (count_is y m d (omega arith) ∙ ap (λ (k : ℕ). 3_652_791 + k) (sym (before_is y m d)))
days_from_civil-day_number zero m d hy hm hl hd = absurd (omega arith)
days_from_civil-day_number (suc y) zero d hy hm hl hd = absurd (omega arith)
days_from_civil-day_number (suc y) (suc m) zero hy hm hl hd = absurd (omega arith)

-- ---- which numbers are a date

length_is : (y m : ℕ) → 1 ≤ m → m ≤ 12 → length_at (months_of y) (m - 1) ≡ days_in_month (pos y) m
length_is y (suc zero) l h = refl
length_is y (suc (suc zero)) l h = refl
length_is y (suc (suc (suc zero))) l h = refl
length_is y (suc (suc (suc (suc zero)))) l h = refl
length_is y (suc (suc (suc (suc (suc zero))))) l h = refl
length_is y (suc (suc (suc (suc (suc (suc zero)))))) l h = refl
length_is y (suc (suc (suc (suc (suc (suc (suc zero))))))) l h = refl
length_is y (suc (suc (suc (suc (suc (suc (suc (suc zero)))))))) l h = refl
length_is y (suc (suc (suc (suc (suc (suc (suc (suc (suc zero))))))))) l h = refl
length_is y (suc (suc (suc (suc (suc (suc (suc (suc (suc (suc zero)))))))))) l h = refl
length_is y (suc (suc (suc (suc (suc (suc (suc (suc (suc (suc (suc zero))))))))))) l h = refl
length_is y (suc (suc (suc (suc (suc (suc (suc (suc (suc (suc (suc (suc zero)))))))))))) l h = refl
length_is y zero l h = absurd (omega arith)
length_is y (suc (suc (suc (suc (suc (suc (suc (suc (suc (suc (suc (suc (suc n))))))))))))) l h = absurd (omega arith)

pub all_tests : (a b c d e f : Bool) → a ≡ true → b ≡ true → c ≡ true → d ≡ true → e ≡ true → f ≡ true → ((a && b) && (c && d)) && (e && f) ≡ true
all_tests a b c d e f ha hb hc hd he hf = rw (ha, hb, hc, hd, he, hf) refl

le_test : (m n : ℕ) → m ≤ n → nat_le m n ≡ true
le_test m n h = grind (arith, nat_tests)

pub test_le : (m n : ℕ) → nat_le m n ≡ true → m ≤ n
test_le m n h = grind (arith, nat_tests)

civil_test : (y m d : ℕ) → 1 ≤ y → y ≤ 9999 → 1 ≤ m → m ≤ 12 → 1 ≤ d → d ≤ days_in_month (pos y) m → is_civil (record { year = y; month = m; day = d }) ≡ true
civil_test y m d y1 y2 m1 m2 d1 d2 =
    let len : d ≤ length_at (months_of y) (m - 1) = subst (λ (k : ℕ). d ≤ k) (sym (length_is y m m1 m2)) d2 in
    all_tests (nat_le 1 y) (nat_le y 9999) (nat_le 1 m) (nat_le m 12) (nat_le 1 d) (nat_le d (length_at (months_of y) (m - 1)))
    (le_test 1 y y1) (le_test y 9999 y2) (le_test 1 m m1) (le_test m 12 m2) (le_test 1 d d1) (le_test d (length_at (months_of y) (m - 1)) len)

-- three numbers that the calendar takes
pub date_found : (yr : ℤ) (mo da : ℕ) (month day year : ℤ) → pos 1 ≤ℤ year → year ≤ℤ pos 9999 → yr ≡ year → pos mo ≡ month → pos da ≡ day → 1 ≤ mo → mo ≤ 12 → 1 ≤ da → da ≤ days_in_month yr mo → date_from month day year ≡ Some (days_from_civil yr mo da)
unfolding date_from
date_found (negsuc n) mo da month day year y1 y2 ey em ed m1 m2 d1 d2 = absurd (omega (arith, signed_arith))
date_found (pos y) mo da month day year y1 y2 ey em ed m1 m2 d1 d2 =
    let low : 1 ≤ y = omega (arith, signed_arith) in
    let high : y ≤ 9999 = omega (arith, signed_arith) in
    let test = civil_test y mo da low high m1 m2 d1 d2 in
    subst (λ z. date_from month day z ≡ Some (days_from_civil (pos y) mo da)) ey
    (subst (λ z. date_from z day (pos y) ≡ Some (days_from_civil (pos y) mo da)) em
    (subst (λ z. date_from (pos mo) z (pos y) ≡ Some (days_from_civil (pos y) mo da)) ed
    (ap (λ b. if b then Some (day_number (record { year = y; month = mo; day = da })) else None) test
    ∙ ap (λ z. Some z) (sym (days_from_civil-day_number y mo da low m1 m2 d1)))))

civil_facts : (y m d : ℕ) → is_civil (record { year = y; month = m; day = d }) ≡ true → IsDate (pos y) (pos m) (pos d)
civil_facts y m d h =
    let a = and_parts ((nat_le 1 y && nat_le y 9999) && (nat_le 1 m && nat_le m 12)) (nat_le 1 d && nat_le d (length_at (months_of y) (m - 1))) h in
    let b = and_parts (nat_le 1 y && nat_le y 9999) (nat_le 1 m && nat_le m 12) a.0 in
    let ys = and_parts (nat_le 1 y) (nat_le y 9999) b.0 in
    let ms = and_parts (nat_le 1 m) (nat_le m 12) b.1 in
    let ds = and_parts (nat_le 1 d) (nat_le d (length_at (months_of y) (m - 1))) a.1 in
    let m1 = test_le 1 m ms.0 in
    let m2 = test_le m 12 ms.1 in
    let y2 = test_le y 9999 ys.1 in
    let d1 = test_le 1 d ds.0 in
    let d2 : d ≤ days_in_month (pos y) m = subst (λ (k : ℕ). d ≤ k) (length_is y m m1 m2) (test_le d (length_at (months_of y) (m - 1)) ds.1) in
    ((omega (arith, signed_arith), omega (arith, signed_arith)), (omega (arith, signed_arith), omega (arith, signed_arith)), (omega (arith, signed_arith), omega (arith, signed_arith)))

civil_year : (y m d : ℕ) → is_civil (record { year = y; month = m; day = d }) ≡ true → pos 1 ≤ℤ pos y
civil_year y m d h =
    let a = and_parts ((nat_le 1 y && nat_le y 9999) && (nat_le 1 m && nat_le m 12)) (nat_le 1 d && nat_le d (length_at (months_of y) (m - 1))) h in
    let b = and_parts (nat_le 1 y && nat_le y 9999) (nat_le 1 m && nat_le m 12) a.0 in
    let y1 = test_le 1 y (and_parts (nat_le 1 y) (nat_le y 9999) b.0).0 in
    omega (arith, signed_arith)

-- a month has at most 31 days, whatever its number
pub no_long_month : (month day year : ℤ) → IsDate year month day → day ≤ℤ pos 31
no_long_month month day year h =
    let bound = (days_in_month_bounds year (unsigned_abs month)).0 in
    omega (arith, signed_arith, h.2.1)

-- three numbers that the calendar does not take
pub date_missing : (month day year : ℤ) → (IsDate year month day → pos 1 ≤ℤ year → ⊥) → date_from month day year ≡ None
unfolding date_from
date_missing (pos m) (pos d) (pos y) h = by_test (is_civil (record { year = y; month = m; day = d })) refl
  where
    by_test : (b : Bool) → is_civil (record { year = y; month = m; day = d }) ≡ b → (if b then Some (day_number (record { year = y; month = m; day = d })) else None) ≡ None
    by_test true e = absurd (h (civil_facts y m d e) (civil_year y m d e))
    by_test false e = refl
date_missing (negsuc m) day year h = refl
date_missing (pos m) (negsuc d) year h = refl
date_missing (pos m) (pos d) (negsuc y) h = refl

-- ---- the date of a day number

pair_of : (a b c d : ℕ) → a ≡ c → b ≡ d → ◌≡◌ {A = ℕ × ℕ} (a, b) (c, d)
pair_of a b c d e f = ap (λ (k : ℕ). (k, b)) e ∙ ap (λ (k : ℕ). (c, k)) f

-- the n-th day of a year, counted from 0, is found in its month
month_found : (months : List ℕ) (first j i : ℕ) → i < length_at months j → month_and_day months first (days_of_first months j + i) ≡ (first + j, i + 1)
month_found [] first j i h = absurd (omega arith)
month_found (days ∷ months) first zero i h =
    let test : nat_lt (0 + i) days ≡ true = grind (arith, nat_tests) in
    rw test (pair_of first ((0 + i) + 1) (first + 0) (i + 1) (omega arith) (omega arith))
month_found (days ∷ months) first (suc j) i h =
    let test : nat_lt ((days + days_of_first months j) + i) days ≡ false = grind (arith, nat_tests) in
    let left : ((days + days_of_first months j) + i) - days ≡ days_of_first months j + i = omega arith in
    rw (test, left) (month_found months (first + 1) j i h ∙ pair_of ((first + 1) + j) (i + 1) (first + suc j) (i + 1) (omega arith) refl)

-- the cycles of years. The 366th day of a year is one of a leap year
abbrev pub MayEnd : ℕ → ℕ → ℕ → ℕ → Type 0
MayEnd b c e doy = (doy < 365) ⊎ ((e ≡ 3) × ((c < 24) ⊎ (b ≡ 3)))

centuries : (b c e doy : ℕ) → b < 4 → c < 25 → e < 4 → doy < 366 → MayEnd b c e doy → min 3 ((36524 * b + (1461 * c + (365 * e + doy))) / 36524) ≡ b
centuries b c e doy hb hc he hd leap = elim leap [ inl h ↦ omega arith | inr h ↦ elim h.1 [ inl k ↦ omega arith | inr k ↦ omega arith ] ]

fours : (c e doy : ℕ) → c < 25 → e < 4 → doy < 366 → 365 * e + doy < 1461 → (1461 * c + (365 * e + doy)) / 1461 ≡ c
fours c e doy hc he hd room = omega arith

fours_rest : (c e doy : ℕ) → 365 * e + doy < 1461 → (1461 * c + (365 * e + doy)) % 1461 ≡ 365 * e + doy
fours_rest c e doy room = omega arith

ones_of : (b c e doy : ℕ) → e < 4 → doy < 366 → MayEnd b c e doy → min 3 ((365 * e + doy) / 365) ≡ e
ones_of b c e doy he hd leap = elim leap [ inl h ↦ omega arith | inr h ↦ omega (arith, h.0) ]

-- the years before a year, by cycles
by_cycles : (k : ℕ) → days_of_years k ≡ 146097 * (k / 400) + (36524 * (k % 400 / 100) + (1461 * (k % 100 / 4) + 365 * (k % 4)))
by_cycles k = omega arith

year_of : (k : ℕ) → 400 * (k / 400) + 100 * (k % 400 / 100) + 4 * (k % 100 / 4) + k % 4 ≡ k
year_of k = omega arith

pub february : ℕ → ℕ
february y = if is_leap y then 29 else 28

pub year_bound : (y j : ℕ) → j < 12 → days_of_first (months_of y) j + length_at (months_of y) j ≤ 337 + february y
unfolding february
year_bound y zero h = omega arith
year_bound y (suc zero) h = omega arith
year_bound y (suc (suc zero)) h = omega arith
year_bound y (suc (suc (suc zero))) h = omega arith
year_bound y (suc (suc (suc (suc zero)))) h = omega arith
year_bound y (suc (suc (suc (suc (suc zero))))) h = omega arith
year_bound y (suc (suc (suc (suc (suc (suc zero)))))) h = omega arith
year_bound y (suc (suc (suc (suc (suc (suc (suc zero))))))) h = omega arith
year_bound y (suc (suc (suc (suc (suc (suc (suc (suc zero)))))))) h = omega arith
year_bound y (suc (suc (suc (suc (suc (suc (suc (suc (suc zero))))))))) h = omega arith
year_bound y (suc (suc (suc (suc (suc (suc (suc (suc (suc (suc zero)))))))))) h = omega arith
year_bound y (suc (suc (suc (suc (suc (suc (suc (suc (suc (suc (suc zero))))))))))) h = omega arith
year_bound y (suc (suc (suc (suc (suc (suc (suc (suc (suc (suc (suc (suc n)))))))))))) h = absurd (omega arith)

either_true : (a b : Bool) → (not a || b) ≡ true → (a ≡ false) ⊎ (b ≡ true)
either_true false b h = inl refl
either_true true b h = inr h

eq_of_test : (m n : ℕ) → (m == n) ≡ true → m ≡ n
eq_of_test m n h = grind (arith, nat_tests)

ne_of_test : (m n : ℕ) → (m == n) ≡ false → m ≢ n
ne_of_test m n h = grind (arith, nat_tests)

leap_cases : (y : ℕ) → is_leap y ≡ true → (y % 4 ≡ 0) × ((y % 100 ≢ 0) ⊎ (y % 400 ≡ 0))
leap_cases y h =
    let both = and_parts (y % 4 == 0) (not (y % 100 == 0) || (y % 400 == 0)) h in
    (eq_of_test (y % 4) 0 both.0, elim (either_true (y % 100 == 0) (y % 400 == 0) both.1) [ inl e ↦ inl (ne_of_test (y % 100) 0 e) | inr e ↦ inr (eq_of_test (y % 400) 0 e) ])

-- a date of this year, from a month and a day
made : ℕ → ℕ × ℕ → CivilDate
made y found = record { year = y; month = found.0; day = found.1 }

pub february_ends : (k doy : ℕ) → doy < 337 + february (suc k) → (doy < 366) × MayEnd (k % 400 / 100) (k % 100 / 4) (k % 4) doy
unfolding february
february_ends k doy h = by_leap (is_leap (suc k)) refl h
  where
    by_leap : (t : Bool) → is_leap (suc k) ≡ t → doy < 337 + (if t then 29 else 28) → (doy < 366) × MayEnd (k % 400 / 100) (k % 100 / 4) (k % 4) doy
    by_leap false e h = (omega arith, inl (omega arith))
    by_leap true e h =
        let t = leap_cases (suc k) e in
        let four : k % 4 ≡ 3 = omega (arith, t.0) in
        (omega arith, inr (four, elim t.1 [ inl f ↦ inl (omega (arith, f)) | inr f ↦ inr (omega (arith, f)) ]))

-- a date found by the cycles
by_cycle : (n a b c e doy : ℕ) → n ≡ 146097 * a + (36524 * b + (1461 * c + (365 * e + doy))) → b < 4 → c < 25 → e < 4 → doy < 366 → MayEnd b c e doy
    → date_after n ≡ record { year = (400 * a + 100 * b + 4 * c + e) + 1; month = (month_and_day (months_of ((400 * a + 100 * b + 4 * c + e) + 1)) 1 doy).0; day = (month_and_day (months_of ((400 * a + 100 * b + 4 * c + e) + 1)) 1 doy).1 }
unfolding date_after
by_cycle n a b c e doy is hb hc he hd leap =
    let r : ℕ = 36524 * b + (1461 * c + (365 * e + doy)) in
    let s : ℕ = 1461 * c + (365 * e + doy) in
    let t : ℕ = 365 * e + doy in
    let small : t < 1461 = elim leap [ inl h ↦ omega arith | inr h ↦ omega (arith, h.0) ] in
    let whole : r < 146097 = elim leap [ inl h ↦ omega arith | inr h ↦ elim h.1 [ inl k ↦ omega arith | inr k ↦ omega arith ] ] in
    let e1 : n / 146097 ≡ a = omega arith in
    let e2 : n % 146097 ≡ r = omega arith in
    let e3 : min 3 (r / 36524) ≡ b = centuries b c e doy hb hc he hd leap in
    let e4 : r - b * 36524 ≡ s = omega arith in
    let e5 : s / 1461 ≡ c = fours c e doy hc he hd small in
    let e6 : s % 1461 ≡ t = fours_rest c e doy small in
    let e7 : min 3 (t / 365) ≡ e = ones_of b c e doy he hd leap in
    let e8 : t - e * 365 ≡ doy = omega arith in
    rw (e1, e2, e3, e4, e5, e6, e7, e8) refl

-- the date this number of days after 1 January of the year 1
pub date_after-days_before : (k j i : ℕ) → j < 12 → i < length_at (months_of (suc k)) j → date_after (days_of_years k + days_of_first (months_of (suc k)) j + i) ≡ record { year = suc k; month = suc j; day = suc i }
unfolding made
date_after-days_before k j i hj hi =
    let doy : ℕ = days_of_first (months_of (suc k)) j + i in
    let ends = february_ends k doy (omega (arith, year_bound (suc k) j hj)) in
    let found = by_cycle (days_of_years k + days_of_first (months_of (suc k)) j + i) (k / 400) (k % 400 / 100) (k % 100 / 4) (k % 4) doy
    (omega (arith, by_cycles k)) (omega arith) (omega arith) (omega arith) ends.0 ends.1 in
    let same : (400 * (k / 400) + 100 * (k % 400 / 100) + 4 * (k % 100 / 4) + k % 4) + 1 ≡ suc k = omega (arith, year_of k) in
    let day = month_found (months_of (suc k)) 1 j i hi ∙ pair_of (1 + j) (i + 1) (suc j) (suc i) (omega arith) (omega arith) in
    found ∙ ap (λ (y : ℕ). made y (month_and_day (months_of y) 1 doy)) same ∙ ap (made (suc k)) day

-- ---- the calendar's date of a day number

from_day : (z : ℤ) (c : ℕ) (n : ℤ) → up z + 4_371_953 ≡ down z + c → z ≡ n → negsuc 719161 ≤ℤ n → 3_652_791 ≤ c
from_day z c n h e low = omega (arith, signed_arith)

-- a day from 1 January of the year 1 on is one of a year from 1 on
year_is_after : (y : ℤ) (m d : ℕ) (n : ℤ) → IsCivilDate y m d → days_from_civil y m d ≡ n → negsuc 719161 ≤ℤ n → y <ℤ pos 1 → ⊥
year_is_after y m d n h e low before =
    let count = from_day (days_from_civil y m d) (day_count y m d) n (days_from_civil-day_count y m d) e low in
    omega (arith, day_count-lt_year y m d (pos 1) 1 1 h (omega arith) before, first_year)

pub abs_of_day : (b : ℕ) → unsigned_abs ((pos b -ℤ pos 719162) +ℤ pos 719162) ≡ b
abs_of_day b =
    let same : (pos b -ℤ pos 719162) +ℤ pos 719162 ≡ pos b = omega (arith, signed_arith) in
    ap unsigned_abs same

pub date_is : (y : ℤ) (m d : ℕ) (n : ℤ) → IsCivilDate y m d → days_from_civil y m d ≡ n → negsuc 719161 ≤ℤ n → (y ≡ pos (date_in_years n).year) × (m ≡ (date_in_years n).month) × (d ≡ (date_in_years n).day)
unfolding date_in_years day_number
date_is (negsuc y) m d n h e low = absurd (year_is_after (negsuc y) m d n h e low (omega (arith, signed_arith)))
date_is (pos zero) m d n h e low = absurd (year_is_after (pos zero) m d n h e low (omega (arith, signed_arith)))
date_is (pos (suc k)) zero d n h e low = absurd (omega (arith, h.1.0))
date_is (pos (suc k)) (suc j) zero n h e low = absurd (omega (arith, h.2.0))
date_is (pos (suc k)) (suc j) (suc i) n h e low =
    let jm : suc j - 1 ≡ j = omega arith in
    let len = length_is (suc k) (suc j) (omega arith) h.1.1 in
    let room : i < length_at (months_of (suc k)) j = omega (arith, h.2.1, ap (λ (z : ℕ). length_at (months_of (suc k)) z) (sym jm) ∙ len) in
    let b : ℕ = days_before (record { year = suc k; month = suc j; day = suc i }) in
    let number : n ≡ pos b -ℤ pos 719162 = sym e ∙ days_from_civil-day_number (suc k) (suc j) (suc i) (omega arith) (omega arith) h.1.1 (omega arith) in
    let found : date_after (unsigned_abs (n +ℤ pos 719162)) ≡ record { year = suc k; month = suc j; day = suc i } =
    ap (λ z. date_after (unsigned_abs (z +ℤ pos 719162))) number ∙ ap date_after (abs_of_day b ∙ before_is k j i)
    ∙ date_after-days_before k j i (omega (arith, h.1.1)) room in
    (sym (ap (λ x. pos x.year) found), sym (ap (λ x. x.month) found), sym (ap (λ x. x.day) found))
