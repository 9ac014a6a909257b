-- A day that a date leads to is one of the years 1 to 9999.
use Rattle.std.proofs.Common.{◌≡◌, Bool, true, false, cond, ℤ, pos, negsuc, refl, sym, ap, ◌∙◌, arith}
use Rattle.std.proofs.lemmas.Int.{ints}
use Rattle.std.proofs.lemmas.Bool.Decides.{nat_tests}
use Rattle.std.specs.Prelude.{int_lt}
use Rattle.abl_values.specs.Dates.{HasDate, day_number, first_day, is_day, last_day, date_after, date_in_years, date_of_day, nearest_day}

first_back : day_number (date_in_years first_day) ≡ first_day
unfolding day_number date_in_years date_after
first_back = refl

last_back : day_number (date_in_years last_day) ≡ last_day
unfolding day_number date_in_years date_after
last_back = refl

-- a day that a date leads to is the nearest day of the years 1 to 9999, since that one leads to the date
is_nearest : (day near : ℤ) → nearest_day day ≡ near → day_number (date_of_day day) ≡ day → day_number (date_in_years near) ≡ near → day ≡ near
unfolding date_of_day
is_nearest day near is back again = sym back ∙ ap (λ z. day_number (date_in_years z)) is ∙ again

in_years : (day : ℤ) → int_lt day first_day ≡ false → int_lt last_day day ≡ false → is_day day ≡ true
in_years (pos m) e f = grind (arith, ints, nat_tests)
in_years (negsuc m) e f = grind (arith, ints, nat_tests)

-- a day that a date leads to lies in the years 1 to 9999
pub date_has_day : (day : ℤ) → HasDate day → is_day day ≡ true
date_has_day day h = by_first (int_lt day first_day) refl
  where
    by_last : (b : Bool) → int_lt last_day day ≡ b → int_lt day first_day ≡ false → is_day day ≡ true
    by_last true e f =
        ap is_day (is_nearest day last_day (ap (λ b. cond b first_day (cond (int_lt last_day day) last_day day)) f ∙ ap (λ b. cond b last_day day) e) h.number last_back)
    by_last false e f = in_years day f e

    by_first : (b : Bool) → int_lt day first_day ≡ b → is_day day ≡ true
    by_first true e =
        ap is_day (is_nearest day first_day (ap (λ b. cond b first_day (cond (int_lt last_day day) last_day day)) e) h.number first_back)
    by_first false e = by_last (int_lt last_day day) refl e
