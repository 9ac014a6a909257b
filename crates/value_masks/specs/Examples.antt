-- Worked examples, each computed from the definitions.
use Rattle.std.specs.Prelude.{◌≡◌, refl, true, false, [], ◌∷◌, codes, pos, negsuc}
use Rattle.std.specs.Fmt.{digits}
use Rattle.abl_base.specs.declared.value.Value.TheVariants.{Text, Int, Int64, Dec, Logical, Date, Unknown}
use Rattle.abl_values.specs.Dates.{date_of_day, date_in_years, date_after}
use Rattle.abl_values.specs.Texts.{export_text, plain_text}
use Rattle.value_masks.specs.Put.{put}
use Rattle.value_masks.specs.Export.{export}

-- ---- masks

-- -1234.5
a_comma_and_a_sign : put (codes "->>,>>9.99") (Dec (negsuc 12344999999999)) ≡ codes " -1,234.50"
unfolding put digits
a_comma_and_a_sign = refl

no_comma_without_a_digit_before_it : put (codes ">>,>>9") (Int (pos 5)) ≡ codes "     5"
unfolding put digits
no_comma_without_a_digit_before_it = refl

one_digit_too_many : put (codes ">>9") (Int64 (pos 1000)) ≡ codes "???"
unfolding put digits
one_digit_too_many = refl

negative_without_minus : put (codes ">>9") (Int (negsuc 0)) ≡ codes "???"
unfolding put digits
negative_without_minus = refl

-- 9.995
rounding_carries : put (codes "z9.99") (Dec (pos 99950000000)) ≡ codes "10.00"
unfolding put digits
rounding_carries = refl

-- -0.004
no_sign_of_what_is_rounded_to_zero : put (codes "9.99") (Dec (negsuc 39999999)) ≡ codes "0.00"
unfolding put digits
no_sign_of_what_is_rounded_to_zero = refl

-- -0.5
a_sign_before_the_point : put (codes "->>.9") (Dec (negsuc 4999999999)) ≡ codes "  -.5"
unfolding put digits
a_sign_before_the_point = refl

twelve_decimals : put (codes "9.999999999999") (Dec (pos 15000000001)) ≡ codes "1.500000000100"
unfolding put digits
twelve_decimals = refl

a_text_is_cut : put (codes "x(3)") (Text (codes "abcd")) ≡ codes "abc"
unfolding put
a_text_is_cut = refl

a_text_is_filled : put (codes "XXXX") (Text (codes "ab")) ≡ codes "ab  "
unfolding put
a_text_is_filled = refl

the_shorter_word : put (codes "true/no") (Logical false) ≡ codes "no  "
unfolding put
the_shorter_word = refl

-- 2 March 1899
two_digits_of_any_year : put (codes "99/99/99") (Date (negsuc 25871)) ≡ codes "03/02/99"
unfolding put date_of_day date_in_years date_after
two_digits_of_any_year = refl

unknown_among_numbers : put (codes "->9.99") Unknown ≡ codes "     ?"
unfolding put
unknown_among_numbers = refl

unknown_among_texts : put (codes "x(5)") Unknown ≡ codes "?    "
unfolding put
unknown_among_texts = refl

unknown_among_dates : put (codes "99/99/9999") Unknown ≡ codes "?         "
unfolding put
unknown_among_dates = refl

-- ---- EXPORT: "a""b", `?`, YES, 02/03/2024 and 0.50
the_line_of_a_row : export (Text (codes "a\"b") ∷ Unknown ∷ Logical true ∷ Date (pos 19756) ∷ Dec (pos 5000000000) ∷ [])
    ≡ codes "\"a\"\"b\" ? yes 02/03/24 0.5\n"
unfolding export_text plain_text digits date_of_day date_in_years date_after
the_line_of_a_row = refl
