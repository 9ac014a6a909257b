-- Which texts denote a value of a kind, and which one.
use Rattle.std.specs.Prelude.{ℕ, ◌+◌, ◌-◌, ◌*◌, ◌^◌, Bool, true, false, ◌&&◌, ◌||◌, ◌==◌, nat_lt, nat_le, if◌then◌else◌, List, [], ◌∷◌, length, drop, take_while, codes, Option, Some, None, option_map, ℤ, pos}
use Rattle.std.specs.List.{list_all}
use Rattle.abl_base.specs.declared.value.Value.{Value}
use Rattle.abl_base.specs.declared.value.Value.TheVariants.{Text, Int, Int64, Dec, Logical, Date}
use Rattle.abl_base.specs.declared.value.Kind.{Kind}
use Rattle.abl_base.specs.declared.value.Kind.TheVariants.{Character, Integer, Int64 as Whole64, Decimal, Logical as Truth, Date as Day}
use Rattle.abl_base.specs.declared.limits.TheConstants.{MAX_TEXT_BYTES, DECIMAL_PLACES, DECIMAL_SCALE, FIRST_SHORT_YEAR}
use Rattle.abl_values.specs.Arithmetic.{fits_bits, with_sign}
use Rattle.abl_values.specs.Dates.{date_from}
use Rattle.abl_values.specs.Masks.{is_digit, same_bytes, without_minus}
use Rattle.abl_values.specs.Order.{folded}
use Rattle.abl_values.specs.Digits.{are_digits, from_first_not, has_minus, number_of}

-- ---- numbers: an optional `-`, digits, and for a DECIMAL an optional point and at most ten digits

-- the digits before and after a point as a decimal is stored
abbrev pub scaled_of : List ℕ → List ℕ → ℕ
scaled_of before after = number_of before * DECIMAL_SCALE + number_of after * 10 ^ (DECIMAL_PLACES - length after)

-- nothing, or a point and at most ten digits
abbrev pub is_point_and_decimals : List ℕ → Bool
is_point_and_decimals [] = true
is_point_and_decimals (b ∷ bs) = (b == 46) && (list_all is_digit bs && nat_le (length bs) DECIMAL_PLACES)

-- the magnitude of a decimal's text without its sign
abbrev pub magnitude_in : List ℕ → Option ℕ
magnitude_in text =
    if are_digits (take_while is_digit text) && is_point_and_decimals (from_first_not is_digit text)
    then Some (scaled_of (take_while is_digit text) (drop 1 (from_first_not is_digit text)))
    else None

-- a number that must stay in the range of k + 1 bits
abbrev pub number_in_bits : ℕ → ℤ → Option ℤ
number_in_bits k n = if fits_bits k n then Some n else None

-- a magnitude with the sign of its text
abbrev pub signed_in_bits : ℕ → Bool → Option ℕ → Option ℤ
signed_in_bits k negative (Some n) = number_in_bits k (with_sign negative n)
signed_in_bits k negative None = None

-- the whole number of k + 1 bits that a text denotes
abbrev pub whole_in : ℕ → List ℕ → Option ℤ
whole_in k text =
    signed_in_bits k (has_minus text)
    (if are_digits (without_minus text) then Some (number_of (without_minus text)) else None)

-- the number, as a decimal is stored, that a text denotes
unfoldable pub number_in : List ℕ → Option ℤ
number_in text = signed_in_bits 127 (has_minus text) (magnitude_in (without_minus text))

-- ---- LOGICAL: yes, no, true, false or a first letter of these, in any case

abbrev pub truth_of : List ℕ → Option Bool
truth_of word =
    if same_bytes word (codes "yes") || (same_bytes word (codes "true") || (same_bytes word (codes "y") || same_bytes word (codes "t")))
    then Some true
    else (if same_bytes word (codes "no") || (same_bytes word (codes "false") || (same_bytes word (codes "n") || same_bytes word (codes "f")))
    then Some false else None)

abbrev pub truth_in : List ℕ → Option Bool
truth_in text = truth_of (folded text)

-- ---- DATE: month, day and year with `/` between, of one or two, one or two, and two or four digits

-- the bytes after the first that is no digit, which must be a `/`
abbrev pub after_slash : List ℕ → Option (List ℕ)
after_slash [] = None
after_slash (b ∷ bs) = if b == 47 then Some bs else None

abbrev pub is_one_or_two : List ℕ → Bool
is_one_or_two digits = (length digits == 1) || (length digits == 2)

-- a year of two digits is the one that has them from FIRST_SHORT_YEAR on
abbrev pub year_of : List ℕ → Option ℕ
year_of digits =
    if length digits == 2
    then Some (if nat_lt (1900 + number_of digits) FIRST_SHORT_YEAR then 2000 + number_of digits else 1900 + number_of digits)
    else (if length digits == 4 then Some (number_of digits) else None)

-- the day of a date whose month and day are these
abbrev pub dated : List ℕ → List ℕ → Option ℕ → Option ℤ
dated month day (Some year) = date_from (pos (number_of month)) (pos (number_of day)) (pos year)
dated month day None = None

-- the year's digits are all that is left
abbrev pub with_year : List ℕ → List ℕ → Option (List ℕ) → Option ℤ
with_year month day (Some rest) =
    if is_one_or_two month && (is_one_or_two day && list_all is_digit rest) then dated month day (year_of rest) else None
with_year month day None = None

abbrev pub with_day : List ℕ → Option (List ℕ) → Option ℤ
with_day month (Some rest) = with_year month (take_while is_digit rest) (after_slash (from_first_not is_digit rest))
with_day month None = None

-- the day number of the date that a text denotes
abbrev pub date_in : List ℕ → Option ℤ
date_in text = with_day (take_while is_digit text) (after_slash (from_first_not is_digit text))

-- ---- any kind

-- the value of the kind that a text denotes, if it is a text of the kind
unfoldable pub value_in : Kind → List ℕ → Option Value
value_in Character text = if nat_le (length text) MAX_TEXT_BYTES then Some (Text text) else None
value_in Integer text = option_map Int (whole_in 31 text)
value_in Whole64 text = option_map Int64 (whole_in 63 text)
value_in Decimal text = option_map Dec (number_in text)
value_in Truth text = option_map Logical (truth_in text)
value_in Day text = option_map Date (date_in text)
