-- What PUT and STRING write of a value under a mask.
use Rattle.std.specs.Prelude.{ℕ, ◌+◌, ◌-◌, ◌*◌, ◌/◌, ◌^◌, max, Bool, true, false, not, ◌&&◌, ◌||◌, ◌==◌, nat_lt, nat_le, if◌then◌else◌, List, [], ◌∷◌, ◌++◌, length, take, drop, reverse, replicate, count_by, take_while, ℤ, unsigned_abs}
use Rattle.std.specs.Int.{is_negative}
use Rattle.std.specs.Fmt.{decimal}
use Rattle.abl_base.specs.declared.value.Value.{Value}
use Rattle.abl_base.specs.declared.value.Value.TheVariants.{Text, Int, Int64, Dec, Logical, Date, Unknown}
use Rattle.abl_base.specs.declared.value.Kind.TheVariants.{Character, Integer, Int64 as Whole64, Decimal, Logical as Truth, Date as Day}
use Rattle.abl_base.specs.declared.limits.TheConstants.{DECIMAL_SCALE}
use Rattle.abl_values.specs.Arithmetic.{rounded}
use Rattle.abl_values.specs.Dates.{CivilDate, date_of_day}
use Rattle.abl_values.specs.Masks.{is_digit_sign, is_mask_word_byte, is_nine, is_number_mask, is_text_mask, is_word_mask, mask_is_for, without_minus}
use Rattle.abl_values.specs.Digits.{from_first_not, has_minus, number_of}
use Rattle.abl_values.specs.Order.{scaled}
use Rattle.abl_values.specs.Texts.{after_point, last_digits, minus_sign}

-- ---- a text in a width

-- n blanks
abbrev pub blanks : ℕ → List ℕ
blanks n = replicate n 32

-- n question marks
abbrev pub question_marks : ℕ → List ℕ
question_marks n = replicate n 63

-- the text cut or filled with blanks on the right
abbrev pub on_the_left : ℕ → List ℕ → List ℕ
on_the_left width text = take width text ++ blanks (width - length text)

-- the text filled with blanks on the left
abbrev pub on_the_right : ℕ → List ℕ → List ℕ
on_the_right width text = blanks (width - length text) ++ text

-- ---- CHARACTER

-- not a closing parenthesis
abbrev pub is_within : ℕ → Bool
is_within b = not (b == 41)

-- the width of `x(n)` is n, and that of a run of `x` its length
abbrev pub text_width : List ℕ → ℕ
text_width [] = 0
text_width (x ∷ []) = 1
text_width (x ∷ b ∷ bs) = if b == 40 then number_of (take_while is_within bs) else 2 + length bs

-- ---- LOGICAL

-- the text for yes precedes the `/`, the text for no follows it
abbrev pub first_word : List ℕ → List ℕ
first_word mask = take_while is_mask_word_byte mask

abbrev pub second_word : List ℕ → List ℕ
second_word mask = drop 1 (from_first_not is_mask_word_byte mask)

abbrev pub word_for : List ℕ → Bool → List ℕ
word_for mask true = first_word mask
word_for mask false = second_word mask

-- the length of the longer of the two texts
abbrev pub word_width : List ℕ → ℕ
word_width mask = max (length (first_word mask)) (length (second_word mask))

-- ---- DATE

-- month and day have two digits; the year has its last `length mask - 6` digits
abbrev pub date_under : List ℕ → CivilDate → List ℕ
date_under mask d =
    last_digits 2 d.month ++ 47 ∷ last_digits 2 d.day ++ 47 ∷ last_digits (length mask - 6) d.year

-- ---- numbers

-- the part before the point, without the `-`
abbrev pub is_before_point : ℕ → Bool
is_before_point b = not (b == 46)

abbrev pub whole_part : List ℕ → List ℕ
whole_part mask = take_while is_before_point (without_minus mask)

-- the number of decimals
abbrev pub decimals_of : List ℕ → ℕ
decimals_of mask = length (from_first_not is_before_point mask) - 1

-- the number of digits that a part of a mask has room for
abbrev pub room_of : List ℕ → ℕ
room_of part = count_by is_digit_sign part

-- the least number of digits under a part of a mask
abbrev pub least_digits : List ℕ → ℕ
least_digits part = count_by is_nine part

-- a magnitude as a decimal is stored, rounded to this number of decimals, a half away from zero, in units of the last one
abbrev pub units_of : ℕ → ℕ → ℕ
units_of decimals n = rounded (n * 10 ^ decimals) DECIMAL_SCALE

-- how many digits a number has, none where it is 0
abbrev pub digit_count : ℕ → ℕ
digit_count n = if n == 0 then 0 else length (decimal n)

-- the signs of a mask and the digits of a number, both from the right: a sign takes the next digit,
-- and a comma is written where a digit is left of it
abbrev pub laid : List ℕ → List ℕ → List ℕ
laid mask [] = []
laid [] (d ∷ ds) = []
laid (m ∷ mask) (d ∷ ds) = if m == 44 then 44 ∷ laid mask (d ∷ ds) else d ∷ laid mask ds

-- a whole number under the part of a mask before the point
abbrev pub whole_under : List ℕ → ℕ → List ℕ
whole_under part n =
    reverse (laid (reverse part) (reverse (last_digits (max (least_digits part) (digit_count n)) n)))

-- a magnitude in units of the mask's last decimal, without sign or blanks
abbrev pub magnitude_under : List ℕ → ℕ → List ℕ
magnitude_under mask units =
    whole_under (whole_part mask) (units / 10 ^ decimals_of mask) ++ after_point (last_digits (decimals_of mask) units)

-- there is room for the whole digits, and for the sign of a number that is not rounded to 0
abbrev pub has_room : List ℕ → ℤ → ℕ → Bool
has_room mask n units =
    nat_le (digit_count (units / 10 ^ decimals_of mask)) (room_of (whole_part mask)) && (has_minus mask || not (is_negative n && nat_lt 0 units))

-- a number under a mask, in units of the mask's last decimal. `-` is directly before its first digit
abbrev pub units_under : List ℕ → ℤ → ℕ → List ℕ
units_under mask n units =
    if has_room mask n units
    then on_the_right (length mask) ((if nat_lt 0 units then minus_sign n else []) ++ magnitude_under mask units)
    else question_marks (length mask)

-- a number, as a decimal is stored, under a mask
abbrev pub number_under : List ℕ → ℤ → List ℕ
number_under mask n = units_under mask n (units_of (decimals_of mask) (unsigned_abs n))

-- ---- any value

-- how many bytes every value under the mask takes
abbrev pub width_of : List ℕ → ℕ
width_of mask =
    if is_text_mask mask then text_width mask
    else (if is_word_mask mask then word_width mask else length mask)

-- one question mark, on the right under a mask for numbers, else on the left
abbrev pub unknown_under : List ℕ → List ℕ
unknown_under mask =
    if is_number_mask true mask then on_the_right (width_of mask) (63 ∷ []) else on_the_left (width_of mask) (63 ∷ [])

-- what is written of a value under a mask that is one for it
unfoldable pub put : List ℕ → Value → List ℕ
put mask (Text t) = on_the_left (text_width mask) t
put mask (Int n) = number_under mask (scaled n)
put mask (Int64 n) = number_under mask (scaled n)
put mask (Dec n) = number_under mask n
put mask (Logical b) = on_the_left (word_width mask) (word_for mask b)
put mask (Date d) = date_under mask (date_of_day d)
put mask Unknown = unknown_under mask

-- the mask is one for the value: for its kind, and for `?` one of any kind
abbrev pub is_mask_for : List ℕ → Value → Bool
is_mask_for mask (Text t) = mask_is_for mask Character
is_mask_for mask (Int n) = mask_is_for mask Integer
is_mask_for mask (Int64 n) = mask_is_for mask Whole64
is_mask_for mask (Dec n) = mask_is_for mask Decimal
is_mask_for mask (Logical b) = mask_is_for mask Truth
is_mask_for mask (Date d) = mask_is_for mask Day
is_mask_for mask Unknown =
    mask_is_for mask Character || (mask_is_for mask Decimal || (mask_is_for mask Truth || mask_is_for mask Day))
