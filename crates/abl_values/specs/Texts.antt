-- The plain text of a value, and the text that EXPORT writes of it.
use Rattle.std.specs.Prelude.{ℕ, zero, suc, ◌+◌, ◌/◌, ◌%◌, true, false, ◌&&◌, ◌==◌, nat_le, if◌then◌else◌, List, [], ◌∷◌, ◌++◌, codes, ℤ, unsigned_abs}
use Rattle.abl_base.specs.declared.limits.TheConstants.{DECIMAL_PLACES, DECIMAL_SCALE, FIRST_SHORT_YEAR, LAST_SHORT_YEAR}
use Rattle.std.specs.Int.{is_negative}
use Rattle.std.specs.List.{flat_map}
use Rattle.std.specs.Fmt.{decimal, signed_decimal}
use Rattle.abl_base.specs.declared.value.Value.{Value}
use Rattle.abl_base.specs.declared.value.Value.TheVariants.{Text, Int, Int64, Dec, Logical, Date, Unknown}
use Rattle.abl_values.specs.Order.{without_trailing}
use Rattle.abl_values.specs.Dates.{CivilDate, date_of_day}

-- the last k digits of n, with zeros on the left
abbrev pub last_digits : ℕ → ℕ → List ℕ
last_digits zero n = []
last_digits (suc k) n = last_digits k (n / 10) ++ (48 + n % 10) ∷ []

-- `-` where the number is negative
abbrev pub minus_sign : ℤ → List ℕ
minus_sign n = if is_negative n then 45 ∷ [] else []

-- digits after a point, and no bare point
abbrev pub after_point : List ℕ → List ℕ
after_point [] = []
after_point (d ∷ ds) = 46 ∷ d ∷ ds

-- a decimal's magnitude: at least one digit before the point, up to ten after it without trailing zeros
abbrev pub magnitude_text : ℕ → List ℕ
magnitude_text n =
    decimal (n / DECIMAL_SCALE) ++ after_point (without_trailing 48 (last_digits DECIMAL_PLACES (n % DECIMAL_SCALE)))

abbrev pub decimal_text : ℤ → List ℕ
decimal_text n = minus_sign n ++ magnitude_text (unsigned_abs n)

-- the year with two digits from 1950 to 2049, else with four
abbrev pub year_text : ℕ → List ℕ
year_text year =
    if nat_le FIRST_SHORT_YEAR year && nat_le year LAST_SHORT_YEAR then last_digits 2 year else last_digits 4 year

-- month, day and year
abbrev pub date_text : CivilDate → List ℕ
date_text d = last_digits 2 d.month ++ 47 ∷ last_digits 2 d.day ++ 47 ∷ year_text d.year

-- the plain text of a value
unfoldable pub plain_text : Value → List ℕ
plain_text (Text t) = t
plain_text (Int n) = signed_decimal n
plain_text (Int64 n) = signed_decimal n
plain_text (Dec n) = decimal_text n
plain_text (Logical false) = codes "no"
plain_text (Logical true) = codes "yes"
plain_text (Date d) = date_text (date_of_day d)
plain_text Unknown = 63 ∷ []

-- a text with each quotation mark doubled
abbrev pub doubled_byte : ℕ → List ℕ
doubled_byte b = if b == 34 then 34 ∷ 34 ∷ [] else b ∷ []

abbrev pub doubled : List ℕ → List ℕ
doubled text = flat_map doubled_byte text

-- a text in quotation marks, any other value plain
unfoldable pub export_text : Value → List ℕ
export_text (Text t) = 34 ∷ doubled t ++ 34 ∷ []
export_text (Int n) = plain_text (Int n)
export_text (Int64 n) = plain_text (Int64 n)
export_text (Dec n) = plain_text (Dec n)
export_text (Logical b) = plain_text (Logical b)
export_text (Date d) = plain_text (Date d)
export_text Unknown = plain_text Unknown
