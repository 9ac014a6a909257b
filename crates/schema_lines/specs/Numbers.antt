-- The numbers that a schema file spells without a leading zero.
use Rattle.std.specs.Prelude.{ℕ, ◌^◌, Bool, false, not, ◌&&◌, ◌==◌, nat_lt, if◌then◌else◌, List, [], ◌∷◌, Option, Some, None, ℤ}
use Rattle.abl_values.specs.Masks.{is_digit, without_minus}
use Rattle.abl_values.specs.Digits.{are_digits, number_of}
use Rattle.text_values.specs.TextValues.{whole_in}

-- digits without a leading zero
abbrev pub is_number : List ℕ → Bool
is_number [] = false
is_number (b ∷ []) = is_digit b
is_number (b ∷ c ∷ cs) = are_digits (b ∷ c ∷ cs) && not (b == 48)

-- a number up to 2147483647, as after ORDER and EXTENT
abbrev pub small_number : List ℕ → Option ℕ
small_number digits =
    if is_number digits && nat_lt (number_of digits) (2 ^ 31) then Some (number_of digits) else None

-- a number with or without `-` from -2^63 to 2^63 - 1, as of a sequence
abbrev pub long_number : List ℕ → Option ℤ
long_number text = if is_number (without_minus text) then whole_in 63 text else None
