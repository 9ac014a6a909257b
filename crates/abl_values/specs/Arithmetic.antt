-- The operators `+ - * / MODULO` on values, and exactly where each overflows.
use Rattle.std.specs.Prelude.{◌≡◌, IsOk, ℕ, zero, suc, ◌+◌, ◌*◌, ◌/◌, ◌^◌, Bool, true, false, nat_lt, nat_le, if◌then◌else◌, List, ◌++◌, length, Result, Ok, Err, ℤ, pos, negsuc, neg_ℤ, ◌+ℤ◌, ◌-ℤ◌, ◌*ℤ◌, int_rem, unsigned_abs}
use Rattle.std.specs.Int.{is_negative}
use Rattle.abl_base.specs.declared.value.Value.{Value}
use Rattle.abl_base.specs.declared.value.Value.TheVariants.{Text, Int, Int64, Dec, Logical, Date, Unknown}
use Rattle.abl_base.specs.declared.limits.TheConstants.{MAX_TEXT_BYTES, DECIMAL_SCALE}
use Rattle.abl_values.specs.declared.arithmetic.ArithFault.{ArithFault}
use Rattle.abl_values.specs.declared.arithmetic.ArithFault.TheVariants.{Overflow, NoMemory}
use Rattle.abl_values.specs.Order.{scaled}
use Rattle.abl_values.specs.Dates.{is_day}

-- ---- ranges

-- from -2^k to 2^k - 1, the range of a signed number of k + 1 bits
abbrev pub fits_bits : ℕ → ℤ → Bool
fits_bits k (pos n) = nat_lt n (2 ^ k)
fits_bits k (negsuc n) = nat_lt n (2 ^ k)

-- a value that must stay in its range
abbrev pub in_range : Bool → Value → Result Value ArithFault
in_range true v = Ok v
in_range false v = Err Overflow

abbrev pub text_in_range : List ℕ → Result Value ArithFault
text_in_range text = in_range (nat_le (length text) MAX_TEXT_BYTES) (Text text)

abbrev pub whole_in_range : ℤ → Result Value ArithFault
whole_in_range n = in_range (fits_bits 63 n) (Int64 n)

abbrev pub decimal_in_range : ℤ → Result Value ArithFault
decimal_in_range n = in_range (fits_bits 127 n) (Dec n)

abbrev pub date_in_range : ℤ → Result Value ArithFault
date_in_range day = in_range (is_day day) (Date day)

-- ---- rounding

-- a number with this magnitude, negative where the flag is set
abbrev pub with_sign : Bool → ℕ → ℤ
with_sign false n = pos n
with_sign true n = neg_ℤ (pos n)

-- n / (suc d) rounded to the nearest natural number, a half up
abbrev pub rounded : ℕ → ℕ → ℕ
rounded n d = (2 * n + d) / (2 * d)

-- n / d rounded to the nearest whole number, a half away from zero. The divisor is not zero
abbrev pub rounded_quotient : ℤ → ℤ → ℤ
rounded_quotient n d =
    with_sign (if is_negative n then (if is_negative d then false else true) else is_negative d)
    (rounded (unsigned_abs n) (unsigned_abs d))

-- a decimal as it is stored, rounded to a whole number
abbrev pub rounded_whole : ℤ → ℤ
rounded_whole n = rounded_quotient n (pos DECIMAL_SCALE)

-- ---- the operators. An operand `?` gives `?`, and so do operands whose kinds do not fit, which no program asks for

-- decimals as they are stored
abbrev pub decimal_product : ℤ → ℤ → Result Value ArithFault
decimal_product x y =
    if fits_bits 127 (x *ℤ y) then decimal_in_range (rounded_whole (x *ℤ y)) else Err Overflow

abbrev pub decimal_quotient : ℤ → ℤ → Result Value ArithFault
decimal_quotient x (pos zero) = Ok Unknown
decimal_quotient x (pos (suc y)) =
    if fits_bits 127 (scaled x) then decimal_in_range (rounded_quotient (scaled x) (pos (suc y))) else Err Overflow
decimal_quotient x (negsuc y) =
    if fits_bits 127 (scaled x) then decimal_in_range (rounded_quotient (scaled x) (negsuc y)) else Err Overflow

-- with the sign of the dividend
abbrev pub whole_remainder : ℤ → ℤ → Result Value ArithFault
whole_remainder x (pos zero) = Ok Unknown
whole_remainder x (pos (suc y)) = Ok (Int64 (int_rem x (pos (suc y))))
whole_remainder x (negsuc y) = Ok (Int64 (int_rem x (negsuc y)))

-- a value as an operand: a whole number, a decimal as it is stored, or neither
pub data Operand : Type 0 where
  whole : ℤ → Operand
  decimal : ℤ → Operand
  day : ℤ → Operand
  text : List ℕ → Operand
  none : Operand

abbrev pub operand : Value → Operand
operand (Text t) = text t
operand (Int n) = whole n
operand (Int64 n) = whole n
operand (Dec n) = decimal n
operand (Logical b) = none
operand (Date d) = day d
operand Unknown = none

abbrev pub sum : Operand → Operand → Result Value ArithFault
sum (text s) (text t) = text_in_range (s ++ t)
sum (whole x) (whole y) = whole_in_range (x +ℤ y)
sum (whole x) (decimal y) = decimal_in_range (scaled x +ℤ y)
sum (decimal x) (whole y) = decimal_in_range (x +ℤ scaled y)
sum (decimal x) (decimal y) = decimal_in_range (x +ℤ y)
sum (day d) (whole n) = date_in_range (d +ℤ n)
sum a b = Ok Unknown

abbrev pub difference : Operand → Operand → Result Value ArithFault
difference (whole x) (whole y) = whole_in_range (x -ℤ y)
difference (whole x) (decimal y) = decimal_in_range (scaled x -ℤ y)
difference (decimal x) (whole y) = decimal_in_range (x -ℤ scaled y)
difference (decimal x) (decimal y) = decimal_in_range (x -ℤ y)
difference (day d) (whole n) = date_in_range (d -ℤ n)
difference (day d) (day e) = whole_in_range (d -ℤ e)
difference a b = Ok Unknown

abbrev pub product : Operand → Operand → Result Value ArithFault
product (whole x) (whole y) = whole_in_range (x *ℤ y)
product (whole x) (decimal y) = decimal_product (scaled x) y
product (decimal x) (whole y) = decimal_product x (scaled y)
product (decimal x) (decimal y) = decimal_product x y
product a b = Ok Unknown

abbrev pub quotient : Operand → Operand → Result Value ArithFault
quotient (whole x) (whole y) = decimal_quotient (scaled x) (scaled y)
quotient (whole x) (decimal y) = decimal_quotient (scaled x) y
quotient (decimal x) (whole y) = decimal_quotient x (scaled y)
quotient (decimal x) (decimal y) = decimal_quotient x y
quotient a b = Ok Unknown

abbrev pub remainder : Operand → Operand → Result Value ArithFault
remainder (whole x) (whole y) = whole_remainder x y
remainder a b = Ok Unknown

-- what a + b is
unfoldable pub sum_of : Value → Value → Result Value ArithFault
sum_of a b = sum (operand a) (operand b)

-- what a - b is
unfoldable pub difference_of : Value → Value → Result Value ArithFault
difference_of a b = difference (operand a) (operand b)

-- what a * b is
unfoldable pub product_of : Value → Value → Result Value ArithFault
product_of a b = product (operand a) (operand b)

-- what a / b is
unfoldable pub quotient_of : Value → Value → Result Value ArithFault
quotient_of a b = quotient (operand a) (operand b)

-- what a MODULO b is
unfoldable pub remainder_of : Value → Value → Result Value ArithFault
remainder_of a b = remainder (operand a) (operand b)

-- the answer of a call that allocates: the expected one, or out of memory where a value is expected
abbrev pub IsUnlessNoMemory : Result Value ArithFault → Result Value ArithFault → Type 0
IsUnlessNoMemory (Ok v) expected = Ok v ≡ expected
IsUnlessNoMemory (Err Overflow) expected = Err Overflow ≡ expected
IsUnlessNoMemory (Err NoMemory) expected = IsOk expected

-- the value is a number
abbrev pub IsNumber : Value → Type 0
IsNumber (Int n) = Unit {0}
IsNumber (Int64 n) = Unit {0}
IsNumber (Dec n) = Unit {0}
IsNumber v = ⊥

-- the value is a whole number
abbrev pub IsWhole : Value → Type 0
IsWhole (Int n) = Unit {0}
IsWhole (Int64 n) = Unit {0}
IsWhole v = ⊥
