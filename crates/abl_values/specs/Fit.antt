-- Which values a kind has, and a value made to fit one.
use Rattle.std.specs.Prelude.{◌≡◌, ◌≤◌, length, [], false, pos, Option, Some, None, Result, Ok, ℤ, IsTrue}
use Rattle.abl_base.specs.declared.value.Value.{Value}
use Rattle.abl_base.specs.declared.value.Value.TheVariants.{Text, Int, Int64, Dec, Logical, Date, Unknown}
use Rattle.abl_base.specs.declared.value.Kind.{Kind}
use Rattle.abl_base.specs.declared.value.Kind.TheVariants.{Character, Integer, Int64 as Whole64, Decimal, Logical as Truth, Date as Day}
use Rattle.abl_base.specs.declared.limits.TheConstants.{MAX_TEXT_BYTES}
use Rattle.abl_values.specs.declared.arithmetic.ArithFault.{ArithFault}
use Rattle.abl_values.specs.Order.{scaled}
use Rattle.abl_values.specs.Dates.{is_day}
use Rattle.abl_values.specs.Arithmetic.{in_range, fits_bits, text_in_range, whole_in_range, decimal_in_range, date_in_range, rounded_whole}

-- the value is one of the kind, or `?`
abbrev pub IsOfKind : Kind → Value → Type 0
IsOfKind kind Unknown = Unit {0}
IsOfKind Character (Text t) = length t ≤ MAX_TEXT_BYTES
IsOfKind Integer (Int n) = IsTrue (fits_bits 31 n)
IsOfKind Whole64 (Int64 n) = IsTrue (fits_bits 63 n)
IsOfKind Decimal (Dec n) = IsTrue (fits_bits 127 n)
IsOfKind Truth (Logical b) = Unit {0}
IsOfKind Day (Date d) = IsTrue (is_day d)
IsOfKind kind v = ⊥

-- the value is one that a field holds. A field of an unsupported kind holds `?` alone
abbrev pub IsOfField : Option Kind → Value → Type 0
IsOfField (Some kind) v = IsOfKind kind v
IsOfField None v = v ≡ Unknown

-- a number with a range of 32 bits
abbrev pub small_in_range : ℤ → Result Value ArithFault
small_in_range n = in_range (fits_bits 31 n) (Int n)

-- the value as a target of the kind takes it. `?` fits everything, and a number any kind of number:
-- a decimal is rounded half away from zero. A value of another kind, which no program stores, gives `?`
unfoldable pub fitted : Value → Kind → Result Value ArithFault
fitted (Text t) Character = text_in_range t
fitted (Int n) Integer = small_in_range n
fitted (Int64 n) Integer = small_in_range n
fitted (Dec n) Integer = small_in_range (rounded_whole n)
fitted (Int n) Whole64 = whole_in_range n
fitted (Int64 n) Whole64 = whole_in_range n
fitted (Dec n) Whole64 = whole_in_range (rounded_whole n)
fitted (Int n) Decimal = decimal_in_range (scaled n)
fitted (Int64 n) Decimal = decimal_in_range (scaled n)
fitted (Dec n) Decimal = decimal_in_range n
fitted (Logical b) Truth = Ok (Logical b)
fitted (Date d) Day = date_in_range d
fitted v kind = Ok Unknown

-- the initial value of a field or variable without INITIAL: empty, 0, no, and `?` for a DATE
abbrev pub default_initial : Kind → Value
default_initial Character = Text []
default_initial Integer = Int (pos 0)
default_initial Whole64 = Int64 (pos 0)
default_initial Decimal = Dec (pos 0)
default_initial Truth = Logical false
default_initial Day = Unknown
