-- The masks and initial values of fields.
use Rattle.std.specs.Prelude.{ℕ, ◌^◌, ◌/◌, ◌%◌, Bool, true, false, not, ◌&&◌, ◌==◌, nat_le, if◌then◌else◌, List, [], ◌∷◌, length, codes, Option, Some, None, option_map, ℤ, pos, unsigned_abs}
use Rattle.std.specs.Int.{is_negative}
use Rattle.abl_base.specs.declared.limits.TheConstants.{MAX_TEXT_BYTES, DECIMAL_SCALE}
use Rattle.abl_base.specs.declared.value.Value.{Value}
use Rattle.abl_base.specs.declared.value.Value.TheVariants.{Text, Int, Int64, Dec, Logical, Date, Unknown}
use Rattle.abl_base.specs.declared.value.Kind.{Kind}
use Rattle.abl_base.specs.declared.value.Kind.TheVariants.{Character, Integer, Int64 as Whole64, Decimal, Logical as Truth, Date as Day}
use Rattle.abl_values.specs.Arithmetic.{fits_bits, with_sign}
use Rattle.abl_values.specs.Masks.{after_run, is_mask_word_byte, mask_is_for, same_bytes}
use Rattle.abl_values.specs.Schema.{same_name}
use Rattle.schema_lines.specs.declared.item.Given.{Given}
use Rattle.schema_lines.specs.Lines.{run}
use Rattle.text_values.specs.TextValues.{date_in, number_in, truth_in}

-- ---- masks

-- the mask of a field without a usable FORMAT
abbrev pub default_mask : Kind → List ℕ
default_mask Character = codes "x(8)"
default_mask Integer = codes "->,>>>,>>9"
default_mask Whole64 = codes "->,>>>,>>9"
default_mask Decimal = codes "->>,>>9.99"
default_mask Truth = codes "yes/no"
default_mask Day = codes "99/99/99"

-- the FORMAT where it is a mask of the kind, else the kind's default; a field of an unsupported kind has none
abbrev pub mask_of : Option Kind → List ℕ → List ℕ
mask_of None format = []
mask_of (Some kind) format = if mask_is_for format kind then format else default_mask kind

-- ---- initial values

-- the second word of a mask `a/b`
abbrev pub second_word : List ℕ → List ℕ
second_word [] = []
second_word (b ∷ bs) = bs

-- a word of the mask, in any case; else a word that denotes yes or no without a mask
abbrev pub logical_spelt : List ℕ → List ℕ → Option Value
logical_spelt mask text =
    if same_name text (run is_mask_word_byte mask) then Some (Logical true)
    else if same_name text (second_word (after_run is_mask_word_byte mask)) then Some (Logical false)
    else option_map Logical (truth_in text)

-- a decimal whose decimals are zeros, as a whole number
abbrev pub whole_units : ℤ → Option ℤ
whole_units units =
    if (unsigned_abs units % DECIMAL_SCALE) == 0 then Some (with_sign (is_negative units) (unsigned_abs units / DECIMAL_SCALE)) else None

abbrev pub whole_spelt : Option ℤ → Option ℤ
whole_spelt None = None
whole_spelt (Some units) = whole_units units

abbrev pub integer_value : Option ℤ → Option Value
integer_value None = None
integer_value (Some n) = if fits_bits 31 n then Some (Int n) else None

abbrev pub long_value : Option ℤ → Option Value
long_value None = None
long_value (Some n) = if fits_bits 63 n then Some (Int64 n) else None

-- a text as a value, where it is not too long
abbrev pub text_value : List ℕ → Option Value
text_value text = if nat_le (length text) MAX_TEXT_BYTES then Some (Text text) else None

-- the value of a date; TODAY is `?`, since a schema has no day
abbrev pub day_spelt : List ℕ → Option Value
day_spelt text = if same_name text (codes "today") then Some Unknown else option_map Date (date_in text)

-- the value of the kind that the text spells
abbrev pub value_spelt : Kind → List ℕ → List ℕ → Option Value
value_spelt Character mask text = text_value text
value_spelt Integer mask text = integer_value (whole_spelt (number_in text))
value_spelt Whole64 mask text = long_value (whole_spelt (number_in text))
value_spelt Decimal mask text = option_map Dec (number_in text)
value_spelt Truth mask text = logical_spelt mask text
value_spelt Day mask text = day_spelt text

abbrev pub is_character : Kind → Bool
is_character Character = true
is_character kind = false

-- `?`, which between quotation marks is a text where the kind is CHARACTER
abbrev pub is_unknown : Kind → Given → Bool
is_unknown kind g = same_bytes g.text (63 ∷ []) && not (g.quoted && is_character kind)

-- the value that INITIAL gives a field of this kind and mask; none where it does not fit
unfoldable pub initial_given : Kind → List ℕ → Option Given → Option Value
initial_given kind mask None = None
initial_given kind mask (Some g) = if is_unknown kind g then Some Unknown else value_spelt kind mask g.text
