-- The bytes of a row, and how they are read.
use Rattle.std.specs.Prelude.{ℕ, ◌+◌, ◌-◌, ◌/◌, ◌≤◌, max, true, false, nat_le, ◌==◌, if◌then◌else◌, List, [], ◌∷◌, ◌++◌, length, take, drop, Option, Some, None}
use Rattle.std.specs.Int.{w32, w64, w128, cast_signed, cast_unsigned}
use Rattle.std.specs.List.{flat_map}
use Rattle.byteorder.specs.Endian.{big_bytes, big_number}
use Rattle.abl_base.specs.declared.value.Value.{Value}
use Rattle.abl_base.specs.declared.value.Value.TheVariants.{Text, Int, Int64, Dec, Logical, Date, Unknown}
use Rattle.abl_base.specs.declared.value.Kind.{Kind}
use Rattle.abl_base.specs.declared.value.Kind.TheVariants.{Character, Integer, Int64 as Whole64, Decimal, Logical as Truth, Date as Day}
use Rattle.abl_base.specs.declared.limits.TheConstants.{MAX_TEXT_BYTES, FRAGMENT_BYTES}
use Rattle.abl_values.specs.Dates.{is_day}
use Rattle.abl_values.specs.Fit.{IsOfField}

-- ---- numbers

-- the lowest n bytes of a number, the highest of them first
unfoldable pub number_bytes : ℕ → ℕ → List ℕ
number_bytes n x = big_bytes n x

-- the number in the first n bytes, the highest first
unfoldable pub number_at_head : ℕ → List ℕ → ℕ
number_at_head n bytes = big_number n bytes

-- ---- writing

-- the bytes of a field: 0 for `?`, or 1 and the value, numbers with the highest byte first
abbrev pub field_bytes : Value → List ℕ
field_bytes Unknown = 0 ∷ []
field_bytes (Text t) = 1 ∷ number_bytes 2 (length t) ++ t
field_bytes (Int n) = 1 ∷ number_bytes 4 (cast_unsigned w32 n)
field_bytes (Int64 n) = 1 ∷ number_bytes 8 (cast_unsigned w64 n)
field_bytes (Dec n) = 1 ∷ number_bytes 16 (cast_unsigned w128 n)
field_bytes (Logical false) = 1 ∷ 0 ∷ []
field_bytes (Logical true) = 1 ∷ 1 ∷ []
field_bytes (Date d) = 1 ∷ number_bytes 4 (cast_unsigned w32 d)

-- the bytes of a row are those of its fields, one after the other
unfoldable pub bytes_of_row : List Value → List ℕ
bytes_of_row values = flat_map field_bytes values

-- the row has a value for each field, and each is one that the field holds
abbrev pub FitsFields : List (Option Kind) → List Value → Type 0
FitsFields [] [] = Unit {0}
FitsFields (kind ∷ kinds) (v ∷ vs) = IsOfField kind v × FitsFields kinds vs
FitsFields [] (v ∷ vs) = ⊥
FitsFields (kind ∷ kinds) [] = ⊥

-- the text has no more bytes than a text may have
abbrev pub IsShort : Value → Type 0
IsShort (Text t) = length t ≤ MAX_TEXT_BYTES
IsShort v = Unit {0}

-- ---- reading

-- a value and the bytes after it
abbrev pub Found : Type 0
Found = Option (Value × List ℕ)

-- the first n bytes as a value, where there are n
abbrev pub number_in : ℕ → (ℕ → Value) → List ℕ → Found
number_in n value bytes =
    if nat_le n (length bytes) then Some (value (number_at_head n bytes), drop n bytes) else None

-- a day that is none of the years 1 to 9999 is no value
abbrev pub day_in : Found → Found
day_in None = None
day_in (Some (Date d, rest)) = if is_day d then Some (Date d, rest) else None
day_in (Some (v, rest)) = None

-- the text of the first n bytes, where there are n and a text may have n
abbrev pub text_in : ℕ → List ℕ → Found
text_in n bytes =
    if nat_le n MAX_TEXT_BYTES then (if nat_le n (length bytes) then Some (Text (take n bytes), drop n bytes) else None)
    else None

-- a value of the kind at the head of the bytes
abbrev pub value_in : Kind → List ℕ → Found
value_in Character bytes =
    if nat_le 2 (length bytes) then text_in (number_at_head 2 bytes) (drop 2 bytes) else None
value_in Integer bytes = number_in 4 (λ n. Int (cast_signed w32 n)) bytes
value_in Whole64 bytes = number_in 8 (λ n. Int64 (cast_signed w64 n)) bytes
value_in Decimal bytes = number_in 16 (λ n. Dec (cast_signed w128 n)) bytes
value_in Truth [] = None
value_in Truth (b ∷ bytes) =
    if b == 0 then Some (Logical false, bytes) else (if b == 1 then Some (Logical true, bytes) else None)
value_in Day bytes = day_in (number_in 4 (λ n. Date (cast_signed w32 n)) bytes)

-- what a field of the kind holds at the head of the bytes. A field of an unsupported kind holds `?` alone
abbrev pub field_in : Option Kind → List ℕ → Found
field_in kind [] = None
field_in None (b ∷ bytes) = if b == 0 then Some (Unknown, bytes) else None
field_in (Some kind) (b ∷ bytes) =
    if b == 0 then Some (Unknown, bytes) else (if b == 1 then value_in kind bytes else None)

abbrev pub with_first : Value → Option (List Value) → Option (List Value)
with_first v None = None
with_first v (Some vs) = Some (v ∷ vs)

-- the row of these fields that has these bytes, where there is one
unfoldable pub row_in : List (Option Kind) → List ℕ → Option (List Value)
row_in [] [] = Some []
row_in [] (b ∷ bytes) = None
row_in (kind ∷ kinds) bytes =
    elim (field_in kind bytes) [ None ↦ None | Some found ↦ with_first found.0 (row_in kinds found.1) ]

-- ---- fragments

-- the least number of fragments that holds this many bytes, and at least one
abbrev pub fragments_of : ℕ → ℕ
fragments_of bytes = max 1 ((bytes + (FRAGMENT_BYTES - 1)) / FRAGMENT_BYTES)
