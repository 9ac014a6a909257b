-- The sequence values in the slots 5,000 to 5,008: what they hold, and how they are read.
use Rattle.std.specs.Prelude.{◌≡◌, ℕ, zero, suc, ◌+◌, ◌*◌, ◌<◌, ◌≤◌, List, [], ◌∷◌, ◌++◌, take, drop, length, replicate, ℤ, IsTrue}
use Rattle.std.specs.List.{AllByRecursion, flat_map}
use Rattle.std.specs.Int.{w64, cast_signed, cast_unsigned}
use Rattle.abl_values.specs.Arithmetic.{fits_bits}
use Rattle.abl_values.specs.Rows.{number_at_head, number_bytes}
use Rattle.row_fragments.specs.Fragments.{content_in, fragment_bytes}

-- ---- holding

-- the bytes of values, eight for each, the highest first
abbrev pub bytes_of : List ℤ → List ℕ
bytes_of values = flat_map (λ value. number_bytes 8 (cast_unsigned w64 value)) values

-- a slot with these values, of kind 4, with no next slot, no length and no table; zeros where there is no value
abbrev pub slot_bytes : List ℤ → List ℕ
slot_bytes [] = replicate 256 0
slot_bytes (value ∷ values) = fragment_bytes 4 0 0 0 (bytes_of (value ∷ values))

-- the values of the slot 5,000 + i: thirty from the number 30 * i on, or as many as there are
abbrev pub part : ℕ → List ℤ → List ℤ
part i values = take 30 (drop (30 * i) values)

-- each value is a number of 64 bits
abbrev pub Have64Bits : List ℤ → Type 0
Have64Bits values = AllByRecursion (λ value. IsTrue (fits_bits 63 value)) values

-- the slots 5,000 to 5,008 hold these values, thirty in each slot
pub record HoldValues (slots : ℕ → List ℕ) (values : List ℤ) : Type 0 where
  pub few : length values ≤ 270
  pub whole : Have64Bits values
  pub each : (i : ℕ) → i < 9 → slots (5000 + i) ≡ slot_bytes (part i values)

-- ---- reading

-- the first n values in these bytes
abbrev pub values_of : ℕ → List ℕ → List ℤ
values_of zero bytes = []
values_of (suc n) bytes = cast_signed w64 (number_at_head 8 bytes) ∷ values_of n (drop 8 bytes)

-- the contents of n slots from one on, one after the other
abbrev pub contents_from : ℕ → (ℕ → List ℕ) → ℕ → List ℕ
contents_from zero slots at = []
contents_from (suc n) slots at = content_in (slots at) ++ contents_from n slots (suc at)

-- the first n values in the contents of the slots 5,000 to 5,008
unfoldable pub values_in : ℕ → (ℕ → List ℕ) → List ℤ
values_in n slots = values_of n (contents_from 9 slots 5000)
