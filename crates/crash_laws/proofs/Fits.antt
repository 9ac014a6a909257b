-- What a row is read to fits its fields, from whatever numbers it is read, bytes or not.
use Rattle.std.proofs.Common.{◌≡◌, inl, inr, ℕ, ◌^◌, ◌<◌, ◌≤◌, nat_le, ◌==◌, Bool, true, false, cond, List, [], ◌∷◌, length, take, drop, Option, Some, None, IfSome, IsTrue, refl, ap, ◌∙◌, arith, length-take}
use Rattle.std.proofs.lemmas.Bool.{cases_lt}
use Rattle.std.proofs.lemmas.Bool.Decides.{nat_tests}
use Rattle.std.proofs.lemmas.Int.{to_z_pos}
use Rattle.std.specs.Int.{cast_signed, w128, w32, w64}
use Rattle.abl_base.specs.declared.limits.TheConstants.{MAX_TEXT_BYTES}
use Rattle.abl_base.specs.declared.value.Kind.{Kind}
use Rattle.abl_base.specs.declared.value.Kind.TheVariants.{Character, Date as Day, Decimal, Int64 as Whole64, Integer, Logical as Truth}
use Rattle.abl_base.specs.declared.value.Value.{Value}
use Rattle.abl_base.specs.declared.value.Value.TheVariants.{Date, Dec, Int, Int64, Logical, Text, Unknown}
use Rattle.abl_values.specs.Arithmetic.{fits_bits}
use Rattle.abl_values.specs.Dates.{is_day}
use Rattle.abl_values.specs.Fit.{IsOfField, IsOfKind}
use Rattle.abl_values.specs.Rows.{FitsFields, Found, day_in, field_in, number_at_head, number_in, row_in, text_in, value_in, with_first}

-- ---- numbers: from 2^32 on a signed number of 32 bits is -1, and so it is of the other widths

signed_32 : (n : ℕ) → IsTrue (fits_bits 31 (cast_signed w32 n))
signed_32 n = elim (cases_lt n (2 ^ 31)) [
  | inl low ↦ below low
  | inr high ↦ above high
]
  where
    below : n < 2 ^ 31 → fits_bits 31 (cast_signed w32 n) ≡ true
    below low = ap (fits_bits 31) (to_z_pos w32 n low) ∙ grind (arith, nat_tests)

    above : 2 ^ 31 ≤ n → fits_bits 31 (cast_signed w32 n) ≡ true
    above high = grind (arith, nat_tests)

signed_64 : (n : ℕ) → IsTrue (fits_bits 63 (cast_signed w64 n))
signed_64 n = elim (cases_lt n (2 ^ 63)) [
  | inl low ↦ below low
  | inr high ↦ above high
]
  where
    below : n < 2 ^ 63 → fits_bits 63 (cast_signed w64 n) ≡ true
    below low = ap (fits_bits 63) (to_z_pos w64 n low) ∙ grind (arith, nat_tests)

    above : 2 ^ 63 ≤ n → fits_bits 63 (cast_signed w64 n) ≡ true
    above high = grind (arith, nat_tests)

signed_128 : (n : ℕ) → IsTrue (fits_bits 127 (cast_signed w128 n))
signed_128 n = elim (cases_lt n (2 ^ 127)) [
  | inl low ↦ below low
  | inr high ↦ above high
]
  where
    below : n < 2 ^ 127 → fits_bits 127 (cast_signed w128 n) ≡ true
    below low = ap (fits_bits 127) (to_z_pos w128 n low) ∙ grind (arith, nat_tests)

    above : 2 ^ 127 ≤ n → fits_bits 127 (cast_signed w128 n) ≡ true
    above high = grind (arith, nat_tests)

-- ---- values

-- what is found, if there is anything, is a value of the kind
abbrev IsFoundOf : Kind → Found → Type 0
IsFoundOf kind found = IfSome found (λ f. IsOfKind kind f.0)

either : (P : Value → Type 0) (b : Bool) (one other : Found) → (b ≡ true → IfSome one (λ f. P f.0)) → IfSome other (λ f. P f.0) → IfSome (cond b one other) (λ f. P f.0)
either P true one other is not = is refl
either P false one other is not = not

number_fits : (kind : Kind) (n : ℕ) (value : ℕ → Value) (bytes : List ℕ) → ((m : ℕ) → IsOfKind kind (value m)) → IsFoundOf kind (number_in n value bytes)
number_fits kind n value bytes fits = either (IsOfKind kind) (nat_le n (length bytes)) (Some (value (number_at_head n bytes), drop n bytes)) None (λ long. fits (number_at_head n bytes)) tt

text_fits : (n : ℕ) (bytes : List ℕ) → IsFoundOf Character (text_in n bytes)
text_fits n bytes =
    either (IsOfKind Character) (nat_le n MAX_TEXT_BYTES) (cond (nat_le n (length bytes)) (Some (Text (take n bytes), drop n bytes)) None) None
    (λ few. either (IsOfKind Character) (nat_le n (length bytes)) (Some (Text (take n bytes), drop n bytes)) None (λ there. short (few_is few)) tt)
    tt
  where
    few_is : nat_le n MAX_TEXT_BYTES ≡ true → n ≤ MAX_TEXT_BYTES
    few_is few = grind (arith, nat_tests, few)

    short : n ≤ MAX_TEXT_BYTES → length (take n bytes) ≤ MAX_TEXT_BYTES
    short few = omega (arith, length-take n bytes, few)

truth_fits : (bytes : List ℕ) → IsFoundOf Truth (value_in Truth bytes)
truth_fits [] = tt
truth_fits (b ∷ bytes) =
    either (IsOfKind Truth) (b == 0) (Some (Logical false, bytes)) (cond (b == 1) (Some (Logical true, bytes)) None) (λ zero. tt)
    (either (IsOfKind Truth) (b == 1) (Some (Logical true, bytes)) None (λ one. tt) tt)

day_fits : (found : Found) → IsFoundOf Day (day_in found)
day_fits None = tt
day_fits (Some (Date d, rest)) = either (IsOfKind Day) (is_day d) (Some (Date d, rest)) None (λ is. is) tt
day_fits (Some (v, rest)) = tt

value_fits : (kind : Kind) (bytes : List ℕ) → IsFoundOf kind (value_in kind bytes)
value_fits Character bytes = either (IsOfKind Character) (nat_le 2 (length bytes)) (text_in (number_at_head 2 bytes) (drop 2 bytes)) None (λ long. text_fits (number_at_head 2 bytes) (drop 2 bytes)) tt
value_fits Integer bytes = number_fits Integer 4 (λ n. Int (cast_signed w32 n)) bytes signed_32
value_fits Whole64 bytes = number_fits Whole64 8 (λ n. Int64 (cast_signed w64 n)) bytes signed_64
value_fits Decimal bytes = number_fits Decimal 16 (λ n. Dec (cast_signed w128 n)) bytes signed_128
value_fits Truth bytes = truth_fits bytes
value_fits Day bytes = day_fits (number_in 4 (λ n. Date (cast_signed w32 n)) bytes)

-- ---- fields and rows

field_fits : (kind : Option Kind) (bytes : List ℕ) → IfSome (field_in kind bytes) (λ f. IsOfField kind f.0)
field_fits kind [] = tt
field_fits None (b ∷ bytes) = either (IsOfField None) (b == 0) (Some (Unknown, bytes)) None (λ zero. refl) tt
field_fits (Some kind) (b ∷ bytes) =
    either (IsOfKind kind) (b == 0) (Some (Unknown, bytes)) (cond (b == 1) (value_in kind bytes) None) (λ zero. tt) (either (IsOfKind kind) (b == 1) (value_in kind bytes) None (λ one. value_fits kind bytes) tt)

abbrev row_after : List (Option Kind) → Found → Option (List Value)
row_after kinds None = None
row_after kinds (Some found) = with_first found.0 (row_in kinds found.1)

first_fits : (kind : Option Kind) (kinds : List (Option Kind)) (v : Value) (vs : Option (List Value)) → IsOfField kind v → IfSome vs (FitsFields kinds) → IfSome (with_first v vs) (FitsFields (kind ∷ kinds))
first_fits kind kinds v None one more = tt
first_fits kind kinds v (Some vs) one more = (one, more)

after_fits : (kind : Option Kind) (kinds : List (Option Kind)) (found : Found) → IfSome found (λ f. IsOfField kind f.0) → ((rest : List ℕ) → IfSome (row_in kinds rest) (FitsFields kinds))
    → IfSome (row_after kinds found) (FitsFields (kind ∷ kinds))
after_fits kind kinds None one more = tt
after_fits kind kinds (Some found) one more = first_fits kind kinds found.0 (row_in kinds found.1) one (more found.1)

-- the row that is read fits the fields
pub row_fits : (kinds : List (Option Kind)) (bytes : List ℕ) → IfSome (row_in kinds bytes) (FitsFields kinds)
unfolding row_in
row_fits [] [] = tt
row_fits [] (b ∷ bytes) = tt
row_fits (kind ∷ kinds) bytes = after_fits kind kinds (field_in kind bytes) (field_fits kind bytes) (λ rest. row_fits kinds rest)
