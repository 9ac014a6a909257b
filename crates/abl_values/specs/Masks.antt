-- Which masks fit a kind.
use Rattle.std.specs.Prelude.{ℕ, Bool, true, false, not, ◌&&◌, ◌||◌, ◌==◌, nat_le, if◌then◌else◌, List, [], ◌∷◌, length, codes}
use Rattle.abl_base.specs.declared.limits.TheConstants.{MAX_NUMBER_MASK_BYTES}
use Rattle.std.specs.List.{list_all, list_any}
use Rattle.abl_base.specs.declared.value.Kind.{Kind}
use Rattle.abl_base.specs.declared.value.Kind.TheVariants.{Character, Integer, Int64, Decimal, Logical, Date}

-- what is left after the longest run of bytes that pass
abbrev pub after_run : (ℕ → Bool) → List ℕ → List ℕ
after_run passes [] = []
after_run passes (b ∷ bs) = if passes b then after_run passes bs else b ∷ bs

abbrev pub same_bytes : List ℕ → List ℕ → Bool
same_bytes [] [] = true
same_bytes [] (b ∷ bs) = false
same_bytes (a ∷ as_) [] = false
same_bytes (a ∷ as_) (b ∷ bs) = (a == b) && same_bytes as_ bs

-- ---- CHARACTER: `x(n)` with n from 1 to 999, or a run of `x`; capitals too

abbrev pub is_x : ℕ → Bool
is_x b = (b == 120) || (b == 88)

abbrev pub is_digit : ℕ → Bool
is_digit b = nat_le 48 b && nat_le b 57

-- a digit, and whether the number is not zero
abbrev pub is_digit_but : ℕ → ℕ → Bool
is_digit_but a b = is_digit b && not ((a == 48) && (b == 48))

-- one to three digits that are not all zero, and a closing parenthesis
abbrev pub is_width : List ℕ → Bool
is_width (a ∷ b ∷ []) = (is_digit a && not (a == 48)) && (b == 41)
is_width (a ∷ b ∷ c ∷ []) = (is_digit a && is_digit_but a b) && (c == 41)
is_width (a ∷ b ∷ c ∷ d ∷ []) =
    ((is_digit a && is_digit b) && (is_digit c && not ((a == 48) && ((b == 48) && (c == 48))))) && (d == 41)
is_width bs = false

abbrev pub is_text_mask : List ℕ → Bool
is_text_mask [] = false
is_text_mask (b ∷ []) = is_x b
is_text_mask (b ∷ c ∷ cs) = is_x b && (if c == 40 then is_width cs else list_all is_x (c ∷ cs))

-- ---- LOGICAL: two words with one `/` between them

-- all bytes but `/`
abbrev pub is_mask_word_byte : ℕ → Bool
is_mask_word_byte b = not (b == 47)

-- a `/` and a word
abbrev pub is_second_word : List ℕ → Bool
is_second_word [] = false
is_second_word (b ∷ []) = false
is_second_word (b ∷ c ∷ cs) = list_all is_mask_word_byte (c ∷ cs)

abbrev pub is_word_mask : List ℕ → Bool
is_word_mask [] = false
is_word_mask (b ∷ bs) = is_mask_word_byte b && is_second_word (after_run is_mask_word_byte bs)

-- ---- numbers: an optional `-`, then `>`, `z` and commas, then `9` and commas, then for a DECIMAL
-- an optional point and `9`s, with at least one sign of a digit, in at most 40 bytes

abbrev pub is_digit_sign : ℕ → Bool
is_digit_sign b = (b == 62) || ((b == 122) || ((b == 90) || (b == 57)))

abbrev pub is_floating : ℕ → Bool
is_floating b = (b == 62) || ((b == 122) || ((b == 90) || (b == 44)))

abbrev pub is_fixed : ℕ → Bool
is_fixed b = (b == 57) || (b == 44)

abbrev pub is_nine : ℕ → Bool
is_nine b = b == 57

abbrev pub without_minus : List ℕ → List ℕ
without_minus [] = []
without_minus (b ∷ bs) = if b == 45 then bs else b ∷ bs

-- nothing more, or for a DECIMAL a point and at least one `9`
abbrev pub is_fraction : Bool → List ℕ → Bool
is_fraction decimals [] = true
is_fraction decimals (b ∷ []) = false
is_fraction decimals (b ∷ c ∷ cs) = decimals && ((b == 46) && list_all is_nine (c ∷ cs))

abbrev pub is_number_mask : Bool → List ℕ → Bool
is_number_mask decimals mask =
    nat_le (length mask) MAX_NUMBER_MASK_BYTES && (list_any is_digit_sign mask
    && is_fraction decimals (after_run is_fixed (after_run is_floating (without_minus mask))))

-- ---- DATE

abbrev pub is_date_mask : List ℕ → Bool
is_date_mask mask = same_bytes mask (codes "99/99/99") || same_bytes mask (codes "99/99/9999")

-- the mask is one for values of the kind
unfoldable pub mask_is_for : List ℕ → Kind → Bool
mask_is_for mask Character = is_text_mask mask
mask_is_for mask Integer = is_number_mask false mask
mask_is_for mask Int64 = is_number_mask false mask
mask_is_for mask Decimal = is_number_mask true mask
mask_is_for mask Logical = is_word_mask mask
mask_is_for mask Date = is_date_mask mask
