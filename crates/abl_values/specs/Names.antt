-- Names, and what the items of a schema are found by.
use Rattle.std.specs.Prelude.{◌≡◌, ◌≤◌, ℕ, Bool, false, ◌&&◌, ◌||◌, ◌==◌, nat_le, List, [], ◌∷◌, length, map}
use Rattle.std.specs.List.{All, list_all}
use Rattle.abl_base.specs.declared.limits.TheConstants.{MAX_NAME_BYTES}
use Rattle.arrayvec.specs.ArrayVec.{ArrayVec}
use Rattle.abl_values.specs.Order.{folded}
use Rattle.abl_values.specs.Masks.{is_digit}

-- ---- names

abbrev pub is_letter : ℕ → Bool
is_letter b = (nat_le 65 b && nat_le b 90) || (nat_le 97 b && nat_le b 122)

-- letters, digits and `# $ % & - _`
abbrev pub is_name_byte : ℕ → Bool
is_name_byte b = (is_letter b || is_digit b) || ((nat_le 35 b && nat_le b 38) || ((b == 45) || (b == 95)))

-- a letter, then letters, digits and signs, at most 32 bytes
abbrev pub is_name : List ℕ → Bool
is_name [] = false
is_name (b ∷ bs) = is_letter b && (list_all is_name_byte bs && nat_le (length (b ∷ bs)) MAX_NAME_BYTES)

-- ---- keys

-- a name in any case: its ASCII letters small
abbrev pub key_of : List ℕ → ArrayVec ℕ
key_of name = record { items = folded name }

-- a name has at most 32 bytes
abbrev pub IsShort : List ℕ → Type 0
IsShort name = length name ≤ MAX_NAME_BYTES

-- the keys are those of the names, which are short
pub record HaveKeys (names : List (List ℕ)) (keys : List (ArrayVec ℕ)) : Type 0 where
  pub keys_are : keys ≡ map key_of names
  pub short : All IsShort names
