-- Names.
use Rattle.std.specs.Prelude.{ℕ, ◌+◌, Bool, true, false, ◌&&◌, ◌==◌, nat_le, if◌then◌else◌, List, [], ◌∷◌, length}
use Rattle.preprocessor.specs.Modes.{is_letter, is_name_byte}

-- a letter as the small one, any other byte unchanged
abbrev pub lower : ℕ → ℕ
lower b = if nat_le 65 b && nat_le b 90 then b + 32 else b

-- the same but for the case of letters
abbrev pub same_name : List ℕ → List ℕ → Bool
same_name [] [] = true
same_name [] (b ∷ bs) = false
same_name (a ∷ as_) [] = false
same_name (a ∷ as_) (b ∷ bs) = (lower a == lower b) && same_name as_ bs

abbrev pub same_bytes : List ℕ → List ℕ → Bool
same_bytes [] [] = true
same_bytes [] (b ∷ bs) = false
same_bytes (a ∷ as_) [] = false
same_bytes (a ∷ as_) (b ∷ bs) = (a == b) && same_bytes as_ bs

-- the number of bytes of names that these bytes begin with
abbrev pub word_length : List ℕ → ℕ
word_length [] = 0
word_length (b ∷ bs) = if is_name_byte b then 1 + word_length bs else 0

-- a letter, then bytes of names
abbrev pub is_name : List ℕ → Bool
is_name [] = false
is_name (b ∷ bs) = if is_letter b then word_length bs == length bs else false
