-- Texts of digits, which masks, texts of values and schema files have in common.
use Rattle.std.specs.Prelude.{ℕ, Bool, false, ◌&&◌, ◌==◌, List, [], ◌∷◌, drop}
use Rattle.std.specs.List.{list_all, prefix_len}
use Rattle.abl_values.specs.Masks.{is_digit}
pub use Rattle.abl_base.specs.Digits.{number_of}

-- the bytes from the first that does not pass
abbrev pub from_first_not : (ℕ → Bool) → List ℕ → List ℕ
from_first_not passes bytes = drop (prefix_len passes bytes) bytes

-- the text begins with `-`
abbrev pub has_minus : List ℕ → Bool
has_minus [] = false
has_minus (b ∷ bs) = b == 45

-- one digit or more
abbrev pub are_digits : List ℕ → Bool
are_digits [] = false
are_digits (b ∷ bs) = is_digit b && list_all is_digit bs
