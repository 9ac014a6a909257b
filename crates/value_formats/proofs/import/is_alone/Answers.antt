use Rattle.std.proofs.Common.{◌≡◌, ◌≤◌, ◌==◌, ℕ, Bool, true, false, ◌&&◌, List, [], ◌∷◌, length, refl, arith}
use Rattle.abl_values.specs.Masks.{same_bytes}
use Rattle.value_formats.proofs.import.is_alone.Goals as goal

never : (b : Bool) → false ≡ b && false
never true = refl
never false = refl

-- a longer word is not one byte
no_longer : (word : List ℕ) (byte : ℕ) → 2 ≤ length word → false ≡ same_bytes word (byte ∷ [])
no_longer [] byte h = refl
no_longer (a ∷ []) byte h = absurd (omega arith)
no_longer (a ∷ b ∷ bs) byte h = never (a == byte)

pub returns-in-len2-up : goal.returns-in-len2-up
returns-in-len2-up c = no_longer c.args.word.now c.args.byte c.in-len2-up.len_at_least
