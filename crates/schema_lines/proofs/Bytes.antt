-- Texts of different lengths have not the same bytes.
use Rattle.std.proofs.Common.{◌≡◌, ◌≢◌, ℕ, Bool, true, false, ◌==◌, ◌&&◌, List, [], ◌∷◌, length, refl, ap, ◌∙◌, arith}
use Rattle.abl_values.specs.Masks.{same_bytes}

false_and : (b : Bool) → (b && false) ≡ false
false_and true = refl
false_and false = refl

pub same_bytes-length : (xs ys : List ℕ) → length xs ≢ length ys → same_bytes xs ys ≡ false
same_bytes-length [] [] h = absurd (h refl)
same_bytes-length [] (y ∷ ys) h = refl
same_bytes-length (x ∷ xs) [] h = refl
same_bytes-length (x ∷ xs) (y ∷ ys) h =
    ap (λ b. (x == y) && b) (same_bytes-length xs ys (λ e. h (omega arith))) ∙ false_and (x == y)
