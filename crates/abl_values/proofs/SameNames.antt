-- Names of different lengths are not the same.
use Rattle.std.proofs.Common.{◌≡◌, ◌≢◌, ℕ, suc, Bool, true, false, ◌==◌, ◌&&◌, List, [], ◌∷◌, length, refl, sym, ap, ◌∙◌, arith}
use Rattle.abl_values.specs.Order.{folded}
use Rattle.abl_values.specs.Masks.{same_bytes}
use Rattle.abl_values.specs.Schema.{same_name}

false_and : (b : Bool) → (b && false) ≡ false
false_and true = refl
false_and false = refl

pub same_bytes-length : (xs ys : List ℕ) → length xs ≢ length ys → same_bytes xs ys ≡ false
same_bytes-length [] [] h = absurd (h refl)
same_bytes-length [] (y ∷ ys) h = refl
same_bytes-length (x ∷ xs) [] h = refl
same_bytes-length (x ∷ xs) (y ∷ ys) h =
    ap (λ b. (x == y) && b) (same_bytes-length xs ys (λ e. h (omega arith))) ∙ false_and (x == y)

length-folded : (xs : List ℕ) → length (folded xs) ≡ length xs
length-folded [] = refl
length-folded (x ∷ xs) = ap suc (length-folded xs)

pub same_name-length : (a b : List ℕ) → length a ≢ length b → same_name a b ≡ false
same_name-length a b h =
    same_bytes-length (folded a) (folded b) (λ e. h (sym (length-folded a) ∙ e ∙ length-folded b))
