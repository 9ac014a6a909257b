-- Which texts begin with which.
use Rattle.std.proofs.Common.{◌≡◌, ℕ, ◌-◌, ◌<◌, ◌≤◌, Bool, true, false, ◌==◌, ◌&&◌, nat_eq, List, [], ◌∷◌, length, take, drop, refl, sym, ap, ◌∙◌, arith}
use Rattle.std.proofs.lemmas.Bool.Decides.{nat_tests}
use Rattle.std.proofs.lemmas.List.{take_rest}
use Rattle.std.specs.List.{starts_with}
use Rattle.abl_values.specs.Order.{folded, folded_byte}
use Rattle.abl_values.specs.Schema.{same_name}
use Rattle.expression_meaning.specs.Operators.{begins_with}

-- the front of a text is the same in any case as another, of its length
pub begins_same : (xs ps : List ℕ) → length ps ≤ length xs → begins_with (folded xs) (folded ps) ≡ same_name (take (length ps) xs) ps
begins_same [] [] h = refl
begins_same (x ∷ xs) [] h = refl
begins_same [] (p ∷ ps) h = absurd (omega arith)
begins_same (x ∷ xs) (p ∷ ps) h = ap (λ (b : Bool). (folded_byte x == folded_byte p) && b) (begins_same xs ps (omega arith))

and_false : (b : Bool) → (b && false) ≡ false
and_false true = refl
and_false false = refl

-- a text that is shorter does not begin so
pub begins_short : (xs ps : List ℕ) → length xs < length ps → begins_with (folded xs) (folded ps) ≡ false
begins_short [] [] h = absurd (omega arith)
begins_short (x ∷ xs) [] h = absurd (omega arith)
begins_short [] (p ∷ ps) h = refl
begins_short (x ∷ xs) (p ∷ ps) h =
    ap (λ (b : Bool). (folded_byte x == folded_byte p) && b) (begins_short xs ps (omega arith)) ∙ and_false (folded_byte x == folded_byte p)

same_either_way : (a b : ℕ) → nat_eq a b ≡ nat_eq b a
same_either_way a b = grind (arith, nat_tests)

-- std's word for the front of a list
pub same_start : (xs ps : List ℕ) → starts_with nat_eq xs ps ≡ begins_with xs ps
same_start [] [] = refl
same_start (x ∷ xs) [] = refl
same_start [] (p ∷ ps) = refl
same_start (x ∷ xs) (p ∷ ps) =
    ap (λ (b : Bool). b && starts_with nat_eq xs ps) (same_either_way p x) ∙ ap (λ (b : Bool). nat_eq x p && b) (same_start xs ps)

-- the same of the rest of a list
pub starts_at : (found : Bool) (list d : List ℕ) (n : ℕ) → found ≡ starts_with nat_eq (take (length list - n) (drop n list)) d → begins_with (drop n list) d ≡ found
starts_at found list d n h =
    sym (h ∙ ap (λ (xs : List ℕ). starts_with nat_eq xs d) (take_rest list n) ∙ same_start (drop n list) d)
