-- Vectors that are used up, one element after the other.
use Rattle.std.proofs.Common.{◌≡◌, ◌<◌, ◌++◌, ◌∙◌, ℕ, List, [], ◌∷◌, sym, ap, arith, length, take}
use Rattle.std.proofs.lemmas.List.{take-append-le, take_all}
use Rattle.std.specs.Prelude.{remove, slice_index_or}

-- a list before others, up to its length
pub whole_of : {A : Type 0} (n : ℕ) (xs ys : List A) → length xs ≡ n → take n (xs ++ ys) ≡ xs
whole_of n xs ys e = take-append-le n xs ys (omega (arith, e)) ∙ take_all n xs (omega (arith, e))

-- the first element, and the others
pub first_removed : {A : Type 0} (xs ys : List A) (x : A) → 0 < length xs → x ≡ slice_index_or xs 0 x → ys ≡ remove xs 0 → xs ≡ x ∷ ys
first_removed [] ys x some value items = absurd (omega (arith, some))
first_removed (y ∷ xs) ys x some value items = ap (λ z. z ∷ xs) (sym value) ∙ ap (λ zs. x ∷ zs) (sym items)
