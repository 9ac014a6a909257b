-- The last of the &IFs that are open, and those before it.
use Rattle.std.proofs.Common.{◌≡◌, ℕ, suc, ◌-◌, Bool, List, [], ◌∷◌, length, take, slice_get, refl, ap, ◌∙◌, arith}
use Rattle.preprocessor.specs.Texts.{all_but_last, last_of}

one_less : (x y : Bool) (ys : List Bool) → length (x ∷ y ∷ ys) - 1 ≡ suc (length (y ∷ ys) - 1)
one_less x y ys = omega arith

pub last_got : (xs : List Bool) → slice_get xs (length xs - 1) ≡ last_of xs
last_got [] = refl
last_got (x ∷ []) = refl
last_got (x ∷ y ∷ ys) = ap (slice_get (x ∷ y ∷ ys)) (one_less x y ys) ∙ last_got (y ∷ ys)

pub front_taken : (xs : List Bool) → take (length xs - 1) xs ≡ all_but_last xs
front_taken [] = refl
front_taken (x ∷ []) = refl
front_taken (x ∷ y ∷ ys) = ap (λ (k : ℕ). take k (x ∷ y ∷ ys)) (one_less x y ys) ∙ ap (λ (zs : List Bool). x ∷ zs) (front_taken (y ∷ ys))
