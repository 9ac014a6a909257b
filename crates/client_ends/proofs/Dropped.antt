-- What is left of a list, and entries that were pushed.
use Rattle.std.proofs.Common.{◌≡◌, ℕ, zero, suc, List, [], ◌∷◌, ◌++◌, refl, sym, ap, ◌∙◌, drop, map}
use Rattle.std.specs.Prelude.{reverse}
use Rattle.std.proofs.lemmas.List.{reverse-append}

pub drop_map : {A B : Type 0} (f : A → B) (n : ℕ) (xs : List A) → drop n (map f xs) ≡ map f (drop n xs)
drop_map f zero xs = refl
drop_map f (suc n) [] = refl
drop_map f (suc n) (x ∷ xs) = drop_map f n xs

-- the same for the next item
pub next_mapped : {A B : Type 0} (f : A → B) (n k : ℕ) (x : A) (xs : List A) → drop n xs ≡ x ∷ drop k xs → drop n (map f xs) ≡ f x ∷ drop k (map f xs)
next_mapped f n k x xs e = drop_map f n xs ∙ ap (map f) e ∙ ap (λ ys. f x ∷ ys) (sym (drop_map f k xs))

-- ---- entries that were pushed

pub pushed_one : {A : Type 0} (xs ys : List A) (x : A) → ys ≡ xs ++ x ∷ [] → reverse ys ≡ (x ∷ []) ++ reverse xs
pushed_one xs ys x e = ap reverse e ∙ reverse-append xs (x ∷ [])

pub pushed_two : {A : Type 0} (xs ys zs : List A) (x y : A) → ys ≡ xs ++ x ∷ [] → zs ≡ ys ++ y ∷ [] → reverse zs ≡ (y ∷ x ∷ []) ++ reverse xs
pushed_two xs ys zs x y e f = pushed_one ys zs y f ∙ ap (λ rs. y ∷ rs) (pushed_one xs ys x e)

pub pushed_three : {A : Type 0} (xs ys zs ws : List A) (x y z : A) → ys ≡ xs ++ x ∷ [] → zs ≡ ys ++ y ∷ [] → ws ≡ zs ++ z ∷ [] → reverse ws ≡ (z ∷ y ∷ x ∷ []) ++ reverse xs
pushed_three xs ys zs ws x y z e f g = pushed_one zs ws z g ∙ ap (λ rs. z ∷ rs) (pushed_two xs ys zs x y e f)
