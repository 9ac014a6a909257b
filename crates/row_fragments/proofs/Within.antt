-- Slots among others.
use Rattle.std.proofs.Common.{◌≡◌, ◌≢◌, ◌⊎◌, inl, inr, ⊎_elim, ℕ, zero, suc, ◌<◌, List, [], ◌∷◌, ◌++◌, length, refl, sym, subst, arith}
use Rattle.std.specs.List.{Contains}

pub none_in : (k : ℕ) → ¬ Contains {X = ℕ} [] k
none_in k h = let lt : h.0 < 0 = h.1 in absurd (omega arith)

pub head_in : (x : ℕ) (xs : List ℕ) → Contains (x ∷ xs) x
head_in x xs = (0, omega arith, refl)

pub tail_in : (x y : ℕ) (xs : List ℕ) → Contains xs y → Contains (x ∷ xs) y
tail_in x y xs h = (suc h.0, (let lt : h.0 < length xs = h.1 in omega arith), h.2)

pub only : (at k : ℕ) → Contains (at ∷ []) k → k ≡ at
only at k (zero, within, is) = sym is
only at k (suc i, within, is) = absurd (omega arith)

pub not_only : (at k : ℕ) → k ≢ at → ¬ Contains (at ∷ []) k
not_only at k ne there = ne (only at k there)

pub left_in : (xs ys : List ℕ) (k : ℕ) → Contains xs k → Contains (xs ++ ys) k
left_in [] ys k h = absurd (none_in k h)
left_in (x ∷ xs) ys k (zero, within, is) = (0, omega arith, is)
left_in (x ∷ xs) ys k (suc i, within, is) = tail_in x k (xs ++ ys) (left_in xs ys k (i, omega arith, is))

pub right_in : (xs ys : List ℕ) (k : ℕ) → Contains ys k → Contains (xs ++ ys) k
right_in [] ys k h = h
right_in (x ∷ xs) ys k h = tail_in x k (xs ++ ys) (right_in xs ys k h)

-- a slot of two lists is of one of them
pub parted : (xs ys : List ℕ) (k : ℕ) → Contains (xs ++ ys) k → Contains xs k ⊎ Contains ys k
parted [] ys k h = inr h
parted (x ∷ xs) ys k (zero, within, is) = inl (subst (Contains (x ∷ xs)) is (head_in x xs))
parted (x ∷ xs) ys k (suc i, within, is) = ⊎_elim (λ (l : Contains xs k). inl (tail_in x k xs l)) (λ (r : Contains ys k). inr r) (parted xs ys k (i, omega arith, is))

-- a slot of a list is its first or among the others
pub first_or_rest : (x : ℕ) (xs : List ℕ) (k : ℕ) → Contains (x ∷ xs) k → Contains xs k ⊎ Contains (x ∷ []) k
first_or_rest x xs k (zero, within, is) = inr (subst (Contains (x ∷ [])) is (head_in x []))
first_or_rest x xs k (suc i, within, is) = inl (i, omega arith, is)
