-- Slots counted from one on, and the parts of a list.
use Rattle.std.proofs.Common.{◌≡◌, ℕ, zero, suc, ◌+◌, ◌-◌, ◌<◌, ◌≤◌, List, length, get_or, take, drop, refl, sym, ◌∙◌, ap, arith, length-drop}
use Rattle.std.proofs.lemmas.List.{take_all}
use Rattle.database_layout.specs.contents.Chains.{counted}

pub length_counted : (at n : ℕ) → length (counted at n) ≡ n
length_counted at zero = refl
length_counted at (suc n) = ap suc (length_counted (suc at) n)

pub get_counted : (at n i : ℕ) → i < n → get_or (counted at n) i 0 ≡ at + i
get_counted at zero i lt = absurd (omega arith)
get_counted at (suc n) zero lt = omega arith
get_counted at (suc n) (suc i) lt = get_counted (suc at) n i (omega arith) ∙ omega arith

pub past_counted : (at n i : ℕ) → n ≤ i → get_or (counted at n) i 0 ≡ 0
past_counted at zero i le = refl
past_counted at (suc n) zero le = absurd (omega arith)
past_counted at (suc n) (suc i) le = past_counted (suc at) n i (omega arith)

-- the part of a list that begins at n, where no more than k items are left there
pub short_part : {A : Type 0} (k n : ℕ) (xs : List A) → length xs - n ≤ k → take (length xs - n) (drop n xs) ≡ take k (drop n xs)
short_part {A} k n xs few =
    let long = length-drop n xs in
    take_all (length xs - n) (drop n xs) (omega (arith, long)) ∙ sym (take_all k (drop n xs) (omega (arith, long, few)))

pub whole_part : {A : Type 0} (k n : ℕ) (xs : List A) → take (n + k - n) (drop n xs) ≡ take k (drop n xs)
whole_part k n xs = ap (λ (m : ℕ). take m (drop n xs)) same
  where
    same : n + k - n ≡ k
    same = omega arith
