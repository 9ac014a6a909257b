-- No list of different free slots is longer than their number.
use Rattle.std.proofs.Common.{◌≡◌, ◌≢◌, inl, inr, ℕ, zero, suc, ◌+◌, ◌-◌, ◌<◌, ◌≤◌, cond, leb, Bool, true, false, List, [], ◌∷◌, length, refl, subst, arith}
use Rattle.std.specs.List.{Contains}
use Rattle.std.proofs.lemmas.Bool.{cases_eq}
use Rattle.std.proofs.lemmas.Bool.Decides.{nat_tests}
use Rattle.std.proofs.lemmas.List.Sums.{sum_by-cons}
use Rattle.free_slots.specs.Free.{AreDifferent, free_in, times}
use Rattle.free_slots.proofs.Popped.{one, one_same, one_other, one_small}

-- the sum of a number of each
abbrev total : (ℕ → ℕ) → List ℕ → ℕ
total f [] = 0
total f (x ∷ xs) = f x + total f xs

total_le : (f g : ℕ → ℕ) (xs : List ℕ) → ((x : ℕ) → f x ≤ g x) → total f xs ≤ total g xs
total_le f g [] le = omega arith
total_le f g (x ∷ xs) le = let here = le x in let rest = total_le f g xs le in omega (arith, here, rest)

total_add : (f g : ℕ → ℕ) (xs : List ℕ) → total (λ x. f x + g x) xs ≡ total f xs + total g xs
total_add f g [] = refl
total_add f g (x ∷ xs) = let rest = total_add f g xs in omega (arith, rest)

total_none : (f : ℕ → ℕ) (xs : List ℕ) → ((x : ℕ) → f x ≡ 0) → total f xs ≡ 0
total_none f [] none = refl
total_none f (x ∷ xs) none = let here = none x in let rest = total_none f xs none in omega (arith, here, rest)

total_times : (z : ℕ) (xs : List ℕ) → total (one z) xs ≡ times z xs
total_times z [] = refl
total_times z (x ∷ xs) = let rest = total_times z xs in let step = sum_by-cons (one z) x xs in omega (arith, rest, step)

total_ones : (f : ℕ → ℕ) (xs : List ℕ) → ((k : ℕ) → Contains xs k → f k ≡ 1) → total f xs ≡ length xs
total_ones f [] each = refl
total_ones f (x ∷ xs) each =
    let here = each x (0, omega arith, refl) in
    let rest = total_ones f xs (λ k there. each k (suc there.0, (let low : there.0 < length xs = there.1 in omega (arith, low)), there.2)) in
    omega (arith, here, rest)

once : (xs : List ℕ) → AreDifferent xs → (z : ℕ) → times z xs ≤ 1
once [] apart z = omega arith
once (x ∷ xs) apart z =
    let step = sum_by-cons (one z) x xs in
    elim (cases_eq x z) [
      | inl e ↦ let here = one_same z x e in let none : times z xs ≡ 0 = subst (λ (n : ℕ). times n xs ≡ 0) e apart.0 in omega (arith, step, here, none)
      | inr ne ↦ let here = one_other z x ne in let rest = once xs apart.1 z in omega (arith, step, here, rest)
    ]

-- ---- the slots that were given back

abbrev given : List ℕ → ℕ → ℕ
given back x = cond (leb 1048576 x) 0 (times (1048575 - x) back)

given_more : (y : ℕ) (ys : List ℕ) (x : ℕ) → given (y ∷ ys) x ≤ one (1048575 - y) x + given ys x
given_more y ys x =
    let step = sum_by-cons (one (1048575 - x)) y ys in
    of (leb 1048576 x) refl step
  where
    meets : leb 1048576 x ≡ false → one (1048575 - x) y ≤ one (1048575 - y) x
    meets near = elim (cases_eq x (1048575 - y)) [
      | inl e ↦ let there = one_same (1048575 - y) x e in let few = one_small (1048575 - x) y in omega (arith, there, few)
      | inr ne ↦
          let low : x < 1048576 = grind (arith, nat_tests, near) in
          let apart : y ≢ 1048575 - x = λ e. ne (omega (arith, e, low)) in
          let here = one_other (1048575 - x) y apart in
          omega (arith, here)
    ]

    of : (b : Bool) → leb 1048576 x ≡ b → times (1048575 - x) (y ∷ ys) ≡ one (1048575 - x) y + times (1048575 - x) ys → cond b 0 (times (1048575 - x) (y ∷ ys)) ≤ one (1048575 - y) x + cond b 0 (times (1048575 - x) ys)
    of true is step = omega arith
    of false is step = let here = meets is in omega (arith, step, here)

given_none : (x : ℕ) → given [] x ≡ 0
given_none x = of (leb 1048576 x)
  where
    of : (b : Bool) → cond b 0 (times (1048575 - x) []) ≡ 0
    of true = refl
    of false = refl

given_most : (back slots : List ℕ) → AreDifferent slots → total (given back) slots ≤ length back
given_most [] slots apart = let none = total_none (given []) slots given_none in omega (arith, none)
given_most (y ∷ ys) slots apart =
    let more = total_le (given (y ∷ ys)) (λ x. one (1048575 - y) x + given ys x) slots (given_more y ys) in
    let parts = total_add (one (1048575 - y)) (given ys) slots in
    let is = total_times (1048575 - y) slots in
    let few = once slots apart (1048575 - y) in
    let rest = given_most ys slots apart in
    omega (arith, more, parts, is, few, rest)

-- ---- those from the end on

abbrev inside : ℕ → ℕ → ℕ → ℕ
inside lo n x = cond (leb lo x) (cond (leb (lo + n) x) 0 1) 0

inside_none : (lo x : ℕ) → inside lo 0 x ≡ 0
inside_none lo x = grind (arith, nat_tests)

inside_more : (lo n x : ℕ) → inside lo (suc n) x ≤ inside lo n x + one (lo + n) x
inside_more lo n x = grind (arith, nat_tests)

inside_most : (lo n : ℕ) (slots : List ℕ) → AreDifferent slots → total (inside lo n) slots ≤ n
inside_most lo zero slots apart = let none = total_none (inside lo 0) slots (inside_none lo) in omega (arith, none)
inside_most lo (suc n) slots apart =
    let more = total_le (inside lo (suc n)) (λ x. inside lo n x + one (lo + n) x) slots (inside_more lo n) in
    let parts = total_add (inside lo n) (one (lo + n)) slots in
    let is = total_times (lo + n) slots in
    let few = once slots apart (lo + n) in
    let rest = inside_most lo n slots apart in
    omega (arith, more, parts, is, few, rest)

-- ---- both

split : (back : List ℕ) (end x : ℕ) → end ≤ 1048576 → free_in back end x ≤ given back x + inside end (1048576 - end) x
split back end x high = of (leb 1048576 x) refl (leb end x) (leb (end + (1048576 - end)) x) refl
  where
    of : (far : Bool) → leb 1048576 x ≡ far → (past over : Bool) → leb (end + (1048576 - end)) x ≡ over
        → cond far 0 (times (1048575 - x) back + cond past 1 0) ≤ cond far 0 (times (1048575 - x) back) + cond past (cond over 0 1) 0
    of true is past over e = omega arith
    of false is false over e = omega arith
    of false is true false e = omega arith
    of false is true true e =
        let low : x < 1048576 = grind (arith, nat_tests, is) in
        let reach : end + (1048576 - end) ≤ x = grind (arith, nat_tests, e) in
        absurd (omega (arith, low, reach, high))

-- different free slots are no more than there are
pub most_free : (back : List ℕ) (end : ℕ) (slots : List ℕ) → end ≤ 1048576 → AreDifferent slots → ((k : ℕ) → Contains slots k → free_in back end k ≡ 1) → length slots ≤ length back + (1048576 - end)
most_free back end slots high apart each =
    let all = total_ones (free_in back end) slots each in
    let more = total_le (free_in back end) (λ x. given back x + inside end (1048576 - end) x) slots (λ x. split back end x high) in
    let parts = total_add (given back) (inside end (1048576 - end)) slots in
    let one_part = given_most back slots apart in
    let other_part = inside_most end (1048576 - end) slots apart in
    omega (arith, all, more, parts, one_part, other_part)
