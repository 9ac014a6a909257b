-- The numbers that digits spell, byte by byte.
use Rattle.std.proofs.Common.{◌≡◌, ℕ, zero, suc, ◌+◌, ◌-◌, ◌*◌, ◌^◌, ◌<◌, ◌≤◌, List, [], ◌∷◌, length, take, get_or, arith, fold}
use Rattle.std.proofs.Math.Nat.{pow-le-pow_right, one-le-pow, mul-le-mul_left}
use Rattle.std.proofs.lemmas.Grind.{pow_more}
use Rattle.std.proofs.lemmas.List.Sums.{fold_more}
use Rattle.abl_values.specs.Digits.{number_of}

pub one_more : (ds : List ℕ) (i : ℕ) → i < length ds → number_of (take (i + 1) ds) ≡ number_of (take i ds) * 10 + (get_or ds i 0 - 48)
one_more ds i h = fold_more (λ n b. n * 10 + (b - 48)) 0 ds i 0 h

-- a number only grows by further digits
grown : (ds : List ℕ) (n : ℕ) → n ≤ fold (λ n b. n * 10 + (b - 48)) n ds
grown [] n = omega arith
grown (d ∷ ds) n = omega (arith, grown ds (n * 10 + (d - 48)))

front_below : (ds : List ℕ) (i n : ℕ) → fold (λ n b. n * 10 + (b - 48)) n (take i ds) ≤ fold (λ n b. n * 10 + (b - 48)) n ds
front_below [] zero n = omega arith
front_below [] (suc i) n = omega arith
front_below (d ∷ ds) zero n = grown (d ∷ ds) n
front_below (d ∷ ds) (suc i) n = front_below ds i (n * 10 + (d - 48))

-- the first digits spell no more than all
pub first_below : (ds : List ℕ) (i : ℕ) → number_of (take i ds) ≤ number_of ds
first_below ds i = front_below ds i 0

-- the number with one more digit is no more than that of all
pub next_below : (ds : List ℕ) (i n : ℕ) → n ≡ number_of (take i ds) → i < length ds → n * 10 + (get_or ds i 0 - 48) ≤ number_of ds
next_below ds i n e h = omega (arith, one_more ds i h, first_below ds (i + 1), e)

pub ten_below : (ds : List ℕ) (i n : ℕ) → n ≡ number_of (take i ds) → i < length ds → n * 10 ≤ number_of ds
ten_below ds i n e h = omega (arith, next_below ds i n e h)

pub ten_most : (i k : ℕ) → i ≤ k → 10 ^ i ≤ 10 ^ k
ten_most i k h = pow-le-pow_right {n = 10} (omega arith) h

pub ten_more : (i : ℕ) → 10 ^ (i + 1) ≡ 10 ^ i * 10
ten_more i = pow_more 10 i

-- units are no less than the number
pub units_most : (n k : ℕ) → n ≤ n * 10 ^ k
units_most n k = let one : 1 ≤ 10 ^ k = one-le-pow k 10 (omega arith) in omega (arith, mul-le-mul_left n one)
