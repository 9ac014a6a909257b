-- Magnitudes rounded to the decimals of a mask: at most ten are computed, and the others are zeros.
use Rattle.std.proofs.Common.{◌≡◌, ℕ, zero, suc, ◌+◌, ◌-◌, ◌*◌, ◌/◌, ◌%◌, ◌^◌, ◌<◌, ◌≤◌, min, List, [], ◌∷◌, ◌++◌, inl, inr, sym, ap, subst, ◌∙◌, append_assoc, arith}
use Rattle.std.specs.Prelude.{replicate, nat_lt}
use Rattle.std.proofs.Math.Nat.{mul-div-mul_left, mul-div-mul_right, mul-add-div_right, min-eq_left, min-eq_right, mul_assoc, mul-pos, one-le-pow, pow-suc, pow-le-pow_right}
use Rattle.std.proofs.lemmas.Nat.{pow-add}
use Rattle.std.proofs.lemmas.List.{append-nil, replicate_more}
use Rattle.std.proofs.lemmas.Bool.{cases_lt, lt-ltb}
use Rattle.abl_values.specs.Arithmetic.{rounded}
use Rattle.abl_values.specs.Texts.{last_digits}
use Rattle.value_masks.specs.Put.{units_of}

pub ten_positive : (k : ℕ) → 0 < 10 ^ k
ten_positive k = let h = one-le-pow k 10 (omega arith) in omega arith

pub ten_small : (k : ℕ) → k ≤ 10 → 10 ^ k ≤ 10000000000
ten_small k h = pow-le-pow_right {n = 10} (omega arith) h

-- a common factor of what is rounded and of the divisor
rounded_common : (p q m : ℕ) → 0 < p → rounded (m * p) (p * q) ≡ rounded m q
rounded_common p q m h =
    let top : 2 * (m * p) + p * q ≡ p * (2 * m + q) = omega arith in
    let low : 2 * (p * q) ≡ p * (2 * q) = omega arith in
    ap (λ (t : ℕ). t / (2 * (p * q))) top ∙ ap (λ (t : ℕ). p * (2 * m + q) / t) low ∙ mul-div-mul_left (2 * m + q) (2 * q) h

units_few : (d m : ℕ) → d ≤ 10 → units_of d m ≡ rounded m (10 ^ (10 - d))
units_few d m h =
    let parts : 10 ≡ d + (10 - d) = omega arith in
    let whole : 10000000000 ≡ 10 ^ d * 10 ^ (10 - d) = ap (λ (k : ℕ). 10 ^ k) parts ∙ pow-add 10 d (10 - d) in
    ap (λ (t : ℕ). rounded (m * 10 ^ d) t) whole ∙ rounded_common (10 ^ d) (10 ^ (10 - d)) m (ten_positive d)

units_many : (j m : ℕ) → units_of (10 + j) m ≡ m * 10 ^ j
units_many j m =
    let power : 10 ^ (10 + j) ≡ 10000000000 * 10 ^ j = pow-add 10 10 j in
    let top : 2 * (m * (10000000000 * 10 ^ j)) + 10000000000 ≡ m * 10 ^ j * 20000000000 + 10000000000 = omega arith in
    ap (λ (t : ℕ). (2 * (m * t) + 10000000000) / 20000000000) power ∙ ap (λ (t : ℕ). t / 20000000000) top
    ∙ mul-add-div_right {m = 20000000000} (omega arith) (m * 10 ^ j) 10000000000 ∙ omega arith

rounded_one : (m : ℕ) → rounded m 1 ≡ m
rounded_one m = omega arith

-- multiplying a number by 10^j appends j zeros to its last digits
last_digits_scaled : (k j m : ℕ) → last_digits (k + j) (m * 10 ^ j) ≡ last_digits k m ++ replicate j 48
last_digits_scaled k zero m =
    let none : k + 0 ≡ k = omega arith in
    let same : m * 1 ≡ m = omega arith in
    ap (λ (i : ℕ). last_digits i (m * 1)) none ∙ ap (λ (n : ℕ). last_digits k n) same ∙ sym (append-nil (last_digits k m))
last_digits_scaled k (suc j) m =
    let more : k + suc j ≡ suc (k + j) = omega arith in
    let power = pow-suc 10 j in
    let scaled : m * 10 ^ suc j ≡ m * 10 ^ j * 10 = ap (λ (t : ℕ). m * t) power ∙ sym (mul_assoc m (10 ^ j) 10) in
    let front : m * 10 ^ j * 10 / 10 ≡ m * 10 ^ j = omega arith in
    let last : m * 10 ^ j * 10 % 10 ≡ 0 = omega arith in
    let one : j + 1 ≡ suc j = omega arith in
    ap (λ (i : ℕ). last_digits i (m * 10 ^ suc j)) more ∙ ap (λ (n : ℕ). last_digits (suc (k + j)) n) scaled
    ∙ ap (λ (n : ℕ). last_digits (k + j) n ++ (48 + m * 10 ^ j * 10 % 10) ∷ []) front
    ∙ ap (λ (n : ℕ). last_digits (k + j) (m * 10 ^ j) ++ (48 + n) ∷ []) last
    ∙ ap (λ (ds : List ℕ). ds ++ 48 ∷ []) (last_digits_scaled k j m)
    ∙ append_assoc (last_digits k m) (replicate j 48) (48 ∷ [])
    ∙ ap (λ (ds : List ℕ). last_digits k m ++ ds) (replicate_more j 48 ∙ ap (λ (i : ℕ). replicate i 48) one)

-- what `Rounded::of` computes of a magnitude, under a mask with this number of decimals
pub record IsRounded (d m k u : ℕ) : Type 0 where
  pub whole : u / 10 ^ k ≡ units_of d m / 10 ^ d
  pub behind : last_digits k u ++ replicate (d - k) 48 ≡ last_digits d (units_of d m)
  pub zero : nat_lt 0 u ≡ nat_lt 0 (units_of d m)

rounded_few : (d m : ℕ) → d ≤ 10 → IsRounded d m d (rounded m (10 ^ (10 - d)))
rounded_few d m h =
    let e = units_few d m h in
    let none : d - d ≡ 0 = omega arith in
    record {
      whole = ap (λ (u : ℕ). u / 10 ^ d) (sym e);
      behind = ap (λ (i : ℕ). last_digits d (rounded m (10 ^ (10 - d))) ++ replicate i 48) none ∙ append-nil (last_digits d (rounded m (10 ^ (10 - d)))) ∙ ap (λ (u : ℕ). last_digits d u) (sym e);
      zero = ap (λ (u : ℕ). nat_lt 0 u) (sym e);
    }

positive_scaled : (j m : ℕ) → nat_lt 0 m ≡ nat_lt 0 (m * 10 ^ j)
positive_scaled j m = elim (cases_lt 0 m) [
  | inl h ↦ lt-ltb 0 m h ∙ sym (lt-ltb 0 (m * 10 ^ j) (mul-pos h (ten_positive j)))
  | inr h ↦ let none : m ≡ 0 = omega arith in subst (λ (x : ℕ). nat_lt 0 x ≡ nat_lt 0 (x * 10 ^ j)) (sym none) (ap (λ (x : ℕ). nat_lt 0 x) (let z : 0 ≡ 0 * 10 ^ j = omega arith in z))
]

rounded_tail : (j m : ℕ) → IsRounded (10 + j) m 10 (rounded m 1)
rounded_tail j m =
    let one = rounded_one m in
    let many = units_many j m in
    let rest : 10 + j - 10 ≡ j = omega arith in
    record {
      whole = ap (λ (u : ℕ). u / 10000000000) one ∙ sym (mul-div-mul_right m 10000000000 (ten_positive j))
          ∙ sym (ap (λ (t : ℕ). m * 10 ^ j / t) (pow-add 10 10 j)) ∙ sym (ap (λ (u : ℕ). u / 10 ^ (10 + j)) many);
      behind = ap (λ (u : ℕ). last_digits 10 u ++ replicate (10 + j - 10) 48) one
          ∙ ap (λ (i : ℕ). last_digits 10 m ++ replicate i 48) rest
          ∙ sym (last_digits_scaled 10 j m) ∙ sym (ap (λ (u : ℕ). last_digits (10 + j) u) many);
      zero = ap (λ (u : ℕ). nat_lt 0 u) one ∙ positive_scaled j m ∙ sym (ap (λ (u : ℕ). nat_lt 0 u) many);
    }

rounded_many : (d m : ℕ) → 10 ≤ d → IsRounded d m 10 (rounded m 1)
rounded_many d m h =
    let whole : 10 + (d - 10) ≡ d = omega arith in
    subst (λ (i : ℕ). IsRounded i m 10 (rounded m 1)) whole (rounded_tail (d - 10) m)

is_rounded : (d m : ℕ) → IsRounded d m (min d 10) (rounded m (10 ^ (10 - min d 10)))
is_rounded d m = elim (cases_lt 10 d) [
  | inl h ↦ subst (λ (k : ℕ). IsRounded d m k (rounded m (10 ^ (10 - k)))) (sym (min-eq_right (let g : 10 ≤ d = omega arith in g))) (rounded_many d m (omega arith))
  | inr h ↦ subst (λ (k : ℕ). IsRounded d m k (rounded m (10 ^ (10 - k)))) (sym (min-eq_left h)) (rounded_few d m h)
]

pub rounded_as_kept : (d m k p u : ℕ) → k ≡ min d 10 → p ≡ 10 ^ (10 - k) → u ≡ rounded m p → IsRounded d m k u
rounded_as_kept d m k p u few power kept =
    let all = is_rounded d m in
    let value : rounded m (10 ^ (10 - min d 10)) ≡ u = ap (λ (i : ℕ). rounded m (10 ^ (10 - i))) (sym few) ∙ ap (λ (t : ℕ). rounded m t) (sym power) ∙ sym kept in
    subst (λ (i : ℕ). IsRounded d m i u) (sym few) (subst (λ (x : ℕ). IsRounded d m (min d 10) x) value all)
