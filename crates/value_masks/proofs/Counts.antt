-- How many digits a number has.
use Rattle.std.proofs.Common.{◌≡◌, ℕ, zero, suc, ◌+◌, ◌/◌, ◌%◌, ◌^◌, ◌<◌, ◌≤◌, [], ◌∷◌, length, inl, inr, sym, ap, ◌∙◌, arith}
use Rattle.std.specs.Prelude.{◌==◌}
use Rattle.std.specs.Fmt.{decimal}
use Rattle.std.proofs.lemmas.List.{length-append}
use Rattle.std.proofs.lemmas.Bool.{cases_lt, cond-false, ne_eqb}
use Rattle.std.proofs.lemmas.Fmt.{decimal_digit, decimal_step_wide, length-decimal-le_wide}
use Rattle.value_masks.specs.Put.{digit_count}

digit_count_some : (n : ℕ) → 0 < n → digit_count n ≡ length (decimal n)
digit_count_some n h = cond-false (n == 0) 0 (length (decimal n)) (ne_eqb n 0 (λ e. omega arith))

digit_count_one : (n : ℕ) → 0 < n → n < 10 → digit_count n ≡ digit_count (n / 10) + 1
digit_count_one n h low =
    let none : n / 10 ≡ 0 = omega arith in
    digit_count_some n h ∙ ap length (decimal_digit n low) ∙ sym (ap (λ (i : ℕ). digit_count i + 1) none)

digit_count_more : (n : ℕ) → 10 ≤ n → n < 10 ^ 64 → digit_count n ≡ digit_count (n / 10) + 1
digit_count_more n h wide =
    digit_count_some n (omega arith) ∙ ap length (decimal_step_wide n h wide)
    ∙ length-append (decimal (n / 10)) ((48 + n % 10) ∷ []) ∙ sym (ap (λ (i : ℕ). i + 1) (digit_count_some (n / 10) (omega arith)))

pub digit_count_step : (n : ℕ) → 0 < n → n < 2 ^ 128 → digit_count n ≡ digit_count (n / 10) + 1
digit_count_step n h wide = elim (cases_lt n 10) [
  | inl low ↦ digit_count_one n h low
  | inr high ↦ digit_count_more n high (omega arith)
]

pub digit_count_most : (n : ℕ) → n < 2 ^ 128 → digit_count n ≤ 39
digit_count_most zero wide = omega arith
digit_count_most (suc n) wide =
    let some = digit_count_some (suc n) (omega arith) in
    let most = length-decimal-le_wide 39 (suc n) (omega arith) (omega arith) (omega arith) in
    omega arith
