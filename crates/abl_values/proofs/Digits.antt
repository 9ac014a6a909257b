-- The last digits of a number, one by one.
use Rattle.std.proofs.Common.{◌≡◌, ℕ, zero, suc, ◌+◌, ◌-◌, ◌/◌, ◌%◌, ◌<◌, [], ◌∷◌, ◌++◌, sym, ap, arith}
use Rattle.abl_values.specs.Texts.{last_digits}

pub last_digits_more : (k n : ℕ) → 0 < k → last_digits k n ≡ last_digits (k - 1) (n / 10) ++ (48 + n % 10) ∷ []
last_digits_more zero n h = absurd (omega arith)
last_digits_more (suc k) n h =
    let back : suc k - 1 ≡ k = omega arith in
    ap (λ (j : ℕ). last_digits j (n / 10) ++ (48 + n % 10) ∷ []) (sym back)
