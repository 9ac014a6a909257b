-- Numbers that may not be there.
use Rattle.std.proofs.Common.{◌≡◌, ℕ, ◌+◌, Option, Some, None, refl, ap, arith}
use Rattle.preprocessor.specs.Braces.{one_more}

-- n more
abbrev pub more : ℕ → Option ℕ → Option ℕ
more n None = None
more n (Some m) = Some (m + n)

pub more_one : (n : ℕ) (o : Option ℕ) → more n (one_more o) ≡ more (n + 1) o
more_one n None = refl
more_one n (Some m) = let e : m + 1 + n ≡ m + (n + 1) = omega arith in ap (λ k. Some k) e

pub more_none : (o : Option ℕ) → o ≡ more 0 o
more_none None = refl
more_none (Some m) = let e : m ≡ m + 0 = omega arith in ap (λ k. Some k) e
