-- Decimal digits, one after the other.
use Rattle.std.proofs.Common.{◌≡◌, ◌<◌, ◌≤◌, ◌+◌, ◌*◌, ◌-◌, ◌^◌, ℕ, List, [], ◌∷◌, refl, arith, length, get_or, take, add-one, pow-suc}
use Rattle.std.proofs.Math.Seq.{take-suc}
use Rattle.std.proofs.lemmas.List.Sums.{fold-append}
use Rattle.command_arguments.specs.CommandLine.{number_of}

-- one digit more
pub number_of-take : (arg : List ℕ) (i : ℕ) → i < length arg → number_of (take (i + 1) arg) ≡ 10 * number_of (take i arg) + (get_or arg i 0 - 48)
number_of-take arg i below =
    rw (add-one i, take-suc arg i 0 below, fold-append (λ n digit. 10 * n + (digit - 48)) 0 (take i arg) (get_or arg i 0 ∷ [])) refl

-- a digit more is a place more
pub below_power : (n i digit : ℕ) → n < 10 ^ i → digit ≤ 9 → 10 * n + digit < 10 ^ (i + 1)
below_power n i digit below small = rw (add-one i, pow-suc 10 i) (omega arith)
