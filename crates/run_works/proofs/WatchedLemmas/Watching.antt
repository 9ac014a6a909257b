-- What a call of a disk leaves of an earlier moment.
use Rattle.std.proofs.Common.{◌≡◌, ◌⊎◌, inl, inr, ℕ, ◌+◌, ◌≤◌, ◌^◌, Bool, false, arith}

-- a moment that was past is past
pub still_past : (moment was now : ℕ) (ok : Bool) → moment ≤ was → (now ≡ was + 1) ⊎ ((ok ≡ false) × (2 ^ 64 ≤ was + 1) × (now ≡ was)) → moment ≤ now
still_past moment was now ok past (inl one) = omega (arith, past, one)
still_past moment was now ok past (inr none) = let same = none.2 in omega (arith, past, same)
