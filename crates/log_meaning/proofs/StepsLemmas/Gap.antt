-- Why a slot past the end of area 0 may be written only once those before it have notes: a write past the end may leave any bytes between the old end and it.
use Rattle.std.proofs.Common.{ℕ, [], ◌∷◌, arith}
use Rattle.storage.specs.Disk.{Torn}

-- a crash in a write of the fifth byte of an empty area may leave two bytes that nobody wrote
pub a_gap_may_hold_anything : (x y : ℕ) → Torn 4 1 [] (x ∷ y ∷ [])
a_gap_may_hold_anything x y = record { no_shorter = omega arith; no_longer = omega arith; below = λ i lt before. absurd (omega (arith, lt)); above = λ i lt after. absurd (omega (arith, lt)) }
