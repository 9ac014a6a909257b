use Rattle.std.proofs.Common.{◌≡◌, ◌≤◌, ◌∷◌, ℕ, zero, suc, List, subst, arith}
use Rattle.std.specs.List.{Contains}
use Rattle.byte_rows.proofs.places.+highest.Goals as goal

-- the first of the slots, or one of the others
within : (slots rest : List ℕ) (first most : ℕ) → slots ≡ first ∷ rest → first ≤ most → ((k : ℕ) → Contains rest k → k ≤ most) → (k : ℕ) → Contains slots k → k ≤ most
within slots rest first most is le below k there = one (subst (λ (xs : List ℕ). Contains xs k) is there)
  where
    one : Contains (first ∷ rest) k → k ≤ most
    one (zero, low, same) = subst (λ (n : ℕ). n ≤ most) same le
    one (suc i, low, same) = below k (i, omega arith, same)

pub returns-then-most-first : goal.returns-then-most-first
returns-then-most-first t c = within c.args.slots.now c.in-Some.rest.now c.in-Some.first.now c.in-Some.first.now c.in-Some.ensures.cases.0 (omega arith)
    (λ k there. let le = c.highest-most.ensures k there in let lt = c.if-most-first.true in omega (arith, le, lt))

pub returns-else-most-first : goal.returns-else-most-first
returns-else-most-first t c = within c.args.slots.now c.in-Some.rest.now c.in-Some.first.now c.highest-most.result c.in-Some.ensures.cases.0 (let le = c.if-most-first.false in omega (arith, le)) c.highest-most.ensures
