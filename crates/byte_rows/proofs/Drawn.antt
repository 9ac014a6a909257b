-- Free slots are drawn for a row.
use Rattle.std.proofs.Common.{◌≡◌, ◌≢◌, ◌⊎◌, inl, inr, ⊎_elim, ℕ, zero, suc, ◌+◌, ◌<◌, cond, eqb, Bool, true, false, List, [], ◌∷◌, ◌++◌, length, sym, ap, ◌∙◌, subst, arith}
use Rattle.std.specs.List.{Contains}
use Rattle.std.proofs.lemmas.Bool.Decides.{nat_tests}
use Rattle.free_slots.specs.Free.{AreSlots, Takes, without}
use Rattle.row_fragments.specs.Fragments.{ends, first_or_zero}
use Rattle.row_fragments.proofs.Within.{head_in, none_in, right_in, tail_in}
use Rattle.byte_rows.specs.declared.places.Place.{Place}
use Rattle.byte_rows.specs.Places.{AreLaid, place_in, row_in}
use Rattle.byte_rows.specs.Freed.{IsFreed}
use Rattle.byte_rows.proofs.Kept.{among, not_here}
use Rattle.byte_rows.proofs.Rewrites.{laid_place}

-- a slot that was not drawn is as free as before
pub takes_rest : (free : ℕ → ℕ) (drawn : List ℕ) (left : ℕ → ℕ) → Takes free drawn left → (k : ℕ) → ¬ Contains drawn k → left k ≡ free k
takes_rest free [] left takes k out = takes k
takes_rest free (slot ∷ later) left takes k out =
    takes_rest (without slot free) later left takes.2 k (λ there. out (tail_in slot k later there))
    ∙ not_here k slot 0 (free k) (λ is. out (subst (λ (n : ℕ). Contains (slot ∷ later) n) (sym is) (head_in slot later)))

pub without_here : (free : ℕ → ℕ) (slot : ℕ) → without slot free slot ≡ 0
without_here free slot = let same : eqb slot slot ≡ true = grind (arith, nat_tests) in ap (λ (b : Bool). cond b 0 (free slot)) same

-- a slot that was drawn is not free
pub takes_left : (free : ℕ → ℕ) (drawn : List ℕ) (left : ℕ → ℕ) → Takes free drawn left → (k : ℕ) → Contains drawn k → left k ≡ 0
takes_left free [] left takes k there = absurd (none_in k there)
takes_left free (slot ∷ later) left takes k (suc i, low, is) = takes_left (without slot free) later left takes.2 k (i, omega arith, is)
takes_left free (slot ∷ later) left takes k (zero, low, is) = subst (λ (n : ℕ). left n ≡ 0) is (⊎_elim
    (λ (again : Contains later slot). takes_left (without slot free) later left takes.2 slot again)
    (λ (once : ¬ Contains later slot). takes_rest (without slot free) later left takes.2 slot once ∙ without_here free slot)
    (among later slot))

parted : (xs ys : List ℕ) (n : ℕ) → Contains (xs ++ ys) n → Contains xs n ⊎ Contains ys n
parted [] ys n there = inr there
parted (x ∷ xs) ys n (zero, low, is) = inl (subst (Contains (x ∷ xs)) is (head_in x xs))
parted (x ∷ xs) ys n (suc i, low, is) = ⊎_elim (λ (l : Contains xs n). inl (tail_in x n xs l)) (λ (r : Contains ys n). inr r) (parted xs ys n (i, omega arith, is))

pub freed_after : (old new : List Place) (free left : ℕ → ℕ) (held drawn chain : List ℕ) (own row owner : ℕ) → chain ≡ held ++ drawn → Takes free drawn left → IsFreed free old
    → ((k : ℕ) → Contains held k → row_in old k ≡ own) → (0 < length held → 0 < own) → 0 < row → AreLaid new chain row 0 owner → ((k : ℕ) → ¬ Contains chain k → place_in new k ≡ place_in old k) → IsFreed left new
freed_after old new free left held drawn chain own row owner parts takes freed held_row some_own some_row laid rest = record { taken = taken; every = every }
  where
    own_held : (k : ℕ) → Contains held k → row_in old k ≢ 0
    own_held k there none =
        let low : there.0 < length held = there.1 in
        let some = some_own (omega (arith, low)) in
        let is = held_row k there in
        omega (arith, some, is, none)

    outside : (k : ℕ) → ¬ Contains chain k → ¬ Contains drawn k
    outside k out there = out (subst (λ (xs : List ℕ). Contains xs k) (sym parts) (right_in held drawn k there))

    taken : (k : ℕ) → row_in new k ≢ 0 → left k ≡ 0
    taken k ne = ⊎_elim (takes_left free drawn left takes k)
        (λ (out : ¬ Contains drawn k). takes_rest free drawn left takes k out ∙ ⊎_elim
        (λ (there : Contains held k). freed.taken k (own_held k there))
        (λ (off : ¬ Contains held k). freed.taken k (λ none. ne (ap (λ (p : Place). p.row) (rest k (λ there. ⊎_elim off out (parted held drawn k (subst (λ (xs : List ℕ). Contains xs k) parts there)))) ∙ none)))
        (among held k))
        (among drawn k)

    every : (k : ℕ) → ends k ≡ false → row_in new k ≡ 0 → left k ≡ 1
    every k within none = ⊎_elim
        (λ (there : Contains chain k). let is = (laid_place new chain row 0 owner laid k there).0 in absurd (omega (arith, is, none, some_row)))
        (λ (out : ¬ Contains chain k). takes_rest free drawn left takes k (outside k out) ∙ freed.every k within (sym (ap (λ (p : Place). p.row) (rest k out)) ∙ none))
        (among chain k)

-- the first slot of a row's is a slot for rows
pub first_some : (chain held drawn : List ℕ) (more : ℕ) → chain ≡ held ++ drawn → length drawn ≡ more → AreSlots drawn → 0 < length held + more → (0 < length held → 0 < first_or_zero held) → 0 < first_or_zero chain
first_some chain held drawn more parts long slots some low = subst (λ (xs : List ℕ). 0 < first_or_zero xs) (sym parts) (of held drawn long slots some low)
  where
    of : (held drawn : List ℕ) → length drawn ≡ more → AreSlots drawn → 0 < length held + more → (0 < length held → 0 < first_or_zero held) → 0 < first_or_zero (held ++ drawn)
    of (x ∷ xs) ys long slots some low = low (omega arith)
    of [] [] long slots some low = absurd (omega (arith, long, some))
    of [] (y ∷ ys) long slots some low = let high = slots.0 in omega (arith, high)
