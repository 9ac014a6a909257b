-- Listing the slots of a chain, one more at a time.
use Rattle.std.proofs.Common.{◌≡◌, ◌≢◌, ℕ, zero, suc, ◌-◌, Bool, true, false, cond, List, [], ◌∷◌, ◌++◌, append_assoc, refl, sym, ap, ◌∙◌, arith}
use Rattle.std.proofs.lemmas.List.{append-nil}
use Rattle.storage.specs.Slots.{SlotState, IsReadable, Rests}
use Rattle.row_fragments.specs.Fragments.{slots_from, ends, next_in}
use Rattle.row_fragments.proofs.Composes.{readable_on}

pub no_slot : (slots : ℕ → List ℕ) (at : ℕ) → slots_from zero slots at ≡ []
unfolding slots_from
no_slot slots at = refl

pub last_slot : (n : ℕ) (slots : ℕ → List ℕ) (at : ℕ) → ends at ≡ true → slots_from (suc n) slots at ≡ []
unfolding slots_from
last_slot n slots at e = ap (λ (b : Bool). cond b [] (at ∷ slots_from n slots (next_in (slots at)))) e

pub more_slots : (n : ℕ) (slots : ℕ → List ℕ) (at : ℕ) → ends at ≡ false → slots_from (suc n) slots at ≡ at ∷ slots_from n slots (next_in (slots at))
unfolding slots_from
more_slots n slots at e = ap (λ (b : Bool). cond b [] (at ∷ slots_from n slots (next_in (slots at)))) e

pub none_listed : (most : ℕ) (slots : ℕ → List ℕ) (at : ℕ) (xs : List ℕ) → most ≡ 0 → xs ≡ xs ++ slots_from most slots at
none_listed most slots at xs e = sym (append-nil xs) ∙ ap (λ (r : List ℕ). xs ++ r) (sym (ap (λ (n : ℕ). slots_from n slots at) e ∙ no_slot slots at))

pub end_listed : (most : ℕ) (slots : ℕ → List ℕ) (at : ℕ) (xs : List ℕ) → ends at ≡ true → xs ≡ xs ++ slots_from most slots at
end_listed zero slots at xs e = none_listed zero slots at xs refl
end_listed (suc n) slots at xs e = sym (append-nil xs) ∙ ap (λ (r : List ℕ). xs ++ r) (sym (last_slot n slots at e))

goes_on : (most : ℕ) (slots : ℕ → List ℕ) (at : ℕ) → most ≢ 0 → ends at ≡ false → slots_from most slots at ≡ at ∷ slots_from (most - 1) slots (next_in (slots at))
goes_on zero slots at ne e = absurd (ne refl)
goes_on (suc n) slots at ne e =
    let is : suc n - 1 ≡ n = omega arith in
    more_slots n slots at e ∙ ap (λ (m : ℕ). at ∷ slots_from m slots (next_in (slots at))) (sym is)

pub one_listed : (old new : SlotState) (most at : ℕ) (slot before between after : List ℕ) → Rests old new → new.failed ≡ old.failed → most ≢ 0 → ends at ≡ false
    → (IsReadable old → slot ≡ old.reads at) → between ≡ before ++ at ∷ []
    → (IsReadable new → after ≡ between ++ slots_from (most - 1) new.reads (next_in slot))
    → IsReadable old → after ≡ before ++ slots_from most old.reads at
one_listed old new most at slot before between after looks failed ne more slot_is between_is after_is readable =
    after_is (readable_on old new looks.keeps.observable failed readable)
    ∙ (ap (λ (r : List ℕ). r ++ slots_from (most - 1) new.reads (next_in slot)) between_is
    ∙ (append_assoc before (at ∷ []) (slots_from (most - 1) new.reads (next_in slot))
    ∙ ap (λ (r : List ℕ). before ++ r)
    (ap (λ (f : ℕ → List ℕ). at ∷ slots_from (most - 1) f (next_in slot)) (looks.reads readable)
    ∙ (ap (λ (b : List ℕ). at ∷ slots_from (most - 1) old.reads (next_in b)) (slot_is readable) ∙ sym (goes_on most old.reads at ne more)))))

-- the whole chain, from its first slot
pub chain_listed : (old new : SlotState) (row : ℕ) (slot first all : List ℕ) → Rests old new → new.failed ≡ old.failed → (IsReadable old → slot ≡ old.reads row) → first ≡ row ∷ []
    → (IsReadable new → all ≡ first ++ slots_from 124 new.reads (next_in slot)) → IsReadable old → all ≡ row ∷ slots_from 124 old.reads (next_in (old.reads row))
chain_listed old new row slot first all looks failed slot_is first_is all_is readable =
    all_is (readable_on old new looks.keeps.observable failed readable)
    ∙ (ap (λ (r : List ℕ). r ++ slots_from 124 new.reads (next_in slot)) first_is
    ∙ (ap (λ (f : ℕ → List ℕ). row ∷ slots_from 124 f (next_in slot)) (looks.reads readable) ∙ ap (λ (b : List ℕ). row ∷ slots_from 124 old.reads (next_in b)) (slot_is readable)))
