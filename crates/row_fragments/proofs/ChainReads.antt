-- Reading a chain, one fragment more at a time.
use Rattle.std.proofs.Common.{◌≡◌, ◌≢◌, ℕ, zero, suc, ◌-◌, Bool, true, false, cond, List, [], ◌++◌, append_assoc, refl, sym, ap, ◌∙◌, arith}
use Rattle.std.proofs.lemmas.List.{append-nil}
use Rattle.storage.specs.Slots.{SlotState, IsReadable, Rests}
use Rattle.row_fragments.specs.Fragments.{bytes_from, ends, content_in, next_in}
use Rattle.row_fragments.proofs.Composes.{readable_on}

none_more : (slots : ℕ → List ℕ) (at : ℕ) → bytes_from zero slots at ≡ []
unfolding bytes_from
none_more slots at = refl

pub none_left : (most : ℕ) (slots : ℕ → List ℕ) (at : ℕ) (xs : List ℕ) → most ≡ 0 → xs ≡ xs ++ bytes_from most slots at
none_left most slots at xs e = sym (append-nil xs) ∙ ap (λ (r : List ℕ). xs ++ r) (sym (ap (λ (n : ℕ). bytes_from n slots at) e ∙ none_more slots at))

ended_at : (n : ℕ) (slots : ℕ → List ℕ) (at : ℕ) → ends at ≡ true → bytes_from (suc n) slots at ≡ []
unfolding bytes_from
ended_at n slots at e = ap (λ (b : Bool). cond b [] (content_in (slots at) ++ bytes_from n slots (next_in (slots at)))) e

goes_at : (n : ℕ) (slots : ℕ → List ℕ) (at : ℕ) → ends at ≡ false → bytes_from (suc n) slots at ≡ content_in (slots at) ++ bytes_from n slots (next_in (slots at))
unfolding bytes_from
goes_at n slots at e = ap (λ (b : Bool). cond b [] (content_in (slots at) ++ bytes_from n slots (next_in (slots at)))) e

pub ended : (most : ℕ) (slots : ℕ → List ℕ) (at : ℕ) (xs : List ℕ) → ends at ≡ true → xs ≡ xs ++ bytes_from most slots at
ended zero slots at xs e = none_left zero slots at xs refl
ended (suc n) slots at xs e = sym (append-nil xs) ∙ ap (λ (r : List ℕ). xs ++ r) (sym (ended_at n slots at e))

pub goes_on : (most : ℕ) (slots : ℕ → List ℕ) (at : ℕ) → most ≢ 0 → ends at ≡ false → bytes_from most slots at ≡ content_in (slots at) ++ bytes_from (most - 1) slots (next_in (slots at))
goes_on zero slots at ne e = absurd (ne refl)
goes_on (suc n) slots at ne e =
    let is : suc n - 1 ≡ n = omega arith in
    goes_at n slots at e ∙ ap (λ (m : ℕ). content_in (slots at) ++ bytes_from m slots (next_in (slots at))) (sym is)

-- a fragment and the bytes after it
pub fragment_more : (old new : SlotState) (most at : ℕ) (slot before between after : List ℕ) → Rests old new → new.failed ≡ old.failed → most ≢ 0 → ends at ≡ false
    → (IsReadable old → slot ≡ old.reads at) → between ≡ before ++ content_in slot
    → (IsReadable new → after ≡ between ++ bytes_from (most - 1) new.reads (next_in slot))
    → IsReadable old → after ≡ before ++ bytes_from most old.reads at
fragment_more old new most at slot before between after looks failed ne more slot_is between_is after_is readable =
    let reads = looks.reads readable in
    let is = slot_is readable in
    after_is (readable_on old new looks.keeps.observable failed readable)
    ∙ (ap (λ (r : List ℕ). r ++ bytes_from (most - 1) new.reads (next_in slot)) between_is
    ∙ (append_assoc before (content_in slot) (bytes_from (most - 1) new.reads (next_in slot))
    ∙ ap (λ (r : List ℕ). before ++ r)
    (ap (λ (f : ℕ → List ℕ). content_in slot ++ bytes_from (most - 1) f (next_in slot)) reads
    ∙ (ap (λ (b : List ℕ). content_in b ++ bytes_from (most - 1) old.reads (next_in b)) is ∙ sym (goes_on most old.reads at ne more)))))
