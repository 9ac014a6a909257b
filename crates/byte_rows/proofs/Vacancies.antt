-- The free slots are the vacant ones, once each ended transaction is settled.
use Rattle.std.proofs.Common.{◌≡◌, ◌≢◌, inl, inr, ℕ, zero, suc, ◌+◌, ◌<◌, ◌≤◌, Bool, true, false, List, [], ◌∷◌, length, refl, sym, ap, ◌∙◌, subst, arith}
use Rattle.std.specs.List.{Contains}
use Rattle.std.proofs.lemmas.Bool.{cases_eq, cases_lt}
use Rattle.std.proofs.lemmas.Bool.Decides.{nat_tests}
use Rattle.std.proofs.lemmas.List.Sums.{sum_by-cons}
use Rattle.storage.specs.Slots.{SlotState, Transaction, IsReadable, Rests}
use Rattle.free_slots.specs.Free.{AreDifferent, Takes, times, without}
use Rattle.free_slots.proofs.Popped.{one, one_other}
use Rattle.row_fragments.specs.Fragments.{AreDistinct, ends, first_or_zero, kind_in}
use Rattle.row_fragments.proofs.Within.{head_in, none_in, tail_in}
use Rattle.byte_rows.specs.declared.places.Place.{Place}
use Rattle.byte_rows.specs.Exact.{AreVacant, IsExact, IsVacant}
use Rattle.byte_rows.specs.Freed.{IsFreed, IsLowest}
use Rattle.byte_rows.specs.Places.{IsKept, owner_in, row_in}
use Rattle.byte_rows.proofs.Drawn.{without_here}
use Rattle.byte_rows.proofs.Kept.{not_both, not_here}

not_true : (b : Bool) → (b ≡ true → ⊥) → b ≡ false
not_true true never = absurd (never refl)
not_true false never = refl

module _ (s : SlotState) (places : List Place) (free : ℕ → ℕ) (kept : IsKept s places) (freed : IsFreed free places) (exact : IsExact s places) (readable : IsReadable s) where
  row_free : (k : ℕ) → free k ≡ 1 → row_in places k ≡ 0
  row_free k is = elim (cases_eq (row_in places k) 0) [
    | inl e ↦ e
    | inr ne ↦ let taken = freed.taken k ne in absurd (omega (arith, taken, is))
  ]

  -- a free slot is vacant
  pub free_vacant : (k : ℕ) → ends k ≡ false → free k ≡ 1 → IsVacant s k
  free_vacant k inside is =
      let none : row_in places k ≡ 0 = row_free k is in
      record {
        inside = inside;
        empty = (kept.fits readable k (s.reads k) inside (inl refl)).free none;
        apart = λ c begun. not_true ((s.transaction c).written k) (λ w.
            let own = kept.owned c k inside begun w in
            let no = exact.free k inside none in
            omega (arith, own, no));
      }

  -- a vacant slot is free
  pub vacant_free : ((c k : ℕ) → c < 16 → (s.transaction c).begun ≡ false → ends k ≡ false → owner_in places k ≢ c + 1) → (k : ℕ) → IsVacant s k → free k ≡ 1
  vacant_free settled k v = elim (cases_eq (row_in places k) 0) [
    | inl e ↦ freed.every k v.inside e
    | inr ne ↦ absurd (held ne (owner_in places k) refl)
  ]
    where
      begun_or : (c : ℕ) → c < 16 → owner_in places k ≡ c + 1 → (b : Bool) → (s.transaction c).begun ≡ b → ⊥
      begun_or c low own true begun = not_both ((s.transaction c).written k) (exact.marked c k v.inside begun own) (v.apart c begun)
      begun_or c low own false idle = settled c k low idle v.inside own

      held : row_in places k ≢ 0 → (o : ℕ) → owner_in places k ≡ o → ⊥
      held ne zero is = exact.held readable k v.inside ne is v.empty
      held ne (suc c) is =
          let few = exact.few k v.inside in
          let own : owner_in places k ≡ c + 1 = omega (arith, is) in
          begun_or c (omega (arith, few, own)) own (s.transaction c).begun refl

-- each slot that was drawn was free
pub takes_free : (free : ℕ → ℕ) (drawn : List ℕ) (left : ℕ → ℕ) → Takes free drawn left → (k : ℕ) → Contains drawn k → free k ≡ 1
takes_free free [] left takes k there = absurd (none_in k there)
takes_free free (slot ∷ later) left takes k (zero, low, is) = subst (λ (n : ℕ). free n ≡ 1) is takes.0
takes_free free (slot ∷ later) left takes k (suc i, low, is) =
    let then : without slot free k ≡ 1 = takes_free (without slot free) later left takes.2 k (i, omega arith, is) in
    elim (cases_eq k slot) [
      | inl e ↦ let none = ap (without slot free) e ∙ without_here free slot in absurd (omega (arith, then, none))
      | inr ne ↦ sym (not_here k slot 0 (free k) ne) ∙ then
    ]

-- no slot was drawn twice
pub takes_distinct : (free : ℕ → ℕ) (drawn : List ℕ) (left : ℕ → ℕ) → Takes free drawn left → AreDistinct drawn
takes_distinct free [] left takes = tt
takes_distinct free (slot ∷ later) left takes = (
  λ there. let then = takes_free (without slot free) later left takes.2 slot there in let none = without_here free slot in omega (arith, then, none),
  takes_distinct (without slot free) later left takes.2,
)

-- different slots, by how often each is among them
times_none : (x : ℕ) (xs : List ℕ) → ¬ Contains xs x → times x xs ≡ 0
times_none x [] out = refl
times_none x (y ∷ ys) out =
    let step = sum_by-cons (one x) y ys in
    let here = one_other x y (λ e. out (subst (λ (n : ℕ). Contains (y ∷ ys) n) e (head_in y ys))) in
    let rest = times_none x ys (λ there. out (tail_in y x ys there)) in
    omega (arith, step, here, rest)

pub different_of : (xs : List ℕ) → AreDistinct xs → AreDifferent xs
different_of [] apart = tt
different_of (x ∷ xs) apart = (times_none x xs apart.0, different_of xs apart.1)

-- what is vacant stays so while nothing changes
pub vacant_on : (s t : SlotState) → Rests s t → IsReadable s → (slots : List ℕ) → AreVacant s slots → AreVacant t slots
vacant_on s t r readable slots v = record {
  different = v.different;
  each = λ k there.
      let e = v.each k there in
      record {
        inside = e.inside;
        empty = ap (λ (f : ℕ → List ℕ). kind_in (f k)) (r.reads readable) ∙ e.empty;
        apart = λ c begun. ap (λ (f : ℕ → Transaction). (f c).written k) r.transaction ∙ e.apart c (ap (λ (f : ℕ → Transaction). (f c).begun) (sym r.transaction) ∙ begun);
      };
}

pub vacant_was : (s t : SlotState) → Rests s t → IsReadable s → (slots : List ℕ) → AreVacant t slots → AreVacant s slots
vacant_was s t r readable slots v = record {
  different = v.different;
  each = λ k there.
      let e = v.each k there in
      record {
        inside = e.inside;
        empty = ap (λ (f : ℕ → List ℕ). kind_in (f k)) (sym (r.reads readable)) ∙ e.empty;
        apart = λ c begun. ap (λ (f : ℕ → Transaction). (f c).written k) (sym r.transaction) ∙ e.apart c (ap (λ (f : ℕ → Transaction). (f c).begun) r.transaction ∙ begun);
      };
}

-- the first slot that was drawn was the lowest free one
pub takes_lowest : (free : ℕ → ℕ) (drawn : List ℕ) (left : ℕ → ℕ) → Takes free drawn left → 0 < length drawn → IsLowest free (first_or_zero drawn)
takes_lowest free [] left takes some = absurd (omega (arith, some))
takes_lowest free (slot ∷ later) left takes some = (takes.0, takes.1)

-- there is one lowest free slot
pub one_lowest : (free : ℕ → ℕ) (a b : ℕ) → IsLowest free a → IsLowest free b → a ≡ b
one_lowest free a b x y = elim (cases_lt a b) [
  | inl lt ↦ let none = y.1 a lt in let one = x.0 in absurd (omega (arith, none, one))
  | inr le ↦ elim (cases_lt b a) [
    | inl lt ↦ let none = x.1 b lt in let one = y.0 in absurd (omega (arith, none, one))
    | inr ge ↦ omega (arith, le, ge)
  ]
]

-- no open transaction wrote a free slot
pub free_unwritten : (s : SlotState) (places : List Place) (free : ℕ → ℕ) → IsKept s places → IsFreed free places → IsExact s places → (k : ℕ) → ends k ≡ false → free k ≡ 1
    → (c : ℕ) → (s.transaction c).begun ≡ true → (s.transaction c).written k ≡ false
free_unwritten s places free kept freed exact k inside is c begun = not_true ((s.transaction c).written k) (λ w.
    let own = kept.owned c k inside begun w in
    let no = exact.free k inside (slot_free free places freed k is) in
    omega (arith, own, no))
  where
    slot_free : (free : ℕ → ℕ) (places : List Place) → IsFreed free places → (k : ℕ) → free k ≡ 1 → row_in places k ≡ 0
    slot_free free places freed k is = elim (cases_eq (row_in places k) 0) [
      | inl e ↦ e
      | inr ne ↦ let taken = freed.taken k ne in absurd (omega (arith, taken, is))
    ]

pub vacant_one : (s t : SlotState) → Rests s t → IsReadable s → (k : ℕ) → IsVacant s k → IsVacant t k
vacant_one s t r readable k e = record {
  inside = e.inside;
  empty = ap (λ (f : ℕ → List ℕ). kind_in (f k)) (r.reads readable) ∙ e.empty;
  apart = λ c begun. ap (λ (f : ℕ → Transaction). (f c).written k) r.transaction ∙ e.apart c (ap (λ (f : ℕ → Transaction). (f c).begun) (sym r.transaction) ∙ begun);
}

pub vacant_back : (s t : SlotState) → Rests s t → IsReadable s → (k : ℕ) → IsVacant t k → IsVacant s k
vacant_back s t r readable k e = record {
  inside = e.inside;
  empty = ap (λ (f : ℕ → List ℕ). kind_in (f k)) (sym (r.reads readable)) ∙ e.empty;
  apart = λ c begun. ap (λ (f : ℕ → Transaction). (f c).written k) (sym r.transaction) ∙ e.apart c (ap (λ (f : ℕ → Transaction). (f c).begun) r.transaction ∙ begun);
}

-- the lowest free slot, where the free slots are the same
pub least_on : (free left : ℕ → ℕ) (slot : ℕ) → ((k : ℕ) → left k ≡ free k) → IsLowest free slot → IsLowest left slot
least_on free left slot same is = (same slot ∙ is.0, λ k lt. same k ∙ is.1 k lt)

-- a slot for rows
pub inside_of : (slot : ℕ) → 8192 ≤ slot → slot < 1048576 → ends slot ≡ false
inside_of slot low high = grind (arith, nat_tests)
