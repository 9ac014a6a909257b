-- A slot of an ended transaction is free again, or is nobody's change any more.
use Rattle.std.proofs.Common.{◌≡◌, ◌≢◌, ◌⊎◌, inl, inr, ⊎_elim, ℕ, ◌+◌, cond, eqb, Bool, true, false, List, [], sym, ap, ◌∙◌, subst, arith}
use Rattle.std.proofs.lemmas.Bool.{cases_eq}
use Rattle.std.proofs.lemmas.Bool.Decides.{nat_tests}
use Rattle.storage.specs.Slots.{SlotState, IsReadable, wrote}
use Rattle.storage.specs.declared.slots.Undo.{Undo}
use Rattle.row_fragments.specs.Fragments.{ends, kind_in, next_in}
use Rattle.row_fragments.specs.Calls.{Covers}
use Rattle.row_fragments.specs.Tied.{IsValue}
use Rattle.row_fragments.proofs.Composes.{covers_wrote}
use Rattle.byte_rows.specs.declared.places.Place.{Place}
use Rattle.byte_rows.specs.Places.{Fits, IsKept, IsLeft, no_place, owner_in, place_in, previous_in, row_in}
use Rattle.byte_rows.proofs.Kept.{free_ends, not_both, not_here}

-- what was at another slot, or here
set_here : (k n : ℕ) (x y : Place) → k ≡ n → cond (eqb k n) x y ≡ x
set_here k n x y e = let same : eqb k n ≡ true = grind (arith, nat_tests, e) in ap (λ (b : Bool). cond b x y) same

module _ (s : SlotState) (places : List Place) (kept : IsKept s places) (slot client : ℕ) (within : ends slot ≡ false) (own : owner_in places slot ≡ client + 1) (idle : (s.transaction client).begun ≡ false) where
  -- a slot that nobody changes, or a client whose transaction ended, has one value
  one_value : (k : ℕ) (bytes : List ℕ) → ends k ≡ false → (owner_in places k ≡ 0) ⊎ (owner_in places k ≡ client + 1) → IsValue s k bytes → bytes ≡ s.reads k
  one_value k bytes inside free (inl is) = is
  one_value k bytes inside free (inr (c, there)) = absurd (⊎_elim
      (λ (none : owner_in places k ≡ 0). let noted = kept.noted c k inside (covers_wrote (s.transaction c).undo k bytes there) in absurd (omega (arith, none, noted)))
      (λ (mine : owner_in places k ≡ client + 1).
      let noted = kept.noted c k inside (covers_wrote (s.transaction c).undo k bytes there) in
      let same : c ≡ client = omega (arith, mine, noted) in
      let empty : (s.transaction c).undo ≡ [] = kept.idle c (ap (λ (n : ℕ). (s.transaction n).begun) same ∙ idle) in
      let none : Covers [] k bytes = subst (λ (us : List Undo). Covers us k bytes) empty there in
      none)
      free)

  not_begun : (c : ℕ) → owner_in places slot ≡ c + 1 → (s.transaction c).begun ≡ false
  not_begun c is = let same : c ≡ client = omega (arith, own, is) in ap (λ (n : ℕ). (s.transaction n).begun) same ∙ idle

  -- the slot is nobody's change any more
  module _ (new : List Place) (there : (k : ℕ) → place_in new k ≡ cond (eqb k slot) (record { row = row_in places slot; previous = previous_in places slot; owner = 0 }) (place_in places k)) where
    same_row : (k : ℕ) → (row_in new k ≡ row_in places k) × (previous_in new k ≡ previous_in places k)
    same_row k = elim (cases_eq k slot) [
      | inl e ↦
          let here = there k ∙ set_here k slot (record { row = row_in places slot; previous = previous_in places slot; owner = 0 }) (place_in places k) e in
          (ap (λ (p : Place). p.row) here ∙ ap (row_in places) (sym e), ap (λ (p : Place). p.previous) here ∙ ap (previous_in places) (sym e))
      | inr ne ↦
          let other = there k ∙ not_here k slot (record { row = row_in places slot; previous = previous_in places slot; owner = 0 }) (place_in places k) ne in
          (ap (λ (p : Place). p.row) other, ap (λ (p : Place). p.previous) other)
    ]

    same_owner : (k c : ℕ) → ((s.transaction c).begun ≡ true) ⊎ (wrote (s.transaction c).undo k ≡ true) → owner_in places k ≡ c + 1 → owner_in new k ≡ c + 1
    same_owner k c live is = elim (cases_eq k slot) [
      | inl e ↦ absurd (dead (not_begun c (ap (owner_in places) (sym e) ∙ is)))
      | inr ne ↦ ap (λ (p : Place). p.owner) (there k ∙ not_here k slot (record { row = row_in places slot; previous = previous_in places slot; owner = 0 }) (place_in places k) ne) ∙ is
    ]
      where
        dead : (s.transaction c).begun ≡ false → ⊥
        dead ended = ⊎_elim (λ (b : (s.transaction c).begun ≡ true). not_both (s.transaction c).begun b ended)
            (λ (w : wrote (s.transaction c).undo k ≡ true). not_both (wrote (s.transaction c).undo k) w (ap (λ (us : List Undo). wrote us k) (kept.idle c ended))) live

    pub disowning_keeps : IsKept s new
    disowning_keeps = record {
      owned = λ c k inside begun written. same_owner k c (inl begun) (kept.owned c k inside begun written);
      noted = λ c k inside written. same_owner k c (inr written) (kept.noted c k inside written);
      idle = kept.idle;
      fits = λ readable k bytes inside is.
          let f = kept.fits readable k bytes inside is in
          record {
            first = λ kind. (same_row k).0 ∙ f.first kind;
            next = λ more. (same_row (next_in bytes)).0 ∙ (f.next more ∙ sym (same_row k).0);
            after = λ more. (same_row (next_in bytes)).1 ∙ f.after more;
            free = λ none. f.free (sym (same_row k).0 ∙ none);
          };
    }

  -- the slot is free
  module _ (new : List Place) (left : IsReadable s → IsLeft s.reads places slot) (there : (k : ℕ) → place_in new k ≡ cond (eqb k slot) no_place (place_in places k)) where
    freed : (k : ℕ) → k ≡ slot → place_in new k ≡ no_place
    freed k e = there k ∙ set_here k slot no_place (place_in places k) e

    stays : (k : ℕ) → k ≢ slot → place_in new k ≡ place_in places k
    stays k ne = there k ∙ not_here k slot no_place (place_in places k) ne

    owner_stays : (k c : ℕ) → ((s.transaction c).begun ≡ true) ⊎ (wrote (s.transaction c).undo k ≡ true) → owner_in places k ≡ c + 1 → owner_in new k ≡ c + 1
    owner_stays k c live is = elim (cases_eq k slot) [
      | inl e ↦ absurd (dead (not_begun c (ap (owner_in places) (sym e) ∙ is)))
      | inr ne ↦ ap (λ (p : Place). p.owner) (stays k ne) ∙ is
    ]
      where
        dead : (s.transaction c).begun ≡ false → ⊥
        dead ended = ⊎_elim (λ (b : (s.transaction c).begun ≡ true). not_both (s.transaction c).begun b ended)
            (λ (w : wrote (s.transaction c).undo k ≡ true). not_both (wrote (s.transaction c).undo k) w (ap (λ (us : List Undo). wrote us k) (kept.idle c ended))) live

    -- nothing that the slot may hold is more than zeros, and nothing points to it
    holds_nothing : IsReadable s → (bytes : List ℕ) → IsValue s slot bytes → kind_in bytes ≡ 0
    holds_nothing readable bytes is = ap kind_in (one_value slot bytes within (inr own) is) ∙ (left readable).empty

    apart : IsReadable s → (k : ℕ) (bytes : List ℕ) → ends k ≡ false → IsValue s k bytes → ends (next_in bytes) ≡ false → next_in bytes ≢ slot
    apart readable k bytes inside is more to =
        let before : previous_in places slot ≡ k = ap (previous_in places) (sym to) ∙ (kept.fits readable k bytes inside is).after more in
        let l = (left readable).before (ap ends before ∙ inside) in
        let free : (owner_in places k ≡ 0) ⊎ (owner_in places k ≡ owner_in places slot) = subst (λ (n : ℕ). (owner_in places n ≡ 0) ⊎ (owner_in places n ≡ owner_in places slot)) before l.0 in
        let value : bytes ≡ s.reads k = one_value k bytes inside (⊎_elim (λ none. inl none) (λ (mine : owner_in places k ≡ owner_in places slot). inr (mine ∙ own)) free) is in
        l.1 (ap (λ (n : ℕ). next_in (s.reads n)) before ∙ (ap next_in (sym value) ∙ to))

    fits_still : IsReadable s → (k : ℕ) (bytes : List ℕ) → ends k ≡ false → IsValue s k bytes → Fits new k bytes
    fits_still readable k bytes inside is = elim (cases_eq k slot) [
      | inl e ↦
          let none : kind_in bytes ≡ 0 = holds_nothing readable bytes (subst (λ (n : ℕ). IsValue s n bytes) e is) in
          record {
            first = λ kind. absurd (omega (arith, none, kind));
            next = λ more. absurd (not_both (ends (next_in bytes)) (free_ends bytes none) more);
            after = λ more. absurd (not_both (ends (next_in bytes)) (free_ends bytes none) more);
            free = λ gone. none;
          }
      | inr ne ↦
          let f = kept.fits readable k bytes inside is in
          record {
            first = λ kind. ap (λ (p : Place). p.row) (stays k ne) ∙ f.first kind;
            next = λ more. ap (λ (p : Place). p.row) (stays (next_in bytes) (apart readable k bytes inside is more)) ∙ (f.next more ∙ sym (ap (λ (p : Place). p.row) (stays k ne)));
            after = λ more. ap (λ (p : Place). p.previous) (stays (next_in bytes) (apart readable k bytes inside is more)) ∙ f.after more;
            free = λ none. f.free (sym (ap (λ (p : Place). p.row) (stays k ne)) ∙ none);
          }
    ]

    pub freeing_keeps : IsKept s new
    freeing_keeps = record {
      owned = λ c k inside begun written. owner_stays k c (inl begun) (kept.owned c k inside begun written);
      noted = λ c k inside written. owner_stays k c (inr written) (kept.noted c k inside written);
      idle = kept.idle;
      fits = fits_still;
    }
