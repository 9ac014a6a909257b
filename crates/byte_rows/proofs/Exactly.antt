-- What is noted of slots stays no more than what their transactions did.
use Rattle.std.proofs.Common.{◌≡◌, ◌≢◌, ◌⊎◌, inl, inr, ⊎_elim, ℕ, zero, suc, ◌+◌, ◌<◌, ◌==◌, ◌||◌, cond, eqb, Bool, true, false, List, [], ◌∷◌, drop, refl, sym, ap, ◌∙◌, subst, arith}
use Rattle.std.specs.List.{Contains}
use Rattle.std.proofs.lemmas.Bool.{cases_eq}
use Rattle.std.proofs.lemmas.Bool.Decides.{nat_tests}
use Rattle.storage.specs.Slots.{SlotState, Transaction, Becomes, Begins, Commits, Ends, GoesBack, IsReadable, Rests, undone, wrote}
use Rattle.storage.specs.declared.slots.Undo.{Undo}
use Rattle.row_fragments.specs.Calls.{Wrote}
use Rattle.row_fragments.specs.Fragments.{ends, kind_in}
use Rattle.row_fragments.proofs.Composes.{readable_on}
use Rattle.byte_rows.specs.declared.places.Place.{Place}
use Rattle.byte_rows.specs.Places.{AreLaid, IsKept, owner_in, place_in}
use Rattle.byte_rows.specs.Exact.{IsExact}
use Rattle.byte_rows.proofs.Kept.{among, not_both, not_here}
use Rattle.byte_rows.proofs.Rewrites.{laid_place}

pub is_here : {X : Type 0} (k n : ℕ) (x y : X) → k ≡ n → cond (eqb k n) x y ≡ x
is_here k n x y e = let same : eqb k n ≡ true = grind (arith, nat_tests, e) in ap (λ (b : Bool). cond b x y) same

-- nothing changes
pub exact_rests : (s t : SlotState) (places : List Place) → Rests s t → t.failed ≡ s.failed → IsExact s places → IsExact t places
exact_rests s t places r failed exact = record {
  held = λ readable k inside some unowned.
      let was : IsReadable s = readable_on t s (sym r.keeps.observable) (sym failed) readable in
      subst (λ (f : ℕ → List ℕ). kind_in (f k) ≢ 0) (sym (r.reads was)) (exact.held was k inside some unowned);
  marked = λ c k inside begun owned.
      ap (λ (f : ℕ → Transaction). (f c).written k) r.transaction ∙ exact.marked c k inside (ap (λ (f : ℕ → Transaction). (f c).begun) (sym r.transaction) ∙ begun) owned;
  free = exact.free;
  few = exact.few;
}

-- one slot is no client's change any more
pub exact_set : (t : SlotState) (old new : List Place) (slot : ℕ) (to : Place) → IsExact t old → to.owner ≡ 0 → ((to.row ≡ 0) ⊎ (IsReadable t → kind_in (t.reads slot) ≢ 0))
    → ((k : ℕ) → place_in new k ≡ cond (eqb k slot) to (place_in old k)) → IsExact t new
exact_set t old new slot to exact unowned_to may is = record {
  held = λ readable k inside some unowned. elim (cases_eq k slot) [
    | inl e ↦ ⊎_elim
        (λ (none : to.row ≡ 0). absurd (some (ap (λ (p : Place). p.row) (at k e) ∙ none)))
        (λ (h : IsReadable t → kind_in (t.reads slot) ≢ 0). subst (λ (n : ℕ). kind_in (t.reads n) ≢ 0) (sym e) (h readable)) may
    | inr ne ↦ exact.held readable k inside (subst (λ (p : Place). p.row ≢ 0) (off k ne) some) (ap (λ (p : Place). p.owner) (sym (off k ne)) ∙ unowned)
  ];
  marked = λ c k inside begun owned. elim (cases_eq k slot) [
    | inl e ↦ let now : owner_in new k ≡ 0 = ap (λ (p : Place). p.owner) (at k e) ∙ unowned_to in absurd (omega (arith, now, owned))
    | inr ne ↦ exact.marked c k inside begun (ap (λ (p : Place). p.owner) (sym (off k ne)) ∙ owned)
  ];
  free = λ k inside none. elim (cases_eq k slot) [
    | inl e ↦ ap (λ (p : Place). p.owner) (at k e) ∙ unowned_to
    | inr ne ↦ ap (λ (p : Place). p.owner) (off k ne) ∙ exact.free k inside (ap (λ (p : Place). p.row) (sym (off k ne)) ∙ none)
  ];
  few = λ k inside. elim (cases_eq k slot) [
    | inl e ↦ let now : owner_in new k ≡ 0 = ap (λ (p : Place). p.owner) (at k e) ∙ unowned_to in omega (arith, now)
    | inr ne ↦ let same : owner_in new k ≡ owner_in old k = ap (λ (p : Place). p.owner) (off k ne) in let low = exact.few k inside in omega (arith, same, low)
  ];
}
  where
    at : (k : ℕ) → k ≡ slot → place_in new k ≡ to
    at k e = is k ∙ is_here k slot to (place_in old k) e

    off : (k : ℕ) → k ≢ slot → place_in new k ≡ place_in old k
    off k ne = is k ∙ not_here k slot to (place_in old k) ne

-- a row's slots are written
pub exact_written : (s t : SlotState) (old new : List Place) (client row : ℕ) (chain : List ℕ) → client < 16 → 0 < row → t.observable ≡ s.observable → Wrote s t client chain
    → ((c : ℕ) → c ≢ client → t.transaction c ≡ s.transaction c) → (s.transaction client).begun ≡ true → AreLaid new chain row 0 (client + 1) → ((k : ℕ) → ¬ Contains chain k → place_in new k ≡ place_in old k) → IsExact s old → IsExact t new
exact_written s t old new client row chain lt some seen w others begun_s laid rest exact = record {
  held = λ readable k inside have unowned. ⊎_elim
      (λ (there : Contains chain k). let own = (laid_place new chain row 0 (client + 1) laid k there).1 in absurd (omega (arith, own, unowned)))
      (λ (out : ¬ Contains chain k).
      let was : IsReadable s = readable_on t s (sym seen) (sym w.failed) readable in
      subst (λ (b : List ℕ). kind_in b ≢ 0) (sym (w.rest was k out)) (exact.held was k inside (subst (λ (p : Place). p.row ≢ 0) (rest k out) have) (ap (λ (p : Place). p.owner) (sym (rest k out)) ∙ unowned)))
      (among chain k);
  marked = λ c k inside begun owned. ⊎_elim
      (λ (there : Contains chain k).
      let own = (laid_place new chain row 0 (client + 1) laid k there).1 in
      let same : c ≡ client = omega (arith, own, owned) in
      ap (λ (n : ℕ). (t.transaction n).written k) same ∙ w.marked k there)
      (λ (out : ¬ Contains chain k). off c k inside begun out (ap (λ (p : Place). p.owner) (sym (rest k out)) ∙ owned))
      (among chain k);
  free = λ k inside none. ⊎_elim
      (λ (there : Contains chain k). let own = (laid_place new chain row 0 (client + 1) laid k there).0 in absurd (omega (arith, own, none, some)))
      (λ (out : ¬ Contains chain k). ap (λ (p : Place). p.owner) (rest k out) ∙ exact.free k inside (ap (λ (p : Place). p.row) (sym (rest k out)) ∙ none))
      (among chain k);
  few = λ k inside. ⊎_elim
      (λ (there : Contains chain k). let own = (laid_place new chain row 0 (client + 1) laid k there).1 in omega (arith, own, lt))
      (λ (out : ¬ Contains chain k). let same : owner_in new k ≡ owner_in old k = ap (λ (p : Place). p.owner) (rest k out) in let low = exact.few k inside in omega (arith, same, low))
      (among chain k);
}
  where
    off : (c k : ℕ) → ends k ≡ false → (t.transaction c).begun ≡ true → ¬ Contains chain k → owner_in old k ≡ c + 1 → (t.transaction c).written k ≡ true
    off c k inside begun out owned = elim (cases_eq c client) [
      | inl e ↦ ap (λ (n : ℕ). (t.transaction n).written k) e ∙ (w.written k out ∙ (ap (λ (n : ℕ). (s.transaction n).written k) (sym e) ∙ exact.marked c k inside (ap (λ (n : ℕ). (s.transaction n).begun) e ∙ begun_s) owned))
      | inr ne ↦ ap (λ (x : Transaction). x.written k) (others c ne) ∙ exact.marked c k inside (ap (λ (x : Transaction). x.begun) (sym (others c ne)) ∙ begun) owned
    ]

-- one client's transaction becomes another, and no slot changes that is no client's
pub exact_becomes : (s t : SlotState) (places : List Place) (client : ℕ) (goes_on : Bool) (writes : List Undo) (touched : ℕ → Bool) (many few more : ℕ) → Becomes client s.transaction t.transaction goes_on writes touched many few more
    → (goes_on ≡ true → (k : ℕ) → ends k ≡ false → owner_in places k ≡ client + 1 → touched k ≡ true) → t.observable ≡ s.observable → t.failed ≡ s.failed
    → (IsReadable s → (k : ℕ) → ends k ≡ false → owner_in places k ≡ 0 → t.reads k ≡ s.reads k) → IsExact s places → IsExact t places
exact_becomes s t places client goes_on writes touched many few more b all seen failed reads exact = record {
  held = λ readable k inside some unowned.
      let was : IsReadable s = readable_on t s (sym seen) (sym failed) readable in
      subst (λ (bytes : List ℕ). kind_in bytes ≢ 0) (sym (reads was k inside unowned)) (exact.held was k inside some unowned);
  marked = λ c k inside begun owned. elim (cases_eq c client) [
    | inl e ↦
        let on : goes_on ≡ true = sym b.begun ∙ (ap (λ (n : ℕ). (t.transaction n).begun) (sym e) ∙ begun) in
        ap (λ (n : ℕ). (t.transaction n).written k) e ∙ (b.written k ∙ all on k inside (owned ∙ ap (λ (n : ℕ). n + 1) e))
    | inr ne ↦ ap (λ (x : Transaction). x.written k) (b.others c ne) ∙ exact.marked c k inside (ap (λ (x : Transaction). x.begun) (sym (b.others c ne)) ∙ begun) owned
  ];
  free = exact.free;
  few = exact.few;
}

-- ---- writes are undone

or_right : (a b : Bool) → b ≡ true → (a || b) ≡ true
or_right true b e = refl
or_right false b e = e

wrote_drop : (n : ℕ) (us : List Undo) (k : ℕ) → wrote (drop n us) k ≡ true → wrote us k ≡ true
wrote_drop zero us k is = is
wrote_drop (suc n) [] k is = is
wrote_drop (suc n) (u ∷ us) k is = or_right (k == u.slot) (wrote us k) (wrote_drop n us k is)

-- a slot that none of the writes is of stays as it is
undone_off : (us : List Undo) (slots : ℕ → List ℕ) (k : ℕ) → (wrote us k ≡ true → ⊥) → undone us slots k ≡ slots k
undone_off [] slots k never = refl
undone_off (u ∷ us) slots k never = elim (cases_eq k u.slot) [
  | inl e ↦ absurd (never (let same : eqb k u.slot ≡ true = grind (arith, nat_tests, e) in ap (λ (b : Bool). b || wrote us k) same))
  | inr ne ↦ not_here k u.slot u.old (undone us slots k) ne ∙ undone_off us slots k (λ is. never (or_right (k == u.slot) (wrote us k) is))
]

module _ (s : SlotState) (places : List Place) (kept : IsKept s places) (client n : ℕ) where
  pub unowned_stays : (k : ℕ) → ends k ≡ false → owner_in places k ≡ 0 → undone (drop n (s.transaction client).undo) s.reads k ≡ s.reads k
  unowned_stays k inside unowned = undone_off (drop n (s.transaction client).undo) s.reads k (λ is.
      let own = kept.noted client k inside (wrote_drop n (s.transaction client).undo k is) in omega (arith, own, unowned))

module _ (s t : SlotState) (places : List Place) (kept : IsKept s places) (exact : IsExact s places) (failed : t.failed ≡ s.failed) (client : ℕ) where
  pub exact_begins : ((k : ℕ) → ends k ≡ false → owner_in places k ≢ client + 1) → Begins s t client → IsExact t places
  exact_begins none b = exact_becomes s t places client true [] (λ k. false) 0 0 0 b.transaction (λ on k inside own. absurd (none k inside own)) b.keeps.observable failed
      (λ readable k inside unowned. ap (λ (f : ℕ → List ℕ). f k) (b.reads readable)) exact

  pub exact_commits : Commits s t client → IsExact t places
  exact_commits b = exact_becomes s t places client false [] (λ k. false) 0 0 0 b.transaction (λ on k inside own. absurd (not_both false on refl)) b.observable failed
      (λ readable k inside unowned. ap (λ (f : ℕ → List ℕ). f k) (b.reads readable)) exact

  pub exact_ends : Ends s t client → IsExact t places
  exact_ends b = exact_becomes s t places client false [] (λ k. false) 0 0 0 b.transaction (λ on k inside own. absurd (not_both false on refl)) b.keeps.observable failed
      (λ readable k inside unowned. ap (λ (f : ℕ → List ℕ). f k) (b.reads readable) ∙ unowned_stays s places kept client 0 k inside unowned) exact

  pub exact_back : (mark : ℕ) → (s.transaction client).begun ≡ true → GoesBack s t client mark → IsExact t places
  exact_back mark begun b = exact_becomes s t places client true _ (s.transaction client).written _ _ _ b.transaction (λ on k inside own. exact.marked client k inside begun own) b.keeps.observable failed
      (λ readable k inside unowned. ap (λ (f : ℕ → List ℕ). f k) (b.reads readable) ∙ unowned_stays s places kept client mark k inside unowned) exact
