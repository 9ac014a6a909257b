-- The invariant `IsKept` of the slots for rows is preserved when a transaction begins, goes back to a mark, or ends.
use Rattle.std.proofs.Common.{◌≡◌, inl, inr, ℕ, zero, suc, ◌+◌, ◌==◌, ◌||◌, Bool, true, false, List, [], ◌∷◌, take, drop, refl, sym, ap, ◌∙◌, subst}
use Rattle.std.proofs.lemmas.Bool.{cases_eq}
use Rattle.storage.specs.Slots.{SlotState, Transaction, Becomes, Begins, Commits, Ends, GoesBack, Grows, IsReadable, Rests, undone, wrote}
use Rattle.storage.specs.declared.slots.Undo.{Undo}
use Rattle.row_fragments.specs.Calls.{Covers}
use Rattle.row_fragments.specs.Tied.{IsValue}
use Rattle.row_fragments.proofs.Composes.{readable_on}
use Rattle.row_fragments.proofs.Ties.{covers_drop, covers_take, undone_mix}
use Rattle.byte_rows.specs.declared.places.Place.{Place}
use Rattle.byte_rows.specs.Places.{IsKept, row_in}
use Rattle.byte_rows.proofs.Kept.{tied_of}

clash : (b : Bool) → b ≡ true → b ≡ false → ⊥
clash true e f = cc f
clash false e f = cc e

wrote_take : (n : ℕ) (us : List Undo) (k : ℕ) → wrote (take n us) k ≡ true → wrote us k ≡ true
wrote_take zero us k is = absurd (clash false is refl)
wrote_take (suc n) [] k is = absurd (clash false is refl)
wrote_take (suc n) (u ∷ us) k is = more (k == u.slot) (wrote (take n us) k) (wrote us k) is (wrote_take n us k)
  where
    more : (a b c : Bool) → (a || b) ≡ true → (b ≡ true → c ≡ true) → (a || c) ≡ true
    more true b c e f = refl
    more false b c e f = f e

-- one client's transaction changes, and no slot gets a new possible value
module _ (old new : SlotState) (places : List Place) (client : ℕ) (goes_on : Bool) (writes : List Undo) (touched : ℕ → Bool) (many few more : ℕ)
    (b : Becomes client old.transaction new.transaction goes_on writes touched many few more)
    (touched_was : (k : ℕ) → touched k ≡ true → ((old.transaction client).begun ≡ true) × ((old.transaction client).written k ≡ true))
    (writes_was : (k : ℕ) → wrote writes k ≡ true → wrote (old.transaction client).undo k ≡ true)
    (covers_was : (k : ℕ) (bytes : List ℕ) → Covers writes k bytes → Covers (old.transaction client).undo k bytes)
    (ended : goes_on ≡ false → writes ≡ []) (seen : new.observable ≡ old.observable) (failed : new.failed ≡ old.failed)
    (reads : IsReadable old → (k : ℕ) → IsValue old k (new.reads k)) (kept : IsKept old places) where
  value_was : IsReadable old → (k : ℕ) (bytes : List ℕ) → IsValue new k bytes → IsValue old k bytes
  value_was readable k bytes (inl is) = subst (IsValue old k) (sym is) (reads readable k)
  value_was readable k bytes (inr (c, there)) = elim (cases_eq c client) [
    | inl e ↦ inr (client, covers_was k bytes (subst (λ (us : List Undo). Covers us k bytes) (ap (λ (n : ℕ). (new.transaction n).undo) e ∙ b.undo) there))
    | inr ne ↦ inr (c, subst (λ (t : Transaction). Covers t.undo k bytes) (b.others c ne) there)
  ]

  pub becomes_kept : IsKept new places
  becomes_kept = record {
    owned = λ c k within is_begun is. elim (cases_eq c client) [
      | inl e ↦
          let was = touched_was k (sym (b.written k) ∙ (ap (λ (n : ℕ). (new.transaction n).written k) (sym e) ∙ is)) in
          kept.owned client k within was.0 was.1 ∙ ap (λ (n : ℕ). n + 1) (sym e)
      | inr ne ↦ kept.owned c k within (ap (λ (t : Transaction). t.begun) (sym (b.others c ne)) ∙ is_begun) (ap (λ (t : Transaction). t.written k) (sym (b.others c ne)) ∙ is)
    ];
    noted = λ c k within is. elim (cases_eq c client) [
      | inl e ↦
          kept.noted client k within (writes_was k (ap (λ (us : List Undo). wrote us k) (sym b.undo) ∙ (ap (λ (n : ℕ). wrote (new.transaction n).undo k) (sym e) ∙ is))) ∙ ap (λ (n : ℕ). n + 1) (sym e)
      | inr ne ↦ kept.noted c k within (ap (λ (t : Transaction). wrote t.undo k) (sym (b.others c ne)) ∙ is)
    ];
    idle = λ c is. elim (cases_eq c client) [
      | inl e ↦ ap (λ (n : ℕ). (new.transaction n).undo) e ∙ (b.undo ∙ ended (sym b.begun ∙ (ap (λ (n : ℕ). (new.transaction n).begun) (sym e) ∙ is)))
      | inr ne ↦ ap (λ (t : Transaction). t.undo) (b.others c ne) ∙ kept.idle c (ap (λ (t : Transaction). t.begun) (sym (b.others c ne)) ∙ is)
    ];
    fits = λ readable k bytes within is.
        let was : IsReadable old = readable_on new old (sym seen) (sym failed) readable in
        kept.fits was k bytes within (value_was was k bytes is);
  }

same_reads : (old new : SlotState) → (IsReadable old → new.reads ≡ old.reads) → IsReadable old → (k : ℕ) → IsValue old k (new.reads k)
same_reads old new same readable k = inl (ap (λ (f : ℕ → List ℕ). f k) (same readable))

module _ (old new : SlotState) (places : List Place) (kept : IsKept old places) (failed : new.failed ≡ old.failed) where
  pub rests_kept : Rests old new → IsKept new places
  rests_kept r = record {
    owned = λ c k within begun is. kept.owned c k within (ap (λ (t : ℕ → Transaction). (t c).begun) (sym r.transaction) ∙ begun) (ap (λ (t : ℕ → Transaction). (t c).written k) (sym r.transaction) ∙ is);
    noted = λ c k within is. kept.noted c k within (ap (λ (t : ℕ → Transaction). wrote (t c).undo k) (sym r.transaction) ∙ is);
    idle = λ c is. ap (λ (t : ℕ → Transaction). (t c).undo) r.transaction ∙ kept.idle c (ap (λ (t : ℕ → Transaction). (t c).begun) (sym r.transaction) ∙ is);
    fits = λ readable k bytes within is.
        let was : IsReadable old = readable_on new old (sym r.keeps.observable) (sym failed) readable in
        kept.fits was k bytes within (still was k bytes is);
  }
    where
      still : IsReadable old → (k : ℕ) (bytes : List ℕ) → IsValue new k bytes → IsValue old k bytes
      still was k bytes (inl is) = inl (is ∙ ap (λ (f : ℕ → List ℕ). f k) (r.reads was))
      still was k bytes (inr (c, there)) = inr (c, subst (λ (t : ℕ → Transaction). Covers (t c).undo k bytes) r.transaction there)

  pub begins_kept : (client : ℕ) → Begins old new client → IsKept new places
  begins_kept client b = becomes_kept old new places client true [] (λ k. false) 0 0 0 b.transaction
      (λ k is. absurd (clash false is refl)) (λ k is. absurd (clash false is refl)) (λ k bytes none. absurd none) (λ e. absurd (clash true refl e)) b.keeps.observable failed (same_reads old new b.reads) kept

  pub grows_kept : (client n : ℕ) → (old.transaction client).begun ≡ true → Grows old new client n → IsKept new places
  grows_kept client n begun b = becomes_kept old new places client true (old.transaction client).undo (old.transaction client).written (old.transaction client).counted (old.transaction client).low n b.transaction
      (λ k is. (begun, is)) (λ k is. is) (λ k bytes there. there) (λ e. absurd (clash true refl e)) b.keeps.observable failed (same_reads old new b.reads) kept

  pub commits_kept : (client : ℕ) → Commits old new client → IsKept new places
  commits_kept client b = becomes_kept old new places client false [] (λ k. false) 0 0 0 b.transaction
      (λ k is. absurd (clash false is refl)) (λ k is. absurd (clash false is refl)) (λ k bytes none. absurd none) (λ e. refl) b.observable failed (same_reads old new b.reads) kept

  undone_value : IsReadable old → (client n : ℕ) → (k : ℕ) → IsValue old k (undone (drop n (old.transaction client).undo) old.reads k)
  undone_value readable client n = undone_mix (IsValue old) (row_in places) (tied_of old places kept readable) (drop n (old.transaction client).undo) old.reads (λ k. inl refl)
      (λ k bytes there. inr (client, covers_drop n (old.transaction client).undo k bytes there))

  pub ends_kept : (client : ℕ) → Ends old new client → IsKept new places
  ends_kept client b = becomes_kept old new places client false [] (λ k. false) 0 0 0 b.transaction
      (λ k is. absurd (clash false is refl)) (λ k is. absurd (clash false is refl)) (λ k bytes none. absurd none) (λ e. refl) b.keeps.observable failed
      (λ readable k. subst (IsValue old k) (sym (ap (λ (f : ℕ → List ℕ). f k) (b.reads readable))) (undone_value readable client 0 k)) kept

  pub back_kept : (client mark : ℕ) → (old.transaction client).begun ≡ true → GoesBack old new client mark → IsKept new places
  back_kept client mark begun b = becomes_kept old new places client true (take mark (old.transaction client).undo) (old.transaction client).written (old.transaction client).counted (old.transaction client).low (old.transaction client).room b.transaction
      (λ k is. (begun, is)) (λ k is. wrote_take mark (old.transaction client).undo k is) (λ k bytes there. covers_take mark (old.transaction client).undo k bytes there) (λ e. absurd (clash true refl e)) b.keeps.observable failed
      (λ readable k. subst (IsValue old k) (sym (ap (λ (f : ℕ → List ℕ). f k) (b.reads readable))) (undone_value readable client mark k)) kept
