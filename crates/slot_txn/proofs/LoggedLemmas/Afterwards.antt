-- What a part does is what the whole call does, where the parts before it rest.
use Rattle.std.proofs.Common.{◌≡◌, inl, inr, ⊎_elim, ℕ, ◌+◌, ◌-◌, ◌==◌, ◌||◌, if◌then◌else◌, Bool, true, false, List, [], ◌∷◌, ◌++◌, IsTrue, sym, ◌∙◌, ap, subst}
use Rattle.storage.specs.Slots.{SlotState, Transaction, Rests, IsReadable, Becomes, Begins, Writes, Commits, Fails, is_low, put, joined}
use Rattle.slot_txn.proofs.LoggedLemmas.Composing.{keeps_twice}

module _ (a b c : SlotState) (same : b.failed ≡ a.failed) (one : Rests a b) where
  readable : IsReadable a → IsReadable b
  readable h = (subst (λ (x : Bool). IsTrue x) (sym one.keeps.observable) (h.0), same ∙ h.1)

  known_before : IsTrue a.observable → IsTrue b.observable
  known_before k = subst (λ (x : Bool). IsTrue x) (sym one.keeps.observable) k

  pub then_begins : (client : ℕ) → Begins b c client → Begins a c client
  then_begins client two = record {
    keeps = keeps_twice a b c one.keeps two.keeps;
    reads = λ h. two.reads (readable h) ∙ one.reads h;
    transaction = subst (λ (f : ℕ → Transaction). Becomes client f c.transaction true [] (λ k. false) 0 0 0) one.transaction two.transaction;
  }

  pub then_writes : (client slot : ℕ) (bytes : List ℕ) → Writes b c client slot bytes → Writes a c client slot bytes
  then_writes client slot bytes two = record {
    keeps = keeps_twice a b c one.keeps two.keeps;
    reads = λ h. two.reads (readable h) ∙ ap (λ (r : ℕ → List ℕ). put r slot bytes) (one.reads h);
    before = two.before;
    before_is = λ h. two.before_is (readable h) ∙ ap (λ (r : ℕ → List ℕ). r slot) (one.reads h);
    transaction = subst (λ (f : ℕ → Transaction). Becomes client f c.transaction true ((f client).undo ++ record { slot = slot; old = two.before } ∷ []) (λ k. (k == slot) || (f client).written k) (if is_low slot then (f client).counted else (f client).counted + 1) (if is_low slot then (f client).low + 1 else (f client).low) ((f client).room - 1)) one.transaction two.transaction;
  }

  -- what is joined before and after
  same_joined : (client : ℕ) → IsReadable a → joined (b.transaction client).undo b.reads b.committed ≡ joined (a.transaction client).undo a.reads a.committed
  same_joined client h =
      ap (λ (f : ℕ → Transaction). joined (f client).undo b.reads b.committed) one.transaction
      ∙ ap (λ (r : ℕ → List ℕ). joined (a.transaction client).undo r b.committed) (one.reads h)
      ∙ ap (λ (k : ℕ → List ℕ). joined (a.transaction client).undo a.reads k) (one.keeps.committed (h.0))

  pub then_commits : (client : ℕ) → Commits b c client → Commits a c client
  then_commits client two = record {
    observable = two.observable ∙ one.keeps.observable;
    reads = λ h. two.reads (readable h) ∙ one.reads h;
    committed = λ k. two.committed (known_before k) ∙ same_joined client (k, sym same ∙ two.before);
    doubt = λ k. two.doubt (known_before k);
    transaction = subst (λ (f : ℕ → Transaction). Becomes client f c.transaction false [] (λ k. false) 0 0 0) one.transaction two.transaction;
    before = sym same ∙ two.before;
  }

  pub then_fails : (client : ℕ) → Fails b c client → Fails a c client
  then_fails client two = record {
    observable = two.observable ∙ one.keeps.observable;
    reads = λ h. two.reads (readable h) ∙ one.reads h;
    committed = λ k. two.committed (known_before k) ∙ one.keeps.committed k;
    doubt = λ k. ⊎_elim
        (λ (stays : c.doubt ≡ b.doubt). inl (stays ∙ one.keeps.doubt k))
        (λ (more : (b.failed ≡ false) × (c.doubt ≡ joined (b.transaction client).undo b.reads b.committed)). let fine = sym same ∙ more.0 in inr (fine, more.1 ∙ same_joined client (k, fine)))
        (two.doubt (known_before k));
    transaction = two.transaction ∙ one.transaction;
  }

-- a call that only rested before it failed
pub fails_resting : (a b : SlotState) (client : ℕ) → Rests a b → Fails a b client
fails_resting a b client r = record { observable = r.keeps.observable; reads = r.reads; committed = r.keeps.committed; doubt = λ k. inl (r.keeps.doubt k); transaction = r.transaction }
