-- What undoing the lists of all clients but one gives.
use Rattle.std.proofs.Common.{◌≡◌, ◌≢◌, inl, inr, ℕ, zero, suc, false, List, [], ◌∷◌, sym, ◌∙◌, refl, arith}
use Rattle.std.proofs.lemmas.Bool.{cases_Bool, cond-true, cond-false}
use Rattle.storage.specs.Slots.{wrote, undone, joined}
use Rattle.log_meaning.proofs.Undone.{undone-at, undone-not}
use Rattle.open_transactions.specs.declared.client.Client.{Client}
use Rattle.open_transactions.specs.Clients.{list_of, list_in, lists, lists_but, AreApart}
use Rattle.open_transactions.proofs.Lists.{undone-append, undone_none, never}

-- a slot that no other client wrote
but_alone : (cs : List Client) (k : ℕ) (f : ℕ → List ℕ) (s : ℕ) → ((j : ℕ) → j ≢ k → wrote (list_in cs j) s ≡ false) → undone (lists_but k cs) f s ≡ f s
but_alone [] k f s alone = refl
but_alone (c ∷ cs) zero f s alone = undone_none list_of cs f s (λ j. alone (suc j) (λ e. omega (arith, e)))
but_alone (c ∷ cs) (suc k) f s alone =
    undone-append (list_of c) (lists_but k cs) f s ∙ undone-not (list_of c) (undone (lists_but k cs) f) s (alone 0 (λ e. omega (arith, e)))
    ∙ but_alone cs k f s (λ j ne. alone (suc j) (λ e. ne (omega (arith, e))))

-- a slot that this client did not write
but_other : (cs : List Client) (k : ℕ) (f : ℕ → List ℕ) (s : ℕ) → wrote (list_in cs k) s ≡ false → undone (lists_but k cs) f s ≡ undone (lists cs) f s
but_other [] k f s not = refl
but_other (c ∷ cs) zero f s not = sym (undone-append (list_of c) (lists cs) f s ∙ undone-not (list_of c) (undone (lists cs) f) s not)
but_other (c ∷ cs) (suc k) f s not =
    undone-append (list_of c) (lists_but k cs) f s ∙ undone-at (list_of c) (undone (lists_but k cs) f) (undone (lists cs) f) s (but_other cs k f s not) ∙ sym (undone-append (list_of c) (lists cs) f s)

-- the client's slots as they read, and the others as undoing all gives them
pub but_joined : (cs : List Client) (k : ℕ) → AreApart cs → (f : ℕ → List ℕ) (s : ℕ) → undone (lists_but k cs) f s ≡ joined (list_in cs k) f (undone (lists cs) f) s
but_joined cs k apart f s = elim (cases_Bool (wrote (list_in cs k) s)) [
  | inl its ↦ but_alone cs k f s (λ j ne. never (wrote (list_in cs j) s) (λ w. ne (apart j k s w its))) ∙ sym (cond-true (wrote (list_in cs k) s) _ _ its)
  | inr not ↦ but_other cs k f s not ∙ sym (cond-false (wrote (list_in cs k) s) _ _ not)
]
