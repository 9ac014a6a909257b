-- Slots stay chains over a call, at each moment.
use Rattle.std.proofs.Common.{◌≡◌, ◌⊎◌, inl, inr, ⊎_elim, ℕ, ◌<◌, ◌≤◌, Bool, false, List, IsTrue, sym, ◌∙◌, subst}
use Rattle.std.proofs.Math.Logic.{∥∥₁_elim, ∥∥₁_map, ∥∥₁_prop}
use Rattle.std.proofs.Math.Path.{fun_ext}
use Rattle.std.proofs.lemmas.Bool.{cases_lt}
use Rattle.storage.specs.Slots.{Goes, IsReadable, IsStop, KeepsCommitted, SlotState}
use Rattle.row_fragments.specs.Chains.{AreChains}
use Rattle.slot_rows.specs.Chained.{HaveChains, StayChains}

module _ (s t : SlotState) (at_s at_t : ℕ → (ℕ → List ℕ) → Type 0) (law : (m : ℕ) (slots : ℕ → List ℕ) → at_t m slots → IsStop t m) (past : s.since ≤ s.moment) where
  -- ---- stops

  module _ (time : Goes s t at_s at_t) (observable : t.observable ≡ s.observable) where
    seen_before : IsTrue t.observable → IsTrue s.observable
    seen_before seen = subst (λ (b : Bool). IsTrue b) observable seen

    same_first : (slots : ℕ → List ℕ) → at_s s.since slots → at_t t.since slots
    same_first slots h = subst (λ (m : ℕ). at_t m slots) (sym time.since) (time.stays s.since slots past h)

    pub stops_go : StayChains at_s s.since → (IsTrue s.observable → ∥ AreChains s.committed ∥₁) → (IsTrue t.observable → ∥ AreChains t.doubt ∥₁) → StayChains at_t t.since
    stops_go before committed doubt m slots h = ⊎_elim later earlier (cases_lt s.moment m)
      where
        seen : IsTrue t.observable
        seen = (law m slots h).observable

        which : (slots ≡ s.committed) ⊎ (slots ≡ t.doubt) → ∥ at_t t.since slots ⊎ AreChains slots ∥₁
        which (inl e) = ∥∥₁_map (committed (seen_before seen)) (λ (c : AreChains s.committed). inr (subst AreChains (sym e) c))
        which (inr e) = ∥∥₁_map (doubt seen) (λ (c : AreChains t.doubt). inr (subst AreChains (sym e) c))

        later : s.moment < m → ∥ at_t t.since slots ⊎ AreChains slots ∥₁
        later lt = ∥∥₁_elim (time.here m slots lt h) ∥∥₁_prop which

        earlier : m ≤ s.moment → ∥ at_t t.since slots ⊎ AreChains slots ∥₁
        earlier le = ∥∥₁_map (before m slots (time.nothing_else m slots le h)) (λ (held : at_s s.since slots ⊎ AreChains slots). ⊎_elim (λ (first : at_s s.since slots). inl (same_first slots first)) (λ (c : AreChains slots). inr c) held)

  -- ---- a call that leaves what is committed

  module _ (keeps : KeepsCommitted s t) where
    seen_s : IsTrue t.observable → IsTrue s.observable
    seen_s seen = subst (λ (b : Bool). IsTrue b) keeps.observable seen

    pub chains_go : Goes s t at_s at_t → HaveChains s at_s → HaveChains t at_t
    chains_go time have = record {
      committed = committed;
      doubt = doubt;
      stops = stops_go time keeps.observable have.stops have.committed doubt;
    }
      where
        committed : IsTrue t.observable → ∥ AreChains t.committed ∥₁
        committed seen = subst (λ (f : ℕ → List ℕ). ∥ AreChains f ∥₁) (sym (keeps.committed (seen_s seen))) (have.committed (seen_s seen))

        doubt : IsTrue t.observable → ∥ AreChains t.doubt ∥₁
        doubt seen = subst (λ (f : ℕ → List ℕ). ∥ AreChains f ∥₁) (sym (keeps.doubt (seen_s seen))) (have.doubt (seen_s seen))

    pub stay_chains : Goes s t at_s at_t → (IsTrue s.observable → (k : ℕ) → s.doubt k ≡ s.committed k) → ((IsTrue s.observable → ∥ AreChains s.committed ∥₁) → StayChains at_s s.since)
        → (IsTrue t.observable → ∥ AreChains t.committed ∥₁) → StayChains at_t t.since
    stay_chains time certain before committed = stops_go time keeps.observable (before committed_s) committed_s doubt
      where
        committed_s : IsTrue s.observable → ∥ AreChains s.committed ∥₁
        committed_s seen = subst (λ (f : ℕ → List ℕ). ∥ AreChains f ∥₁) (keeps.committed seen) (committed (subst (λ (b : Bool). IsTrue b) (sym keeps.observable) seen))

        doubt : IsTrue t.observable → ∥ AreChains t.doubt ∥₁
        doubt seen = subst (λ (f : ℕ → List ℕ). ∥ AreChains f ∥₁) (sym (keeps.doubt (seen_s seen) ∙ fun_ext (certain (seen_s seen)))) (committed_s (seen_s seen))

-- slots that are opened: what is committed and in doubt is what is read
pub opened_chains : (s : SlotState) (stop : ℕ → (ℕ → List ℕ) → Type 0) → s.failed ≡ false → (IsReadable s → (k : ℕ) → s.committed k ≡ s.reads k) → (IsReadable s → (k : ℕ) → s.doubt k ≡ s.committed k)
    → ((IsTrue s.observable → ∥ AreChains s.committed ∥₁) → StayChains stop s.since) → (IsReadable s → ∥ AreChains s.reads ∥₁) → HaveChains s stop
opened_chains s stop fine settled certain stops reads = record { committed = committed; doubt = doubt; stops = stops committed }
  where
    committed : IsTrue s.observable → ∥ AreChains s.committed ∥₁
    committed seen = subst (λ (f : ℕ → List ℕ). ∥ AreChains f ∥₁) (sym (fun_ext (settled (seen, fine)))) (reads (seen, fine))

    doubt : IsTrue s.observable → ∥ AreChains s.doubt ∥₁
    doubt seen = subst (λ (f : ℕ → List ℕ). ∥ AreChains f ∥₁) (sym (fun_ext (certain (seen, fine)))) (committed seen)
