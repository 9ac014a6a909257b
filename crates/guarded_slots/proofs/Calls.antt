-- Each call keeps what is guarded.
use Rattle.std.proofs.Common.{◌≡◌, ◌⊎◌, inl, inr, ℕ, Bool, false, List, drop, Result, Ok, Err, IsTrue, sym, subst}
use Rattle.std.specs.Prelude.{OnOk, OnErr}
use Rattle.std.proofs.lemmas.Bool.{cases_eq}
use Rattle.storage.specs.Slots.{Becomes, Begins, Commits, Ends, Fails, Goes, GoesBack, Grows, IsReadable, KeepsCommitted, Rests, SlotState, Transaction, Writes, joined}
use Rattle.storage.specs.declared.slots.SlotFault.{SlotFault}
use Rattle.storage.specs.declared.slots.Undo.{Undo}
use Rattle.guarded_slots.specs.Guarded.{AllAllowed, AllRestore, IsGuarded}
use Rattle.guarded_slots.proofs.Keeping.{all_as, all_joined, all_put, all_undone, restore_drop, restore_push, restore_take, stops_keep}

pub by_result : {T P Q R : Type 0} (result : Result T SlotFault) → OnOk result P → OnErr result Q → (P → R) → (Q → R) → R
by_result (Ok x) ok err f g = f ok
by_result (Err e) ok err f g = g err

module _ (allowed : ℕ → List ℕ → Type 0) (was tainted : Bool) (old new : SlotState) (before after : ℕ → (ℕ → List ℕ) → Type 0) (guarded : IsGuarded allowed was old before)
    (time : Goes old new before after) (known : (m : ℕ) (left : ℕ → List ℕ) → after m left → IsTrue new.observable) (fine : new.failed ≡ false → old.failed ≡ false) (clean : tainted ≡ false → was ≡ false) where
  -- where what is committed stays
  kept : KeepsCommitted old new → (tainted ≡ false → IsReadable old → IsReadable new → AllAllowed allowed new.reads) → (tainted ≡ false → IsReadable old → IsReadable new → (c : ℕ) → AllRestore allowed (new.transaction c).undo)
      → IsGuarded allowed tainted new after
  kept keeps reads undo = record {
    committed = λ seen. all_as allowed new.committed old.committed (keeps.committed (seen_before seen)) (guarded.committed (seen_before seen));
    doubt = doubt;
    reads = λ is readable. reads is (readable_before readable) readable;
    undo = λ is readable. undo is (readable_before readable) readable;
    stops = stops_keep allowed old new before after time known keeps.observable guarded.committed doubt guarded.stops;
  }
    where
      seen_before : IsTrue new.observable → IsTrue old.observable
      seen_before seen = subst (λ (b : Bool). IsTrue b) keeps.observable seen

      readable_before : IsReadable new → IsReadable old
      readable_before readable = (seen_before readable.0, fine readable.1)

      doubt : IsTrue new.observable → AllAllowed allowed new.doubt
      doubt seen = all_as allowed new.doubt old.doubt (keeps.doubt (seen_before seen)) (guarded.doubt (seen_before seen))

  -- one client's list of writes becomes another
  one_list : (client : ℕ) (goes_on : Bool) (writes : List Undo) (touched : ℕ → Bool) (many few more : ℕ) → Becomes client old.transaction new.transaction goes_on writes touched many few more
      → ((c : ℕ) → AllRestore allowed (old.transaction c).undo) → AllRestore allowed writes → (c : ℕ) → AllRestore allowed (new.transaction c).undo
  one_list client goes_on writes touched many few more becomes all one c = elim (cases_eq c client) [
    | inl e ↦ subst (λ (n : ℕ). AllRestore allowed (new.transaction n).undo) (sym e) (subst (AllRestore allowed) (sym becomes.undo) one)
    | inr ne ↦ subst (λ (t : Transaction). AllRestore allowed t.undo) (sym (becomes.others c ne)) (all c)
  ]

  same_reads : (IsReadable old → new.reads ≡ old.reads) → tainted ≡ false → IsReadable old → IsReadable new → AllAllowed allowed new.reads
  same_reads same is readable now = all_as allowed new.reads old.reads (same readable) (guarded.reads (clean is) readable)

  pub kept_rests : Rests old new → IsGuarded allowed tainted new after
  kept_rests h = kept h.keeps (same_reads h.reads) (λ is readable now. subst (λ (f : ℕ → Transaction). (c : ℕ) → AllRestore allowed (f c).undo) (sym h.transaction) (guarded.undo (clean is) readable))

  pub kept_begins : (client : ℕ) → Begins old new client → IsGuarded allowed tainted new after
  kept_begins client h = kept h.keeps (same_reads h.reads) (λ is readable now. one_list client _ _ _ _ _ _ h.transaction (guarded.undo (clean is) readable) tt)

  pub kept_grows : (client writes : ℕ) → Grows old new client writes → IsGuarded allowed tainted new after
  kept_grows client writes h = kept h.keeps (same_reads h.reads) (λ is readable now. one_list client _ _ _ _ _ _ h.transaction (guarded.undo (clean is) readable) (guarded.undo (clean is) readable client))

  pub kept_back : (client mark : ℕ) → GoesBack old new client mark → IsGuarded allowed tainted new after
  kept_back client mark h = kept h.keeps
      (λ is readable now. all_as allowed new.reads _ (h.reads readable) (all_undone allowed (drop mark (old.transaction client).undo) old.reads (restore_drop allowed mark _ (guarded.undo (clean is) readable client)) (guarded.reads (clean is) readable)))
      (λ is readable now. one_list client _ _ _ _ _ _ h.transaction (guarded.undo (clean is) readable) (restore_take allowed mark _ (guarded.undo (clean is) readable client)))

  pub kept_ends : (client : ℕ) → Ends old new client → IsGuarded allowed tainted new after
  kept_ends client h = kept h.keeps
      (λ is readable now. all_as allowed new.reads _ (h.reads readable) (all_undone allowed (old.transaction client).undo old.reads (guarded.undo (clean is) readable client) (guarded.reads (clean is) readable)))
      (λ is readable now. one_list client _ _ _ _ _ _ h.transaction (guarded.undo (clean is) readable) tt)

  -- a write that is allowed, unless the slots are tainted after it
  pub kept_writes : (client slot : ℕ) (bytes : List ℕ) → (tainted ≡ false → allowed slot bytes) → Writes old new client slot bytes → IsGuarded allowed tainted new after
  kept_writes client slot bytes allows h = kept h.keeps
      (λ is readable now. all_as allowed new.reads _ (h.reads readable) (all_put allowed old.reads slot bytes (guarded.reads (clean is) readable) ∣ allows is ∣₁))
      (λ is readable now. one_list client _ _ _ _ _ _ h.transaction (guarded.undo (clean is) readable)
      (restore_push allowed (old.transaction client).undo (record { slot = slot; old = h.before }) (guarded.undo (clean is) readable client)
      (subst (λ (x : List ℕ). ∥ allowed slot x ∥₁) (sym (h.before_is readable)) (guarded.reads (clean is) readable slot))))

  -- the committed slots where the writes of a client's transaction join them
  joins : tainted ≡ false → (client : ℕ) → IsReadable old → AllAllowed allowed (joined (old.transaction client).undo old.reads old.committed)
  joins is client readable = all_joined allowed (old.transaction client).undo old.reads old.committed (guarded.reads (clean is) readable) (guarded.committed readable.0)

  pub kept_commits : tainted ≡ false → (client : ℕ) → Commits old new client → IsGuarded allowed tainted new after
  kept_commits not_tainted client h = record {
    committed = committed;
    doubt = doubt;
    reads = λ is readable. same_reads h.reads is (seen_before readable.0, h.before) readable;
    undo = λ is readable. one_list client _ _ _ _ _ _ h.transaction (guarded.undo (clean is) (seen_before readable.0, h.before)) tt;
    stops = stops_keep allowed old new before after time known h.observable guarded.committed doubt guarded.stops;
  }
    where
      seen_before : IsTrue new.observable → IsTrue old.observable
      seen_before seen = subst (λ (b : Bool). IsTrue b) h.observable seen

      committed : IsTrue new.observable → AllAllowed allowed new.committed
      committed seen = all_as allowed new.committed _ (h.committed (seen_before seen)) (joins not_tainted client (seen_before seen, h.before))

      doubt : IsTrue new.observable → AllAllowed allowed new.doubt
      doubt seen = all_as allowed new.doubt new.committed (h.doubt (seen_before seen)) (committed seen)

  pub kept_fails : tainted ≡ false → (client : ℕ) → Fails old new client → IsGuarded allowed tainted new after
  kept_fails not_tainted client h = record {
    committed = λ seen. all_as allowed new.committed old.committed (h.committed (seen_before seen)) (guarded.committed (seen_before seen));
    doubt = doubt;
    reads = λ is readable. same_reads h.reads is (seen_before readable.0, fine readable.1) readable;
    undo = λ is readable. subst (λ (f : ℕ → Transaction). (c : ℕ) → AllRestore allowed (f c).undo) (sym h.transaction) (guarded.undo (clean is) (seen_before readable.0, fine readable.1));
    stops = stops_keep allowed old new before after time known h.observable guarded.committed doubt guarded.stops;
  }
    where
      seen_before : IsTrue new.observable → IsTrue old.observable
      seen_before seen = subst (λ (b : Bool). IsTrue b) h.observable seen

      by_doubt : (seen : IsTrue old.observable) → (new.doubt ≡ old.doubt) ⊎ ((old.failed ≡ false) × (new.doubt ≡ joined (old.transaction client).undo old.reads old.committed)) → AllAllowed allowed new.doubt
      by_doubt seen (inl same) = all_as allowed new.doubt old.doubt same (guarded.doubt seen)
      by_doubt seen (inr more) = all_as allowed new.doubt _ more.1 (joins not_tainted client (seen, more.0))

      doubt : IsTrue new.observable → AllAllowed allowed new.doubt
      doubt seen = by_doubt (seen_before seen) (h.doubt (seen_before seen))
