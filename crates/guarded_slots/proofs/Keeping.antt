-- What keeps to what the guard allows.
use Rattle.std.proofs.Common.{◌≡◌, ◌⊎◌, inl, inr, ⊎_elim, ℕ, zero, suc, ◌<◌, ◌≤◌, ◌||◌, if◌then◌else◌, Bool, true, false, List, [], ◌∷◌, ◌++◌, take, drop, Result, IsTrue, refl, sym, ◌∙◌, subst, arith}
use Rattle.std.proofs.Math.Logic.{∥∥₁_elim, ∥∥₁_prop}
use Rattle.std.proofs.lemmas.Bool.{cases_eq, cases_lt, true≢false}
use Rattle.std.proofs.lemmas.Bool.Decides.{nat_tests}
use Rattle.storage.specs.Slots.{Goes, HasCause, IsReadable, SlotState, joined, put, undone, wrote}
use Rattle.storage.specs.declared.slots.SlotFault.{SlotFault}
use Rattle.storage.specs.declared.slots.Undo.{Undo}
use Rattle.guarded_slots.specs.Guarded.{AllAllowed, AllRestore, guarded_state}

-- ---- a failed call

or_false : (a b : Bool) → (a || b) ≡ false → a ≡ false
or_false false b is = refl
or_false true b is = absurd (cc is)

-- the slots below are readable where the guarded ones are
pub readable_below : (refused : Bool) (s : SlotState) → IsReadable (guarded_state refused s) → IsReadable s
readable_below refused s is = (is.0, or_false s.failed refused is.1)

-- no call has failed before where none has after
pub fine_before : {T : Type 0} (old new : SlotState) (result : Result T SlotFault) → HasCause old new result → new.failed ≡ false → old.failed ≡ false
fine_before old new result cause fine = sym (cause.stays (λ e. true≢false (sym (cause.failed e) ∙ fine))) ∙ fine

module _ (allowed : ℕ → List ℕ → Type 0) where
  -- ---- arrays of slots

  pub all_as : (x y : ℕ → List ℕ) → x ≡ y → AllAllowed allowed y → AllAllowed allowed x
  all_as x y is all = subst (AllAllowed allowed) (sym is) all

  pub all_put : (slots : ℕ → List ℕ) (at : ℕ) (bytes : List ℕ) → AllAllowed allowed slots → ∥ allowed at bytes ∥₁ → AllAllowed allowed (put slots at bytes)
  all_put slots at bytes all here k = elim (cases_eq k at) [
    | inl e ↦
        let is : put slots at bytes at ≡ bytes = grind (arith, nat_tests) in
        subst (λ (m : ℕ). ∥ allowed m (put slots at bytes m) ∥₁) (sym e) (subst (λ (x : List ℕ). ∥ allowed at x ∥₁) (sym is) here)
    | inr ne ↦
        let is : put slots at bytes k ≡ slots k = grind (arith, nat_tests) in
        subst (λ (x : List ℕ). ∥ allowed k x ∥₁) (sym is) (all k)
  ]

  pub all_undone : (writes : List Undo) (slots : ℕ → List ℕ) → AllRestore allowed writes → AllAllowed allowed slots → AllAllowed allowed (undone writes slots)
  all_undone [] slots restore all = all
  all_undone (u ∷ later) slots restore all = all_put (undone later slots) u.slot u.old (all_undone later slots restore.1 all) restore.0

  either : (b : Bool) (k : ℕ) (x y : List ℕ) → ∥ allowed k x ∥₁ → ∥ allowed k y ∥₁ → ∥ allowed k (if b then x else y) ∥₁
  either true k x y one other = one
  either false k x y one other = other

  pub all_joined : (writes : List Undo) (reads committed : ℕ → List ℕ) → AllAllowed allowed reads → AllAllowed allowed committed → AllAllowed allowed (joined writes reads committed)
  all_joined writes reads committed one other k = either (wrote writes k) k (reads k) (committed k) (one k) (other k)

  -- ---- lists of writes

  pub restore_take : (n : ℕ) (writes : List Undo) → AllRestore allowed writes → AllRestore allowed (take n writes)
  restore_take zero writes restore = tt
  restore_take (suc n) [] restore = tt
  restore_take (suc n) (u ∷ later) restore = (restore.0, restore_take n later restore.1)

  pub restore_drop : (n : ℕ) (writes : List Undo) → AllRestore allowed writes → AllRestore allowed (drop n writes)
  restore_drop zero writes restore = restore
  restore_drop (suc n) [] restore = tt
  restore_drop (suc n) (u ∷ later) restore = restore_drop n later restore.1

  pub restore_push : (writes : List Undo) (u : Undo) → AllRestore allowed writes → ∥ allowed u.slot u.old ∥₁ → AllRestore allowed (writes ++ u ∷ [])
  restore_push [] u restore one = (one, tt)
  restore_push (w ∷ later) u restore one = (restore.0, restore_push later u restore.1 one)

  -- ---- stops

  pub stops_keep : (old new : SlotState) (before after : ℕ → (ℕ → List ℕ) → Type 0) → Goes old new before after → ((m : ℕ) (left : ℕ → List ℕ) → after m left → IsTrue new.observable) → new.observable ≡ old.observable
      → (IsTrue old.observable → AllAllowed allowed old.committed) → (IsTrue new.observable → AllAllowed allowed new.doubt) → ((m : ℕ) (left : ℕ → List ℕ) → before m left → AllAllowed allowed left)
      → (m : ℕ) (left : ℕ → List ℕ) → after m left → AllAllowed allowed left
  stops_keep old new before after time known same committed doubt stops m left there = ⊎_elim
      (λ (later : old.moment < m). λ k. ∥∥₁_elim (time.here m left later there) ∥∥₁_prop (λ (which : (left ≡ old.committed) ⊎ (left ≡ new.doubt)). ⊎_elim
      (λ (is : left ≡ old.committed). all_as left old.committed is (committed (subst (λ (b : Bool). IsTrue b) same (known m left there))) k)
      (λ (is : left ≡ new.doubt). all_as left new.doubt is (doubt (known m left there)) k) which))
      (λ (le : m ≤ old.moment). stops m left (time.nothing_else m left le there))
      (cases_lt old.moment m)
