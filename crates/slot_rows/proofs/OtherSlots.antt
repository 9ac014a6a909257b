-- A store of rows over slots where no transaction is begun is one over others that read the same.
use Rattle.std.proofs.Common.{◌≡◌, ℕ, false, List, [], IsTrue, refl, sym, ◌∙◌, ap, subst}
use Rattle.std.proofs.Math.Path.{fun_ext}
use Rattle.storage.specs.Slots.{SlotState, IsReadable, wrote}
use Rattle.storage.specs.declared.slots.Undo.{Undo}
use Rattle.abl_values.specs.Schema.{SchemaData}
use Rattle.slot_rows.specs.declared.log.Undone.{Undone}
use Rattle.slot_rows.specs.Chained.{HoldRows}
use Rattle.slot_rows.specs.Counted.{AreCounted}
use Rattle.slot_rows.specs.Decoded.{decoded}
use Rattle.slot_rows.specs.Stored.{IsStored}
use Rattle.slot_rows.proofs.Histories.{clash}
use Rattle.slot_rows.proofs.Opening.{opened_stored}

-- ---- slots where no transaction is begun

module _ (schema : SchemaData) (s : SlotState) (log : ℕ → List Undone) (touched : ℕ → List ℕ) (stored : IsStored schema s log touched) (undone : (c : ℕ) → (s.transaction c).undo ≡ []) where
  none_wrote : (c k : ℕ) → wrote (s.transaction c).undo k ≡ false
  none_wrote c k = ap (λ (us : List Undo). wrote us k) (undone c)

  pub rows_held : IsReadable s → HoldRows schema s.reads
  rows_held readable = (stored.mixes readable (λ c. 0) s.reads (record { of = λ c k e. clash (wrote (s.transaction c).undo k) e (none_wrote c k); rest = λ k e. refl })).1

  pub committed_reads : IsReadable s → s.committed ≡ s.reads
  committed_reads readable = fun_ext (λ k. (stored.base readable).rest k (λ c. none_wrote c k))

-- ---- others that read the same

module _ (schema : SchemaData) (s t : SlotState) (log : ℕ → List Undone) (touched : ℕ → List ℕ) (stored : IsStored schema s log touched) (ended : (c : ℕ) → (s.transaction c).begun ≡ false) (undone : (c : ℕ) → (s.transaction c).undo ≡ [])
    (fine : s.failed ≡ false) (settled : IsReadable t → (k : ℕ) → t.committed k ≡ t.reads k) (same : IsTrue t.observable → IsTrue s.observable × (t.reads ≡ s.reads)) where
  readable_before : IsReadable t → IsReadable s
  readable_before readable = ((same readable.0).0, fine)

  -- what is committed in the one is committed in the other
  pub committed_over : IsReadable t → t.committed ≡ s.committed
  committed_over readable = fun_ext (settled readable) ∙ ((same readable.0).1 ∙ sym (committed_reads schema s log touched stored undone (readable_before readable)))

  pub held_over : IsReadable t → HoldRows schema t.reads
  held_over readable = subst (HoldRows schema) (sym (same readable.0).1) (rows_held schema s log touched stored undone (readable_before readable))

  pub stored_over : ((c : ℕ) → (t.transaction c).undo ≡ []) → IsStored schema t log touched
  stored_over clean =
      let log_none : log ≡ (λ c. []) = fun_ext (λ c. (stored.idle c (ended c)).0) in
      let touched_none : touched ≡ (λ c. []) = fun_ext (λ c. (stored.idle c (ended c)).1) in
      subst (λ (l : ℕ → List Undone). IsStored schema t l touched) (sym log_none)
      (subst (λ (rows : ℕ → List ℕ). IsStored schema t (λ c. []) rows) (sym touched_none) (opened_stored schema t clean settled held_over))

  pub counted_over : (used : ℕ) → (IsReadable s → AreCounted (decoded schema s.committed) used) → IsReadable t → AreCounted (decoded schema t.committed) used
  counted_over used counted readable = subst (λ (f : ℕ → List ℕ). AreCounted (decoded schema f) used) (sym (committed_over readable)) (counted (readable_before readable))
