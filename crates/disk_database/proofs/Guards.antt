-- Slots that were just opened may be guarded, and the same slots guarded.
use Rattle.std.proofs.Common.{◌≡◌, ◌∙◌, ℕ, Bool, List, refl, ap, sym, subst}
use Rattle.std.specs.Prelude.{IsTrue}
use Rattle.row_store.specs.Rows.{RowState}
use Rattle.storage.specs.Slots.{IsReadable, SlotState}
use Rattle.abl_values.specs.Schema.{SchemaData}
use Rattle.log_meaning.specs.steps.Steps.{Image}
use Rattle.guarded_slots.specs.Guarded.{AllAllowed}
use Rattle.log_meaning.specs.Images.{Recovers}
use Rattle.indexed_store.specs.Opened.{CanOpen, IsOpenedStore}
use Rattle.slot_txn.specs.Opening.{IsOpenedOver}
use Rattle.disk_database.specs.Inside.{AreOpened, IsStoreOver}
use Rattle.disk_database.specs.Parts.{KeptSince}
use Rattle.disk_database.proofs.Parts.{kept_from}
use Rattle.disk_database.proofs.Survivals.{one_array}

module _ (schema : SchemaData) (images : Image → Type 0) (s : SlotState) (stop : ℕ → (ℕ → List ℕ) → Type 0) (observable : Bool) (seen : Image) (was : ℕ) (left : ℕ → Image → Type 0) (opened : AreOpened s stop observable seen was left)
    (there : IsTrue observable → left was seen) (covers : (image : Image) → left was image → images image) where
  known : IsTrue s.observable → IsTrue observable
  known is = subst (λ (b : Bool). IsTrue b) opened.same_observable is

  pub committed_kept : IsTrue s.observable → AllAllowed (KeptSince schema images) s.committed
  committed_kept is = kept_from schema images seen s.committed (covers seen (there (known is))) (opened.recovered (known is))

  pub doubt_kept : IsTrue s.observable → AllAllowed (KeptSince schema images) s.doubt
  doubt_kept is = subst (AllAllowed (KeptSince schema images)) (sym (opened.certain (known is))) (committed_kept is)

  pub reads_kept : (IsTrue observable → s.reads ≡ s.committed) → IsReadable s → AllAllowed (KeptSince schema images) s.reads
  reads_kept settled readable = subst (AllAllowed (KeptSince schema images)) (sym (settled (known readable.0))) (committed_kept readable.0)

  pub stops_kept : (m : ℕ) (slots : ℕ → List ℕ) → stop m slots → AllAllowed (KeptSince schema images) slots
  stops_kept m slots st = let old = opened.come m slots st in kept_from schema images old.0 slots (covers old.0 old.1) old.2

-- the same slots, of which no more stops are known
pub opened_as : (s t : SlotState) (at_s at_t : ℕ → (ℕ → List ℕ) → Type 0) (observable : Bool) (seen : Image) (was : ℕ) (left : ℕ → Image → Type 0) → t ≡ s → ((m : ℕ) (slots : ℕ → List ℕ) → at_t m slots → at_s m slots) → AreOpened s at_s observable seen was left
    → AreOpened t at_t observable seen was left
opened_as s t at_s at_t observable seen was left same stops opened = subst (λ (x : SlotState). AreOpened x at_t observable seen was left) (sym same) (record {
  same_observable = opened.same_observable;
  since = opened.since;
  certain = opened.certain;
  recovered = opened.recovered;
  come = λ m slots st. opened.come m slots (stops m slots st);
})

-- just opened and guarded, they may be opened further
pub can_open_as : (s t : SlotState) (stop : ℕ → (ℕ → List ℕ) → Type 0) (observable : Bool) (seen : Image) (was : ℕ) (left : ℕ → Image → Type 0) → t ≡ s → IsOpenedOver s stop observable seen was left → CanOpen t
can_open_as s t stop observable seen was left same over = subst CanOpen (sym same) (record {
  idle = over.idle;
  clean = over.clean;
  fine = over.fine;
  settled = λ readable k. ap (λ (f : ℕ → List ℕ). f k) over.settled;
  certain = λ readable k. ap (λ (f : ℕ → List ℕ). f k) over.certain;
})

-- and read what the view of the disk reads
pub same_reads : (s t view : SlotState) (stop : ℕ → (ℕ → List ℕ) → Type 0) (observable : Bool) (seen : Image) (was : ℕ) (left : ℕ → Image → Type 0) → t ≡ s → IsOpenedOver s stop observable seen was left → (IsTrue observable → Recovers seen view.reads) → IsReadable view
    → IsTrue t.observable → IsTrue view.observable × (t.reads ≡ view.reads)
same_reads s t view stop observable seen was left same over recovers readable known = (readable.0, ap (λ (x : SlotState). x.reads) same ∙ one_array seen s.reads view.reads (over.recovered known_disk) (recovers known_disk))
  where
    known_disk : IsTrue observable
    known_disk = subst (λ (b : Bool). IsTrue b) (ap (λ (x : SlotState). x.observable) same ∙ over.same_observable) known

-- so what they have committed is what the view reads
pub committed_same : (s t view : SlotState) (stop : ℕ → (ℕ → List ℕ) → Type 0) (observable : Bool) (seen : Image) (was : ℕ) (left : ℕ → Image → Type 0) → t ≡ s → IsOpenedOver s stop observable seen was left → (IsTrue observable → Recovers seen view.reads) → IsTrue observable
    → t.committed ≡ view.reads
committed_same s t view stop observable seen was left same over recovers known = ap (λ (x : SlotState). x.committed) same ∙ over.settled ∙ one_array seen s.reads view.reads (over.recovered known) (recovers known)

-- a store that was opened over them has what they have committed
pub store_over : (rows : RowState) (schema : SchemaData) (s t : SlotState) (stop : ℕ → (ℕ → List ℕ) → Type 0) (observable : Bool) (seen : Image) (was : ℕ) (left : ℕ → Image → Type 0) → t ≡ s → IsOpenedOver s stop observable seen was left → IsOpenedStore rows schema t
    → IsStoreOver rows schema t
store_over rows schema s t stop observable seen was left same over store = record { opened = t; store = store; same_observable = refl; reads = λ known. subst (λ (x : SlotState). x.reads ≡ x.committed) (sym same) (sym over.settled) }
