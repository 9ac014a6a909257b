-- What a store over a disk that was just opened starts from.
use Rattle.std.proofs.Common.{◌≡◌, ◌≤◌, ℕ, Bool, List, None, refl, sym, ap, ◌∙◌, subst}
use Rattle.std.specs.Prelude.{IsTrue, map}
use Rattle.storage.specs.Slots.{SlotState}
use Rattle.abl_values.specs.Schema.{SchemaData, canonical_text}
use Rattle.abl_values.specs.Sound.{IsSound}
use Rattle.database_meaning.specs.declared.contents.Contents.{Contents}
use Rattle.database_meaning.specs.Traces.{IsSoundContents, identity_of}
use Rattle.database_meaning.specs.Waiting.{IsAscending}
use Rattle.row_store.specs.Rows.{Durable, RowState, durable_of}
use Rattle.db_core.specs.Crashes.{Holds, StartsFrom}
use Rattle.db_core.specs.Opening.{IsOpened as IsStoreOpened}
use Rattle.slot_rows.specs.Durable.{durable_in, left_in, times_in}
use Rattle.indexed_store.specs.Contents.{contents_of}
use Rattle.indexed_store.proofs.Contents.{only_contents, sound_contents, store_contents}
use Rattle.indexed_store.proofs.Sound.{decoded_past}
use Rattle.log_meaning.specs.steps.Steps.{Image}
use Rattle.indexed_store.specs.Opened.{HoldStore}
use Rattle.database_layout.specs.stored_text.Held.{HoldText}
use Rattle.disk_database.specs.Answers.{IsBornOf}
use Rattle.disk_database.specs.Images.{AreImagesOf}
use Rattle.disk_database.specs.Parts.{LeaveUnused}
use Rattle.disk_database.proofs.Reopenings.{database_contents}
use Rattle.disk_database.specs.Inside.{AreOpened, IsStoreOver}

module _ (rows : RowState) (schema : SchemaData) (s : SlotState) (over : IsStoreOver rows schema s) where
  known : IsTrue rows.observable → IsTrue over.opened.observable
  known seen = subst (λ (b : Bool). IsTrue b) over.store.observable seen

  -- the store was opened with its own contents
  pub own_contents : (contents : Contents) × IsStoreOpened rows contents × (rows.sequences ≡ contents.sequences)
  own_contents = (contents_of (durable_of rows), record { idle = over.store.idle; committed = λ seen k. store_contents rows schema over.opened over.store seen k }, refl)

  -- and with each contents that it holds
  pub opened_with : (contents : Contents) → Holds (durable_of rows) contents → IsStoreOpened rows contents
  opened_with contents holds = record { idle = over.store.idle; committed = λ seen k. sym (holds.rows k) }

  past : IsTrue rows.observable → (k : ℕ) → 1048576 ≤ k → rows.committed k ≡ None
  past seen k le = ap (λ (d : Durable). d.rows k) (over.store.durable (known seen)) ∙ decoded_past schema over.opened.reads k le

  -- which are sound
  pub sound_with : (clients : ℕ) (contents : Contents) → IsTrue rows.observable → IsAscending (map identity_of contents.rows) → Holds (durable_of rows) contents → IsSoundContents (record { schema = schema; clients = clients }) contents
  sound_with clients contents seen ascending holds =
      subst (IsSoundContents (record { schema = schema; clients = clients })) (sym (only_contents contents (durable_of rows) ascending (past seen) holds.rows holds.sequences))
      (sound_contents rows schema over.opened over.store (known seen) clients)

  -- the durable state is that of the committed slots
  pub durable_is : IsTrue s.observable → durable_of rows ≡ durable_in schema s.committed
  durable_is seen = over.store.durable (subst (λ (b : Bool). IsTrue b) (sym over.same_observable) seen) ∙ ap (durable_in schema) (over.reads seen)

  -- a disk whose slots the store has is born of the schema
  pub born_over : (stop : ℕ → (ℕ → List ℕ) → Type 0) (observable : Bool) (seen : Image) (was : ℕ) (left : ℕ → Image → Type 0) → AreOpened s stop observable seen was left → IsSound schema → (IsTrue observable → HoldText s.committed (canonical_text schema))
      → (IsTrue observable → LeaveUnused schema s.committed) → IsTrue observable → IsBornOf seen schema
  born_over stop observable seen was left opened sound text unused is = (
    s.committed,
    opened.recovered is,
    database_contents schema s.committed sound (record { text = text is; unused = unused is; store = subst (HoldStore schema) (over.reads there) (over.store.held (subst (λ (b : Bool). IsTrue b) (sym over.same_observable) there)) }),
  )
    where
      there : IsTrue s.observable
      there = subst (λ (b : Bool). IsTrue b) (sym opened.same_observable) is

  module _ (own : SchemaData) (same : own ≡ schema) (stop : ℕ → (ℕ → List ℕ) → Type 0) (observable : Bool) (seen : Image) (was : ℕ) (left : ℕ → Image → Type 0) (opened : AreOpened s stop observable seen was left)
      (there : IsTrue observable → left was seen) where
    pub starts : (contents : Contents) → AreImagesOf observable was left schema contents → StartsFrom rows (left_in own stop) (times_in own s) contents
    starts contents images = record {
      each = λ m durable later st. let from = opened.come m st.0 st.1 in subst (λ (d : Durable). Holds d contents) (ap (λ (x : SchemaData). durable_in x st.0) (sym same) ∙ sym st.2) ((images.all from.0 from.1).each st.0 from.2).holds;
      committed = subst (λ (d : Durable). Holds d contents) (sym (durable_is seen_slots)) held;
      doubt = subst (λ (d : Durable). Holds d contents) (ap (durable_in schema) (sym (opened.certain images.seen)) ∙ ap (λ (x : SchemaData). durable_in x s.doubt) (sym same)) held;
    }
      where
        seen_slots : IsTrue s.observable
        seen_slots = subst (λ (b : Bool). IsTrue b) (sym opened.same_observable) images.seen

        held : Holds (durable_in schema s.committed) contents
        held = ((images.all seen (there images.seen)).each s.committed (opened.recovered images.seen)).holds
