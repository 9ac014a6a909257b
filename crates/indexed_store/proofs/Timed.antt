-- Time, said of rows and sequence values.
use Rattle.std.proofs.Common.{◌≡◌, ◌⊎◌, inl, inr, ⊎_elim, ℕ, Bool, List, length, IsTrue, ℤ, refl, sym, ap, ◌∙◌, subst, arith}
use Rattle.std.proofs.Math.Logic.{∥∥₁_map}
use Rattle.storage.specs.Slots.{SlotState, KeepsCommitted}
use Rattle.storage.specs.Slots as slots
use Rattle.abl_values.specs.Schema.{SchemaData}
use Rattle.row_store.specs.Changes.{RowsById}
use Rattle.row_store.specs.Rows.{Durable, durable_of}
use Rattle.row_store.specs.Times.{Goes, Rests}
use Rattle.key_index.specs.Index.{Keys}
use Rattle.sequence_slots.specs.Values.{HoldValues, values_in}
use Rattle.sequence_slots.proofs.Reading.{values_read}
use Rattle.slot_rows.specs.declared.open.Open.{Open}
use Rattle.slot_rows.specs.Decoded.{decoded}
use Rattle.slot_rows.specs.Durable.{durable_in, left_in, times_in}
use Rattle.slot_rows.specs.State.{rows_if}
use Rattle.indexed_store.specs.State.{store_state}

-- the values that are held stay where what is committed stays
pub store_held : (s t : SlotState) (sequences : List ℤ) → KeepsCommitted s t → (IsTrue s.observable → HoldValues s.committed sequences) → IsTrue t.observable → HoldValues t.committed sequences
store_held s t sequences keeps held seen =
    let was : IsTrue s.observable = subst (λ (b : Bool). IsTrue b) keeps.observable seen in
    subst (λ (f : ℕ → List ℕ). HoldValues f sequences) (sym (keeps.committed was)) (held was)

module _ (schema : SchemaData) (keys : List Keys) (sequences : List ℤ) (s : SlotState) (opens : List Open) where
  -- what is committed is what the committed slots decode to
  pub durable_is : length sequences ≡ length schema.sequences → (IsTrue s.observable → HoldValues s.committed sequences) → IsTrue s.observable → durable_of (store_state schema keys sequences s opens) ≡ durable_in schema s.committed
  durable_is values held seen =
      ap (λ (r : RowsById). made r sequences) (ap (λ (b : Bool). rows_if b (decoded schema s.committed)) seen)
      ∙ ap (made (decoded schema s.committed)) (sym (ap (λ (n : ℕ). values_in n s.committed) (sym values) ∙ values_read s.committed sequences (held seen)))
    where
      made : RowsById → List ℤ → Durable
      made rows values = record { rows = rows; sequences = values }

  module _ (now_schema : SchemaData) (t : SlotState) (at_s at_t : ℕ → (ℕ → List ℕ) → Type 0) (same_schema : now_schema ≡ schema) (values : length sequences ≡ length schema.sequences) (held : IsTrue s.observable → HoldValues s.committed sequences)
      (goes : slots.Goes s t at_s at_t) (stop : (m : ℕ) (left : ℕ → List ℕ) → at_t m left → slots.IsStop t m) where
    goes_here : t.observable ≡ s.observable → Goes (store_state schema keys sequences s opens) (left_in schema at_s) (left_in schema at_t) (times_in schema s) (times_in schema t)
    goes_here seen = record {
      later = goes.later;
      since = goes.since;
      nothing_else = λ m d past h. (h.0, goes.nothing_else m h.0 past h.1, h.2);
      stays = λ m d past h. (h.0, goes.stays m h.0 past h.1, h.2);
      here = λ m d now h.
          let was : IsTrue s.observable = subst (λ (b : Bool). IsTrue b) seen (stop m h.0 h.1).observable in
          ∥∥₁_map (goes.here m h.0 now h.1)
          (λ (which : (h.0 ≡ s.committed) ⊎ (h.0 ≡ t.doubt)). ⊎_elim (λ (e : h.0 ≡ s.committed). inl (h.2 ∙ (ap (durable_in schema) e ∙ sym (durable_is values held was)))) (λ (e : h.0 ≡ t.doubt). inr (h.2 ∙ ap (durable_in schema) e)) which);
    }

    pub store_goes : t.observable ≡ s.observable → Goes (store_state schema keys sequences s opens) (left_in schema at_s) (left_in now_schema at_t) (times_in schema s) (times_in now_schema t)
    store_goes seen = subst (λ (x : SchemaData). Goes (store_state schema keys sequences s opens) (left_in schema at_s) (left_in x at_t) (times_in schema s) (times_in x t)) (sym same_schema) (goes_here seen)

    rests_now : KeepsCommitted s t → Rests (store_state schema keys sequences s opens) (left_in schema at_s) (left_in now_schema at_t) (times_in schema s) (times_in now_schema t)
    rests_now keeps = record { goes = store_goes keeps.observable; doubt = λ seen. ap (λ (x : SchemaData). durable_in x t.doubt) same_schema ∙ ap (durable_in schema) (keeps.doubt seen) }

pub store_rests : (schema now_schema : SchemaData) (keys : List Keys) (sequences : List ℤ) (s t : SlotState) (opens : List Open) (at_s at_t : ℕ → (ℕ → List ℕ) → Type 0) → now_schema ≡ schema → length sequences ≡ length schema.sequences
    → (IsTrue s.observable → HoldValues s.committed sequences) → KeepsCommitted s t → slots.Goes s t at_s at_t → ((m : ℕ) (left : ℕ → List ℕ) → at_t m left → slots.IsStop t m)
    → Rests (store_state schema keys sequences s opens) (left_in schema at_s) (left_in now_schema at_t) (times_in schema s) (times_in now_schema t)
store_rests schema now_schema keys sequences s t opens at_s at_t same_schema values held keeps goes stop = rests_now schema keys sequences s opens now_schema t at_s at_t same_schema values held goes stop keeps

-- a call that does not reach the slots
pub store_waits : (schema : SchemaData) (keys : List Keys) (sequences : List ℤ) (s : SlotState) (opens : List Open) (at : ℕ → (ℕ → List ℕ) → Type 0) → ((m : ℕ) (left : ℕ → List ℕ) → at m left → slots.IsStop s m)
    → Rests (store_state schema keys sequences s opens) (left_in schema at) (left_in schema at) (times_in schema s) (times_in schema s)
store_waits schema keys sequences s opens at stop = record {
  goes = record {
    later = omega arith;
    since = refl;
    nothing_else = λ m d past h. h;
    stays = λ m d past h. h;
    here = λ m d now h. let past = (stop m h.0 h.1).past in absurd (omega (arith, now, past));
  };
  doubt = λ seen. refl;
}
