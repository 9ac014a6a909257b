-- A store over slots where no transaction is begun is one over others that read the same.
use Rattle.std.proofs.Common.{◌≡◌, ℕ, ◌&&◌, not, Bool, true, false, List, length, IsTrue, ℤ, refl, sym, ap, ◌∙◌, subst}
use Rattle.std.proofs.Math.Path.{fun_ext}
use Rattle.storage.specs.Slots.{IsReadable, SlotState}
use Rattle.abl_values.specs.Schema.{SchemaData}
use Rattle.row_store.specs.Changes.{RowsById}
use Rattle.row_store.specs.Rows.{Durable, IsObservable, RowState, RowTransaction}
use Rattle.key_index.specs.Index.{Keys}
use Rattle.row_indexes.specs.declared.moves.Moved.{Moved}
use Rattle.row_indexes.specs.Places.{keepers_of, places_of}
use Rattle.row_keys.specs.Entries.{AreEntries}
use Rattle.row_keys.specs.Reserved.{reserved_at}
use Rattle.row_moves.specs.Indexed.{FitsSchema, IsIndexed}
use Rattle.sequence_slots.specs.Values.{values_in}
use Rattle.slot_rows.specs.declared.open.Open.{Open}
use Rattle.slot_rows.specs.Decoded.{decoded}
use Rattle.slot_rows.specs.Opens.{open_in}
use Rattle.slot_rows.specs.State.{rows_if, transaction_of}
use Rattle.indexed_store.specs.Opened.{HoldStore, IsOpenedStore}
use Rattle.indexed_store.specs.State.{store_state}

module _ (schema : SchemaData) (keys : List Keys) (sequences : List ℤ) (s t : SlotState) (opens : List Open) (ended : (c : ℕ) → (s.transaction c).begun ≡ false) (idle : (c : ℕ) → (t.transaction c).begun ≡ false) where
  abbrev was : RowState
  was = store_state schema keys sequences s opens

  abbrev now : RowState
  now = store_state schema keys sequences t opens

  transaction_same : (c : ℕ) → now.transaction c ≡ was.transaction c
  transaction_same c = ap (λ (b : Bool). transaction_of b (reserved_at schema (keepers_of keys) c) (open_in opens c)) (idle c ∙ sym (ended c))

  -- the rows that slots hold, where they are known
  rows_known : (x : SlotState) → IsReadable x → rows_if (x.observable && not x.failed) (decoded schema x.reads) ≡ decoded schema x.reads
  rows_known x readable =
      let both : (x.observable && not x.failed) ≡ true = λ i. readable.0 i && not (readable.1 i) in
      ap (λ (b : Bool). rows_if b (decoded schema x.reads)) both

  pub indexed_over : (moved : ℕ → List Moved) → s.failed ≡ false → (IsTrue t.observable → IsTrue s.observable × (t.reads ≡ s.reads)) → IsIndexed was moved keys → IsIndexed now moved keys
  indexed_over moved fine same indexed = record {
    count = indexed.count;
    entries = λ is. subst (λ (r : RowsById). AreEntries schema r (places_of keys)) (sym (rows_same is)) (indexed.entries (seen is));
    fitting = λ is. subst (λ (r : RowsById). (k : ℕ) → FitsSchema schema (r k)) (sym (rows_same is)) (indexed.fitting (seen is));
    old_fitting = λ is c. indexed.old_fitting (seen is) c;
    rows = indexed.rows;
    back = λ is c. indexed.back (seen is) c;
    can = indexed.can;
    reserved = indexed.reserved;
    within = indexed.within;
    begun = λ c j key is. ap (λ (x : RowTransaction). x.begun) (transaction_same c) ∙ indexed.begun c j key is;
  }
    where
      seen : IsObservable now → IsObservable was
      seen is = ((same is.0).0, fine)

      rows_same : IsObservable now → now.rows ≡ was.rows
      rows_same is = rows_known t is ∙ (ap (decoded schema) (same is.0).1 ∙ sym (rows_known s (seen is)))

  pub opened_over : (other : SchemaData) (old : SlotState) → t.failed ≡ false → (IsReadable t → (k : ℕ) → t.committed k ≡ t.reads k) → (IsTrue t.observable → IsTrue old.observable × (t.reads ≡ old.reads))
      → IsOpenedStore was other old → IsOpenedStore now other t
  opened_over other old fine settled same opened = record {
    schema_is = opened.schema_is;
    fine = fine;
    observable = refl;
    idle = λ c. transaction_same c ∙ opened.idle c;
    rows = λ is. rows_known t (is, fine) ∙ decoded_as t.reads;
    durable = λ is.
        let rows = committed_is is in
        let values = values_are is in
        λ i. record { rows = rows i; sequences = values i };
    count = opened.count;
    held = λ is. subst (HoldStore other) (sym (same is).1) (opened.held (same is).0);
  }
    where
      decoded_as : (f : ℕ → List ℕ) → decoded schema f ≡ decoded other f
      decoded_as f = ap (λ (x : SchemaData). decoded x f) opened.schema_is

      committed_is : IsTrue t.observable → rows_if t.observable (decoded schema t.committed) ≡ decoded other t.reads
      committed_is is = ap (λ (b : Bool). rows_if b (decoded schema t.committed)) is ∙ (ap (decoded schema) (fun_ext (settled (is, fine))) ∙ decoded_as t.reads)

      values_are : IsTrue t.observable → sequences ≡ values_in (length other.sequences) t.reads
      values_are is = ap (λ (d : Durable). d.sequences) (opened.durable (same is).0) ∙ ap (values_in (length other.sequences)) (sym (same is).1)
