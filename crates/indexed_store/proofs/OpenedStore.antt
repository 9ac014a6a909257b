-- A store over slots that hold rows.
use Rattle.std.proofs.Common.{◌≡◌, ℕ, ◌&&◌, not, Bool, true, false, List, [], length, Option, Some, None, IsTrue, ℤ, refl, sym, ap, ◌∙◌, subst}
use Rattle.std.proofs.Math.Path.{fun_ext}
use Rattle.storage.specs.Slots.{IsReadable, SlotState}
use Rattle.abl_values.specs.Schema.{SchemaData}
use Rattle.database_meaning.specs.declared.state.StoredRow.{StoredRow}
use Rattle.row_store.specs.declared.store.RowChange.{RowChange}
use Rattle.row_store.specs.Changes.{RowsById}
use Rattle.row_store.specs.Rows.{RowTransaction, no_transaction}
use Rattle.byte_rows.specs.Still.{Still}
use Rattle.row_fragments.specs.Chains.{AreChains}
use Rattle.key_index.specs.Index.{Keys}
use Rattle.row_indexes.specs.declared.moves.Moved.{Moved}
use Rattle.row_indexes.specs.Places.{keepers_of, places_of}
use Rattle.row_indexes.specs.Changes.{AreAllKept, AreAllWithin, CanUndoAll}
use Rattle.row_keys.specs.Entries.{AreEntries}
use Rattle.row_keys.specs.Numbers.{index_count}
use Rattle.row_keys.specs.Reserved.{reserved_at}
use Rattle.row_keys.proofs.Kept.{reserved_none}
use Rattle.row_moves.specs.Indexed.{AreFit, AreOfSameRows, FitsSchema, IsIndexed, LeadBack}
use Rattle.sequence_slots.specs.Values.{HoldValues, values_in}
use Rattle.slot_rows.specs.declared.open.Open.{Open}
use Rattle.slot_rows.specs.Decoded.{decoded}
use Rattle.slot_rows.specs.Opens.{log_in, no_open, open_in}
use Rattle.slot_rows.specs.State.{Reserved, rows_if, state_of, transaction_of}
use Rattle.slot_rows.specs.Stored.{changes_of}
use Rattle.indexed_store.specs.Opened.{AreEntered, AreSoundRows, CanOpen, IsOpenedStore}
use Rattle.indexed_store.specs.State.{no_reserved, store_state}

pub fits_sound : (schema : SchemaData) (rows : RowsById) → AreSoundRows schema rows → (k : ℕ) → FitsSchema schema (rows k)
fits_sound schema rows sound k = by_row (rows k) refl
  where
    by_row : (row : Option StoredRow) → rows k ≡ row → FitsSchema schema row
    by_row None e = tt
    by_row (Some row) e = let is = sound.each k row e in (is.table, is.fits)

pub idle_rows : (schema : SchemaData) (s : SlotState) (opens : List Open) (c : ℕ) → (s.transaction c).begun ≡ false → open_in opens c ≡ no_open → (state_of schema no_reserved [] s opens).transaction c ≡ no_transaction
idle_rows schema s opens c begun none = λ i. transaction_of (begun i) (no_reserved c) (none i)

module _ (schema other : SchemaData) (keys : List Keys) (sequences : List ℤ) (a t : SlotState) (at_a at_t : ℕ → (ℕ → List ℕ) → Type 0) (opens : List Open) (moved : ℕ → List Moved)
    (same : schema ≡ other) (can : CanOpen a) (still : Still a t at_a at_t) (idle : (c : ℕ) → (state_of schema no_reserved [] t opens).transaction c ≡ no_transaction)
    (count : length keys ≡ index_count schema) (no_keeper : (j : ℕ) (key : List ℕ) → keepers_of keys j key ≡ None) (entered : IsReadable a → AreEntered schema (decoded schema a.reads) keys)
    (idle_moves : (c : ℕ) → moved c ≡ []) (long : length sequences ≡ length other.sequences)
    (values : IsTrue a.observable → sequences ≡ values_in (length other.sequences) a.reads) (held : IsTrue a.observable → HoldValues a.reads sequences) where
  seen : IsTrue t.observable → IsReadable a
  seen is = (subst (λ (v : Bool). IsTrue v) still.rests.keeps.observable is, can.fine)

  fine : t.failed ≡ false
  fine = still.failed ∙ can.fine

  -- the rows that are read, and those that are committed
  rows_are : IsTrue t.observable → rows_if (t.observable && not t.failed) (decoded schema t.reads) ≡ decoded schema a.reads
  rows_are is =
      let both : (t.observable && not t.failed) ≡ true = λ i. is i && not (fine i) in
      ap (λ (b : Bool). rows_if b (decoded schema t.reads)) both ∙ ap (decoded schema) (still.rests.reads (seen is))

  committed_reads : IsTrue t.observable → t.committed ≡ a.reads
  committed_reads is = still.rests.keeps.committed (seen is).0 ∙ fun_ext (can.settled (seen is))

  committed_are : IsTrue t.observable → rows_if t.observable (decoded schema t.committed) ≡ decoded schema a.reads
  committed_are is = ap (λ (b : Bool). rows_if b (decoded schema t.committed)) is ∙ ap (decoded schema) (committed_reads is)

  pub held_committed : IsTrue t.observable → HoldValues t.committed sequences
  held_committed is = subst (λ (f : ℕ → List ℕ). HoldValues f sequences) (sym (committed_reads is)) (held (seen is).0)

  change_none : (c : ℕ) → changes_of (log_in opens c) ≡ []
  change_none c = ap (λ (x : RowTransaction). x.changes) (idle c)

  nobody : {W : Type 0} (c j : ℕ) (key : List ℕ) → keepers_of keys j key ≡ Some c → W
  nobody c j key is = let clash : None ≡ Some c = sym (no_keeper j key) ∙ is in absurd (cc clash)

  pub opened_indexed : IsIndexed (store_state schema keys sequences t opens) moved keys
  opened_indexed = record {
    count = count;
    entries = λ is. subst (λ (r : RowsById). AreEntries schema r (places_of keys)) (sym (rows_are is.0)) (entered (seen is.0)).entries;
    fitting = λ is. subst (λ (r : RowsById). (k : ℕ) → FitsSchema schema (r k)) (sym (rows_are is.0)) (fits_sound schema (decoded schema a.reads) (entered (seen is.0)).sound);
    old_fitting = λ is c. subst (AreFit schema) (sym (change_none c)) tt;
    rows = λ c. subst (AreOfSameRows (changes_of (log_in opens c))) (sym (idle_moves c)) (subst (λ (l : List RowChange). AreOfSameRows l []) (sym (change_none c)) tt);
    back = λ is c.
        subst (λ (m : List Moved). LeadBack schema c (changes_of (log_in opens c)) m (places_of keys)) (sym (idle_moves c))
        (subst (λ (l : List RowChange). LeadBack schema c l [] (places_of keys)) (sym (change_none c)) tt);
    can = λ c. subst (λ (m : List Moved). CanUndoAll c m (places_of keys)) (sym (idle_moves c)) tt;
    reserved = λ c. subst (λ (m : List Moved). AreAllKept c m (keepers_of keys)) (sym (idle_moves c)) tt;
    within = λ c. subst (AreAllWithin (index_count schema)) (sym (idle_moves c)) tt;
    begun = λ c j key is. nobody c j key is;
  }

  reserved_is : reserved_at schema (keepers_of keys) ≡ no_reserved
  reserved_is = fun_ext (λ c. reserved_none schema (keepers_of keys) c (λ j key is. nobody c j key is))

  pub opened_store : (IsTrue a.observable → AreChains a.reads) → IsOpenedStore (store_state schema keys sequences t opens) other a
  opened_store chains = record {
    schema_is = same;
    fine = fine;
    observable = still.rests.keeps.observable;
    idle = λ c. subst (λ (r : Reserved). (state_of schema r sequences t opens).transaction c ≡ no_transaction) (sym reserved_is) (idle c);
    rows = λ is. rows_are (now is) ∙ ap (λ (x : SchemaData). decoded x a.reads) same;
    durable = λ is.
        let rows : rows_if t.observable (decoded schema t.committed) ≡ decoded other a.reads = committed_are (now is) ∙ ap (λ (x : SchemaData). decoded x a.reads) same in
        let held_values = values is in
        λ i. record { rows = rows i; sequences = held_values i };
    count = long;
    held = λ is. record {
      values = subst (HoldValues a.reads) (values is) (held is);
      rows = subst (λ (x : SchemaData). AreSoundRows x (decoded x a.reads)) same (entered (is, can.fine)).sound;
      chains = chains is;
    };
  }
    where
      now : IsTrue a.observable → IsTrue t.observable
      now is = subst (λ (v : Bool). IsTrue v) (sym still.rests.keeps.observable) is
