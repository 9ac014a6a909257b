-- A client that begins a transaction.
use Rattle.std.proofs.Common.{◌≡◌, ◌≢◌, ℕ, Bool, true, false, List, [], take, drop, ℤ, sym, ap, ◌∙◌}
use Rattle.storage.specs.Slots.{SlotState, Transaction, Begins, HasCause, IsReadable, Rests}
use Rattle.storage.specs.Slots as storage
use Rattle.storage.specs.declared.slots.Undo.{Undo}
use Rattle.abl_values.specs.Schema.{SchemaData}
use Rattle.database_meaning.specs.declared.state.Key.{Key}
use Rattle.byte_rows.specs.declared.places.Place.{Place as SlotPlace}
use Rattle.byte_rows.specs.declared.client.Client.{Client}
use Rattle.byte_rows.specs.Noted.{IsSound}
use Rattle.row_store.specs.Changes.{has_change}
use Rattle.row_store.specs.Rows.{no_transaction}
use Rattle.row_store.specs.Rows as rows
use Rattle.slot_rows.specs.declared.open.Open.{Open}
use Rattle.slot_rows.specs.Opens.{OpenView, log_in, no_open, open_in, touched_in}
use Rattle.slot_rows.specs.State.{Reserved, state_of, transaction_of}
use Rattle.slot_rows.specs.Stored.{IsStored, changes_of, has}
use Rattle.slot_rows.proofs.Changed.{base_same}
use Rattle.slot_rows.proofs.Errors.{rows_rest}
use Rattle.slot_rows.proofs.Histories.{clash}
use Rattle.slot_rows.proofs.Keeps.{WentBack}
use Rattle.slot_rows.proofs.Returned.{returned_stored}

module _ (schema : SchemaData) (s t : SlotState) (was now : List Open) (client : ℕ)
    (places : List SlotPlace) (free : ℕ → ℕ) (clients : List Client) (failed : Bool) (sound : IsSound s places free clients failed)
    (left_places : List SlotPlace) (left_free : ℕ → ℕ) (left_clients : List Client) (left_failed : Bool) (still_sound : IsSound t left_places left_free left_clients left_failed)
    (stored : IsStored schema s (log_in was) (touched_in was)) (fine : s.failed ≡ false) (still_fine : t.failed ≡ s.failed) (idle : (s.transaction client).begun ≡ false)
    (begins : Begins s t client) (own : open_in now client ≡ no_open) (same : (c : ℕ) → c ≢ client → open_in now c ≡ open_in was c) where
  no_undo : (s.transaction client).undo ≡ []
  no_undo = (sound.noted fine).kept.idle client idle

  began : WentBack s t (log_in was) (log_in now) client 0
  began = record {
    observable = begins.keeps.observable;
    failed = still_fine;
    committed = λ readable. begins.keeps.committed readable.0;
    undo = begins.transaction.undo ∙ ap (λ (i : ℕ). take i (s.transaction client).undo) (sym (stored.first fine client));
    undo_others = λ c ne. ap (λ (x : Transaction). x.undo) (begins.transaction.others c ne);
    reads = λ readable.
        begins.reads readable
        ∙ (ap (λ (us : List Undo). storage.undone us s.reads) (sym no_undo)
        ∙ ap (λ (i : ℕ). storage.undone (drop i (s.transaction client).undo) s.reads) (sym (stored.first fine client)));
    log_own = ap (λ (v : OpenView). v.log) own;
    log_others = λ c ne. ap (λ (v : OpenView). v.log) (same c ne);
  }

  none_touched : {W : Type 0} → (k : ℕ) → has (touched_in now client) k ≡ true → W
  none_touched k e = clash (has (touched_in now client) k) e (ap (λ (v : OpenView). has v.touched k) own)

  none_changed : {W : Type 0} → (k : ℕ) → has_change (changes_of (log_in now client)) k ≡ true → W
  none_changed k e = clash (has_change (changes_of (log_in now client)) k) e (ap (λ (v : OpenView). has_change (changes_of v.log) k) own)

  pub begun_stored : IsStored schema t (log_in now) (touched_in now)
  begun_stored = returned_stored schema s t was now client 0 places free clients failed sound left_places left_free left_clients left_failed still_sound stored fine still_fine began begins.transaction.others same
      (λ e. clash (t.transaction client).begun begins.transaction.begun e) (λ k e. none_touched k e) (λ k e. none_changed k e) (λ k e. none_touched k e)

  pub begun_state : (reserved : Reserved) (sequences : List ℤ) → reserved client ≡ (λ key. false) → rows.Begins (state_of schema reserved sequences s was) (state_of schema reserved sequences t now) client
  begun_state reserved sequences none = record {
    base = base_same schema reserved reserved sequences s t was now begins.keeps still_fine;
    rows = rows_rest schema s t begins.keeps.observable still_fine begins.reads;
    transaction = record {
      others = λ c ne. ap (λ (x : Transaction). transaction_of x.begun (reserved c) (open_in now c)) (begins.transaction.others c ne) ∙ ap (transaction_of (s.transaction c).begun (reserved c)) (same c ne);
      own =
          ap (λ (b : Bool). transaction_of b (reserved client) (open_in now client)) begins.transaction.begun
          ∙ (ap (λ (f : Key → Bool). transaction_of true f (open_in now client)) none ∙ ap (transaction_of true (λ key. false)) own);
    };
  }
