-- A client that went back or gave up, said of the state of a store.
use Rattle.std.proofs.Common.{◌≡◌, ◌≢◌, inl, inr, ℕ, ◌&&◌, not, Bool, true, false, List, [], length, take, drop, ℤ, sym, ap, ◌∙◌, subst}
use Rattle.std.proofs.Math.Path.{fun_ext}
use Rattle.std.proofs.lemmas.Bool.{cases_eq}
use Rattle.storage.specs.Slots.{SlotState, Transaction, IsReadable, KeepsCommitted, Ends, GoesBack, wrote}
use Rattle.storage.specs.Slots as storage
use Rattle.abl_values.specs.Schema.{SchemaData}
use Rattle.database_meaning.specs.declared.state.Key.{Key}
use Rattle.row_fragments.proofs.Composes.{readable_on}
use Rattle.byte_rows.specs.declared.places.Place.{Place as SlotPlace}
use Rattle.byte_rows.specs.declared.client.Client.{Client}
use Rattle.byte_rows.specs.Noted.{IsSound}
use Rattle.row_store.specs.declared.store.RowChange.{RowChange}
use Rattle.row_store.specs.Changes.{has_change, undone}
use Rattle.row_store.specs.Rows.{Abandons, no_transaction}
use Rattle.row_store.specs.Rows as rows
use Rattle.slot_rows.specs.declared.open.Open.{Open}
use Rattle.slot_rows.specs.Decoded.{decoded}
use Rattle.slot_rows.specs.Mixes.{slots_of}
use Rattle.slot_rows.specs.Opens.{OpenView, log_in, no_open, open_in, touched_in}
use Rattle.slot_rows.specs.State.{Reserved, rows_if, state_of, transaction_of}
use Rattle.slot_rows.specs.Stored.{IsStored, changes_of, has, mark_or}
use Rattle.slot_rows.proofs.Added.{back_low, stored_back}
use Rattle.slot_rows.proofs.Changed.{base_same, rows_known, sound_apart}
use Rattle.slot_rows.proofs.Histories.{IsApart, clash, not_true}
use Rattle.slot_rows.proofs.Keeps.{WentBack, rows_back, slots_apart}
use Rattle.slot_rows.proofs.Lists.{changed_take}
use Rattle.slot_rows.proofs.Marks.{changes_take}

module _ (schema : SchemaData) (s t : SlotState) (was now : List Open) (client n : ℕ)
    (places : List SlotPlace) (free : ℕ → ℕ) (clients : List Client) (failed : Bool) (sound : IsSound s places free clients failed)
    (left_places : List SlotPlace) (left_free : ℕ → ℕ) (left_clients : List Client) (left_failed : Bool) (still_sound : IsSound t left_places left_free left_clients left_failed)
    (stored : IsStored schema s (log_in was) (touched_in was)) (fine : s.failed ≡ false) (still_fine : t.failed ≡ s.failed)
    (back : WentBack s t (log_in was) (log_in now) client n)
    (others : (c : ℕ) → c ≢ client → t.transaction c ≡ s.transaction c) (same : (c : ℕ) → c ≢ client → open_in now c ≡ open_in was c)
    (own_idle : (t.transaction client).begun ≡ false → (log_in now client ≡ []) × (touched_in now client ≡ []))
    (own_written : (k : ℕ) → has (touched_in now client) k ≡ true → (t.transaction client).written k ≡ true)
    (own_kept : (k : ℕ) → has_change (changes_of (log_in now client)) k ≡ true → has (touched_in now client) k ≡ true)
    (own_fewer : (k : ℕ) → has (touched_in now client) k ≡ true → has (touched_in was client) k ≡ true) where
  idle : (c : ℕ) → (t.transaction c).begun ≡ false → (log_in now c ≡ []) × (touched_in now c ≡ [])
  idle c e = elim (cases_eq c client) [
    | inl is ↦ subst (λ (d : ℕ). (log_in now d ≡ []) × (touched_in now d ≡ [])) (sym is) (own_idle (sym (ap (λ (d : ℕ). (t.transaction d).begun) is) ∙ e))
    | inr ne ↦ subst (λ (v : OpenView). (v.log ≡ []) × (v.touched ≡ [])) (sym (same c ne)) (stored.idle c (sym (ap (λ (x : Transaction). x.begun) (others c ne)) ∙ e))
  ]

  written : (c k : ℕ) → has (touched_in now c) k ≡ true → (t.transaction c).written k ≡ true
  written c k e = elim (cases_eq c client) [
    | inl is ↦ ap (λ (d : ℕ). (t.transaction d).written k) is ∙ own_written k (sym (ap (λ (d : ℕ). has (touched_in now d) k) is) ∙ e)
    | inr ne ↦ ap (λ (x : Transaction). x.written k) (others c ne) ∙ stored.written fine c k (sym (ap (λ (v : OpenView). has v.touched k) (same c ne)) ∙ e)
  ]

  kept : (c k : ℕ) → has_change (changes_of (log_in now c)) k ≡ true → has (touched_in now c) k ≡ true
  kept c k e = elim (cases_eq c client) [
    | inl is ↦ ap (λ (d : ℕ). has (touched_in now d) k) is ∙ own_kept k (sym (ap (λ (d : ℕ). has_change (changes_of (log_in now d)) k) is) ∙ e)
    | inr ne ↦ ap (λ (v : OpenView). has v.touched k) (same c ne) ∙ stored.kept c k (sym (ap (λ (v : OpenView). has_change (changes_of v.log) k) (same c ne)) ∙ e)
  ]

  fewer : (c k : ℕ) → has (touched_in now c) k ≡ true → has (touched_in was c) k ≡ true
  fewer c k e = elim (cases_eq c client) [
    | inl is ↦ ap (λ (d : ℕ). has (touched_in was d) k) is ∙ own_fewer k (sym (ap (λ (d : ℕ). has (touched_in now d) k) is) ∙ e)
    | inr ne ↦ sym (ap (λ (v : OpenView). has v.touched k) (same c ne)) ∙ e
  ]

  apart_s : IsApart (slots_of s)
  apart_s = sound_apart schema s places free clients failed (log_in was) (touched_in was) sound fine stored

  apart_t : IsApart (slots_of t)
  apart_t = slots_apart t left_places (still_sound.noted (still_fine ∙ fine)).kept still_sound.past
      (back_low schema s t (log_in was) (log_in now) (touched_in was) (touched_in now) client n stored back fine idle written kept fewer)

  pub returned_stored : IsStored schema t (log_in now) (touched_in now)
  returned_stored = stored_back schema s t (log_in was) (log_in now) (touched_in was) (touched_in now) client n stored back fine idle written kept fewer sound.past still_sound.past apart_s apart_t

  pub returned_rows : IsReadable s → rows_if (t.observable && not t.failed) (decoded schema t.reads) ≡ undone (drop n (changes_of (log_in was client))) (rows_if (s.observable && not s.failed) (decoded schema s.reads))
  returned_rows readable =
      rows_known t (decoded schema t.reads) (readable_on s t back.observable still_fine readable)
      ∙ (fun_ext (rows_back schema s t (log_in was) (log_in now) (touched_in was) client n stored back sound.past apart_s apart_t readable)
      ∙ ap (undone (drop n (changes_of (log_in was client)))) (sym (rows_known s (decoded schema s.reads) readable)))

-- ---- back to a mark

abbrev rows_transaction : Bool → List RowChange → (ℕ → Bool) → (Key → Bool) → ℕ → ℕ → rows.RowTransaction
rows_transaction begun changes touched reserved drawn written = record { begun = begun; changes = changes; touched = touched; reserved = reserved; drawn = drawn; written = written }

module _ (schema : SchemaData) (s t : SlotState) (was now : List Open) (client n : ℕ)
    (places : List SlotPlace) (free : ℕ → ℕ) (clients : List Client) (failed : Bool) (sound : IsSound s places free clients failed)
    (left_places : List SlotPlace) (left_free : ℕ → ℕ) (left_clients : List Client) (left_failed : Bool) (still_sound : IsSound t left_places left_free left_clients left_failed)
    (stored : IsStored schema s (log_in was) (touched_in was)) (fine : s.failed ≡ false) (still_fine : t.failed ≡ s.failed) (begun : (s.transaction client).begun ≡ true)
    (went : GoesBack s t client (mark_or (log_in was client) n (length (s.transaction client).undo)))
    (own : open_in now client ≡ record { log = take n (log_in was client); touched = touched_in was client; drawn = (open_in was client).drawn; written = (open_in was client).written })
    (same : (c : ℕ) → c ≢ client → open_in now c ≡ open_in was c) where
  went_back : WentBack s t (log_in was) (log_in now) client n
  went_back = record {
    observable = went.keeps.observable;
    failed = still_fine;
    committed = λ readable. went.keeps.committed readable.0;
    undo = went.transaction.undo;
    undo_others = λ c ne. ap (λ (x : Transaction). x.undo) (went.transaction.others c ne);
    reads = went.reads;
    log_own = ap (λ (v : OpenView). v.log) own;
    log_others = λ c ne. ap (λ (v : OpenView). v.log) (same c ne);
  }

  own_touched : touched_in now client ≡ touched_in was client
  own_touched = ap (λ (v : OpenView). v.touched) own

  own_changes : changes_of (log_in now client) ≡ take n (changes_of (log_in was client))
  own_changes = ap (λ (v : OpenView). changes_of v.log) own ∙ changes_take n (log_in was client)

  back_idle : (t.transaction client).begun ≡ false → (log_in now client ≡ []) × (touched_in now client ≡ [])
  back_idle e = clash (t.transaction client).begun went.transaction.begun e

  back_written : (k : ℕ) → has (touched_in now client) k ≡ true → (t.transaction client).written k ≡ true
  back_written k e = went.transaction.written k ∙ stored.written fine client k (sym (ap (λ (l : List ℕ). has l k) own_touched) ∙ e)

  back_kept : (k : ℕ) → has_change (changes_of (log_in now client)) k ≡ true → has (touched_in now client) k ≡ true
  back_kept k e = ap (λ (l : List ℕ). has l k) own_touched ∙ stored.kept client k (changed_take n (changes_of (log_in was client)) k (sym (ap (λ (cs : List RowChange). has_change cs k) own_changes) ∙ e))

  back_fewer : (k : ℕ) → has (touched_in now client) k ≡ true → has (touched_in was client) k ≡ true
  back_fewer k e = sym (ap (λ (l : List ℕ). has l k) own_touched) ∙ e

  pub back_stored : IsStored schema t (log_in now) (touched_in now)
  back_stored = returned_stored schema s t was now client n places free clients failed sound left_places left_free left_clients left_failed still_sound stored fine still_fine went_back went.transaction.others same back_idle back_written back_kept back_fewer

  pub back_state : (reserved : Reserved) (sequences : List ℤ) → rows.GoesBack (state_of schema reserved sequences s was) (state_of schema reserved sequences t now) client n
  back_state reserved sequences = record {
    base = base_same schema reserved reserved sequences s t was now went.keeps still_fine;
    rows = returned_rows schema s t was now client n places free clients failed sound left_places left_free left_clients left_failed still_sound stored fine still_fine went_back went.transaction.others same back_idle back_written back_kept back_fewer;
    transaction = record {
      others = λ c ne. ap (λ (x : Transaction). transaction_of x.begun (reserved c) (open_in now c)) (went.transaction.others c ne) ∙ ap (transaction_of (s.transaction c).begun (reserved c)) (same c ne);
      own =
          ap (λ (b : Bool). transaction_of b (reserved client) (open_in now client)) (went.transaction.begun ∙ sym begun)
          ∙ (ap (transaction_of (s.transaction client).begun (reserved client)) own
          ∙ ap (λ (cs : List RowChange). rows_transaction (s.transaction client).begun cs (has (touched_in was client)) (reserved client) (open_in was client).drawn (open_in was client).written) (changes_take n (log_in was client)));
    };
  }

-- ---- giving up

module _ (schema : SchemaData) (s t : SlotState) (was now : List Open) (client : ℕ)
    (places : List SlotPlace) (free : ℕ → ℕ) (clients : List Client) (failed : Bool) (sound : IsSound s places free clients failed)
    (left_places : List SlotPlace) (left_free : ℕ → ℕ) (left_clients : List Client) (left_failed : Bool) (still_sound : IsSound t left_places left_free left_clients left_failed)
    (stored : IsStored schema s (log_in was) (touched_in was)) (fine : s.failed ≡ false)
    (ended : Ends s t client) (own : open_in now client ≡ no_open) (same : (c : ℕ) → c ≢ client → open_in now c ≡ open_in was c) where
  first : mark_or (log_in was client) 0 (length (s.transaction client).undo) ≡ 0
  first = stored.first fine client

  gave_up : WentBack s t (log_in was) (log_in now) client 0
  gave_up = record {
    observable = ended.keeps.observable;
    failed = ended.failed;
    committed = λ readable. ended.keeps.committed readable.0;
    undo = ended.transaction.undo ∙ ap (λ (i : ℕ). take i (s.transaction client).undo) (sym first);
    undo_others = λ c ne. ap (λ (x : Transaction). x.undo) (ended.transaction.others c ne);
    reads = λ readable. ended.reads readable ∙ ap (λ (i : ℕ). storage.undone (drop i (s.transaction client).undo) s.reads) (sym first);
    log_own = ap (λ (v : OpenView). v.log) own;
    log_others = λ c ne. ap (λ (v : OpenView). v.log) (same c ne);
  }

  end_idle : (t.transaction client).begun ≡ false → (log_in now client ≡ []) × (touched_in now client ≡ [])
  end_idle e = (ap (λ (v : OpenView). v.log) own, ap (λ (v : OpenView). v.touched) own)

  none_touched : {W : Type 0} → (k : ℕ) → has (touched_in now client) k ≡ true → W
  none_touched k e = clash (has (touched_in now client) k) e (ap (λ (v : OpenView). has v.touched k) own)

  none_changed : {W : Type 0} → (k : ℕ) → has_change (changes_of (log_in now client)) k ≡ true → W
  none_changed k e = clash (has_change (changes_of (log_in now client)) k) e (ap (λ (v : OpenView). has_change (changes_of v.log) k) own)

  pub abandoned_stored : IsStored schema t (log_in now) (touched_in now)
  abandoned_stored = returned_stored schema s t was now client 0 places free clients failed sound left_places left_free left_clients left_failed still_sound stored fine ended.failed gave_up ended.transaction.others same end_idle
      (λ k e. none_touched k e) (λ k e. none_changed k e) (λ k e. none_touched k e)

  pub abandoned_rows : IsReadable s → rows_if (t.observable && not t.failed) (decoded schema t.reads) ≡ undone (changes_of (log_in was client)) (rows_if (s.observable && not s.failed) (decoded schema s.reads))
  abandoned_rows = returned_rows schema s t was now client 0 places free clients failed sound left_places left_free left_clients left_failed still_sound stored fine ended.failed gave_up ended.transaction.others same end_idle
      (λ k e. none_touched k e) (λ k e. none_changed k e) (λ k e. none_touched k e)

-- giving up, where a call has answered Disk too
module _ (schema : SchemaData) (s t : SlotState) (was now : List Open) (client : ℕ) (stored : IsStored schema s (log_in was) (touched_in was))
    (ended : Ends s t client) (own : open_in now client ≡ no_open) (same : (c : ℕ) → c ≢ client → open_in now c ≡ open_in was c) where
  pub abandoned_failed : s.failed ≡ true → IsStored schema t (log_in now) (touched_in now)
  abandoned_failed failed = record {
    marks = λ fine c. no fine;
    first = λ fine c. no fine;
    low = λ fine c k e. no fine;
    written = λ fine c k e. no fine;
    kept = λ c k e. elim (cases_eq c client) [
      | inl is ↦ clash (has_change (changes_of (log_in now c)) k) e (ap (λ (d : ℕ). has_change (changes_of (log_in now d)) k) is ∙ ap (λ (v : OpenView). has_change (changes_of v.log) k) own)
      | inr ne ↦ ap (λ (v : OpenView). has v.touched k) (same c ne) ∙ stored.kept c k (sym (ap (λ (v : OpenView). has_change (changes_of v.log) k) (same c ne)) ∙ e)
    ];
    apart = λ c d k ne e. not_true (has (touched_in now d) k) (λ is. clash (has (touched_in was d) k) (fewer d k is) (stored.apart c d k ne (fewer c k e)));
    idle = λ c e. elim (cases_eq c client) [
      | inl is ↦ subst (λ (d : ℕ). (log_in now d ≡ []) × (touched_in now d ≡ [])) (sym is) (ap (λ (v : OpenView). v.log) own, ap (λ (v : OpenView). v.touched) own)
      | inr ne ↦ subst (λ (v : OpenView). (v.log ≡ []) × (v.touched ≡ [])) (sym (same c ne)) (stored.idle c (sym (ap (λ (x : Transaction). x.begun) (ended.transaction.others c ne)) ∙ e))
    ];
    mixes = λ readable at mixed m. no readable.1;
    weighed = λ readable c. no readable.1;
    base = λ readable. no readable.1;
  }
    where
      no : {W : Type 0} → t.failed ≡ false → W
      no fine = clash t.failed (ended.failed ∙ failed) fine

      fewer : (c k : ℕ) → has (touched_in now c) k ≡ true → has (touched_in was c) k ≡ true
      fewer c k e = elim (cases_eq c client) [
        | inl is ↦ clash (has (touched_in now c) k) e (ap (λ (d : ℕ). has (touched_in now d) k) is ∙ ap (λ (v : OpenView). has v.touched k) own)
        | inr ne ↦ sym (ap (λ (v : OpenView). has v.touched k) (same c ne)) ∙ e
      ]

  pub abandoned_state : (IsReadable s → rows_if (t.observable && not t.failed) (decoded schema t.reads) ≡ undone (changes_of (log_in was client)) (rows_if (s.observable && not s.failed) (decoded schema s.reads)))
      → (before after : Reserved) (sequences : List ℤ) → after client ≡ (λ key. false) → ((c : ℕ) → c ≢ client → after c ≡ before c)
      → Abandons (state_of schema before sequences s was) (state_of schema after sequences t now) client
  abandoned_state present before after sequences none others = record {
    base = base_same schema before after sequences s t was now ended.keeps ended.failed;
    rows = present;
    transaction = record {
      others = λ c ne.
          ap (λ (x : Transaction). transaction_of x.begun (after c) (open_in now c)) (ended.transaction.others c ne)
          ∙ (ap (λ (f : Key → Bool). transaction_of (s.transaction c).begun f (open_in now c)) (others c ne) ∙ ap (transaction_of (s.transaction c).begun (before c)) (same c ne));
      own =
          ap (λ (b : Bool). transaction_of b (after client) (open_in now client)) ended.transaction.begun
          ∙ (ap (λ (f : Key → Bool). transaction_of false f (open_in now client)) none ∙ ap (transaction_of false (λ key. false)) own);
    };
  }
