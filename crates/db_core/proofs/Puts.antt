-- Putting other values at a row, and deleting it.
use Rattle.std.proofs.Common.{◌≡◌, ◌≢◌, ◌⊎◌, ℕ, ◌+◌, ◌-◌, ◌==◌, ◌||◌, max, Bool, true, false, cond, eq-eqb, List, [], ◌∷◌, ◌++◌, Option, Some, None, refl, sym, ap, ◌∙◌, subst, inl, inr, arith}
use Rattle.std.specs.Prelude.{IsTrue}
use Rattle.std.specs.FinMap.{get, insert}
use Rattle.std.proofs.lemmas.Bool.{cases_eq, ne_eqb}
use Rattle.abl_base.specs.declared.row.RowId.{RowId}
use Rattle.abl_base.specs.declared.value.Value.{Value}
use Rattle.database_meaning.specs.declared.state.StoredRow.{StoredRow}
use Rattle.database_protocol.specs.declared.operation.Op.TheVariants.{Put, Delete}
use Rattle.database_protocol.specs.declared.answer.Answer.TheVariants.{Done}
use Rattle.database_meaning.specs.Setting.{Setting, fragments}
use Rattle.database_meaning.specs.State.{State, Client, Held, view}
use Rattle.database_meaning.specs.Waiting.{row_in}
use Rattle.database_meaning.specs.Steps.{after, reserving}
use Rattle.record_locks.specs.declared.locks.Client.{Client as LockClient}
use Rattle.record_locks.specs.Table.{client_of, lock_of}
use Rattle.row_store.specs.Changes.{RowsById, change_at, IsOverlay, AreCopies}
use Rattle.row_store.specs.Rows.{RowState, RowTransaction, IsObservable, IsConsistent, ChangesRow, with_change, is_moved}
use Rattle.row_store.proofs.Copies.{overlay_more, copies_more, with_row_other}
use Rattle.db_core.specs.declared.control.Control.{Control}
use Rattle.db_core.specs.Represents.{Represents, IsSound, IsClient, marks_at}
use Rattle.db_core.specs.Moves.{EndsWait}
use Rattle.db_core.proofs.Clients.{client_stays, client_as, still_observable, all_clients}
use Rattle.db_core.proofs.Inserts.{reserves_more}
use Rattle.db_core.proofs.Quiet.{represents_as}
use Rattle.db_core.proofs.Views.{rows_viewed}

or_true : (a b : Bool) → IsTrue (a || b) → IsTrue a ⊎ IsTrue b
or_true true b h = inl refl
or_true false b h = inr h

true_or : (a b : Bool) → IsTrue b → IsTrue (a || b)
true_or true b h = refl
true_or false b h = h

or_left_true : (a b : Bool) → IsTrue a → IsTrue (a || b)
or_left_true true b h = refl
or_left_true false b h = cc

module _ (rows new : RowState) (control now : Control) (c : ℕ) (row : RowId) (value : Option StoredRow)
    (sound : IsSound rows control) (settled : IsConsistent rows) (fine : rows.failed ≡ false) (changes : ChangesRow rows new c row.0 value) (ends_wait : EndsWait control c now) where
  was : IsObservable new → IsObservable rows
  was = still_observable rows new changes.base.observable changes.base.failed

  row_stays : IsObservable rows → (k : ℕ) → k ≢ row.0 → new.rows k ≡ rows.rows k
  row_stays seen k ne = ap (λ (r : RowsById). r k) (changes.rows seen) ∙ with_row_other rows.rows row.0 value k ne

  module _ (f : Setting) (s : State) (represents : Represents f rows control s) (holds : get (s.client c).held row.0 ≡ Some true) (drawn_now written_now : ℕ)
      (drawn_is : drawn_now ≡ (s.client c).drawn + (fragments value - fragments (view f s row.0))) (written_is : written_now ≡ (s.client c).written + max (fragments value) (fragments (view f s row.0))) where
    abbrev t : RowTransaction
    t = rows.transaction c

    before_view : IsObservable rows → changes.before ≡ view f s row.0
    before_view seen = changes.before_is seen ∙ rows_viewed f rows control s represents sound settled seen row.0

    abbrev own : Client
    own =
        record (s.client c) {
          overlay = insert (s.client c).overlay row.0 value;
          reserved_keys = reserving f (view f s row.0) value (s.client c).reserved_keys;
          drawn = drawn_now;
          written = written_now;
          blocked = None;
        }

    own_client : IsClient new (marks_at control c) None (record { held = (client_of control.locks c).held; blocked = None }) (with_change rows.schema t row.0 changes.before value) own
    own_client =
        let h = represents.client c in
        let m = (sound.client c).marks in
        record {
          held = h.held;
          waits = refl;
          blocked = λ observable. refl;
          depth = h.depth;
          reserved = λ observable k.
              let seen : IsObservable rows = (sym changes.base.observable ∙ observable, fine) in
              ap (λ (o : Option StoredRow). is_moved rows.schema o value k || t.reserved k) (before_view seen)
              ∙ reserves_more f rows.schema (view f s row.0) value (s.client c).reserved_keys k (t.reserved k) represents.schema (h.reserved seen.0 k);
          drawn = λ seen. drawn_so (was seen) h.drawn;
          written = λ seen. written_so (was seen) h.written;
          overlay = λ seen.
              subst (λ (r : RowsById). IsOverlay own.overlay (change_at r (t.changes ++ record { row = row.0; old = changes.before } ∷ []))) (sym (changes.rows (was seen)))
              (overlay_more rows.rows t.changes row.0 changes.before value (s.client c).overlay (h.overlay (was seen)));
          copies = λ seen.
              subst (λ (r : RowsById). AreCopies r (t.changes ++ record { row = row.0; old = changes.before } ∷ []) (marks_at control c) (s.client c).levels) (sym (changes.rows (was seen)))
              (copies_more rows.rows t.changes row.0 changes.before value 0 (marks_at control c) (s.client c).levels (changes.before_is (was seen)) m (h.copies (was seen)));
          locked = λ seen k there. locked_at (was seen) k (or_true (k == row.0) (t.touched k) there);
          there = λ seen k b held none. there_at (was seen) k b held none (cases_eq k row.0);
        }
      where
        drawn_so : IsObservable rows → (IsObservable rows → t.drawn ≡ (s.client c).drawn) → t.drawn + (fragments value - fragments changes.before) ≡ drawn_now
        drawn_so seen h = ap (λ (n : ℕ). n + (fragments value - fragments changes.before)) (h seen) ∙ (ap (λ (o : Option StoredRow). (s.client c).drawn + (fragments value - fragments o)) (before_view seen) ∙ sym drawn_is)

        written_so : IsObservable rows → (IsObservable rows → t.written ≡ (s.client c).written) → t.written + max (fragments value) (fragments changes.before) ≡ written_now
        written_so seen h =
            ap (λ (n : ℕ). n + max (fragments value) (fragments changes.before)) (h seen) ∙ (ap (λ (o : Option StoredRow). (s.client c).written + max (fragments value) (fragments o)) (before_view seen) ∙ sym written_is)

        locked_at : IsObservable rows → (k : ℕ) → IsTrue (k == row.0) ⊎ IsTrue (t.touched k) → get (s.client c).held k ≡ Some true
        locked_at seen k (inr touched) = (represents.client c).locked seen k touched
        locked_at seen k (inl same) = elim (cases_eq k row.0) [
          | inl is ↦ ap (get (s.client c).held) is ∙ holds
          | inr ne ↦ let apart : (k == row.0) ≡ false = ne_eqb k row.0 ne in let clash : true ≡ false = sym same ∙ apart in cc
        ]

        there_at : IsObservable rows → (k : ℕ) (b : Bool) → get (s.client c).held k ≡ Some b → new.rows k ≡ None → (k ≡ row.0) ⊎ (k ≢ row.0) → IsTrue ((k == row.0) || t.touched k)
        there_at seen k b held none (inl is) = or_left_true (k == row.0) (t.touched k) (eq-eqb k row.0 is)
        there_at seen k b held none (inr ne) = true_or (k == row.0) (t.touched k) ((represents.client c).there seen k b held (sym (row_stays seen k ne) ∙ none))

    -- another client does not hold the row
    not_theirs : IsObservable rows → (d : ℕ) → d ≢ c → (k : ℕ) (b : Bool) → get (s.client d).held k ≡ Some b → k ≢ row.0
    not_theirs seen d ne k b held is =
        let mine : lock_of control.locks c row.0 ≡ Some true = ap (λ (m : Held). get m row.0) (represents.client c).held ∙ holds in
        let none : lock_of control.locks d row.0 ≡ None = represents.apart seen row.0 c d (λ e. ne (sym e)) mine in
        let theirs : lock_of control.locks d row.0 ≡ Some b = ap (λ (m : Held). get m row.0) (represents.client d).held ∙ (ap (get (s.client d).held) (sym is) ∙ held) in
        cc

    same_lock : (d k : ℕ) → lock_of now.locks d k ≡ lock_of control.locks d k
    same_lock d k = elim (cases_eq d c) [
      | inl is ↦ subst (λ (e : ℕ). lock_of now.locks e k ≡ lock_of control.locks e k) (sym is) (ap (λ (l : LockClient). get l.held k) ends_wait.client.own_lock)
      | inr ne ↦ ap (λ (l : LockClient). get l.held k) (ends_wait.client.lock d ne)
    ]

    pub change_represents : Represents f new now (record s { client = λ d. cond (d == c) own (s.client d) })
    change_represents = record {
      schema = represents.schema ∙ sym changes.base.schema;
      clients = represents.clients ∙ sym ends_wait.client.count;
      client = all_clients new now s c own (client_as new _ _ _ _ _ _ _ _ own ends_wait.client.own_marks ends_wait.client.own_blocked ends_wait.client.own_lock changes.transaction.own own_client)
          (λ d ne. client_as new _ _ _ _ _ _ _ _ (s.client d) (ends_wait.client.marks d ne) (ends_wait.client.blocked d ne) (ends_wait.client.lock d ne) (changes.transaction.others d ne)
          (client_stays rows new _ _ _ _ (s.client d) changes.base.observable changes.base.failed (settled.touched d)
          (λ seen k b held. row_stays seen k (not_theirs seen d ne k b held)) (represents.client d)));
      apart = λ seen q a b ne e. same_lock b q ∙ represents.apart (was seen) q a b ne (sym (same_lock a q) ∙ e);
      committed = λ observable k. represents.committed (sym changes.base.observable ∙ observable) k ∙ ap (λ (r : RowsById). r k) (sym changes.base.committed);
      sequences = ap (λ v. v.items) ends_wait.sequences ∙ represents.sequences;
      frees = λ observable. ends_wait.frees ∙ represents.frees (sym changes.base.observable ∙ observable);
    }

module _ (rows new : RowState) (control now : Control) (c table : ℕ) (row : RowId)
    (sound : IsSound rows control) (settled : IsConsistent rows) (fine : rows.failed ≡ false) (ends_wait : EndsWait control c now) (f : Setting) (s : State) (represents : Represents f rows control s) (holds : get (s.client c).held row.0 ≡ Some true) where
  pub put_represents : (values : List Value) → ChangesRow rows new c row.0 (row_in table values) → Represents f new now (after f s c (Put table row values) Done)
  put_represents values changes =
      represents_as f new now _ (after f s c (Put table row values) Done) refl refl refl refl
      (change_represents rows new control now c row (row_in table values) sound settled fine changes ends_wait f s represents holds _ _ refl refl)

  pub delete_represents : ChangesRow rows new c row.0 None → Represents f new now (after f s c (Delete table row) Done)
  delete_represents changes =
      represents_as f new now _ (after f s c (Delete table row) Done) refl refl refl refl
      (change_represents rows new control now c row None sound settled fine changes ends_wait f s represents holds (s.client c).drawn ((s.client c).written + fragments (view f s row.0)) (omega arith) (omega arith))
