-- A Lock that is granted, and one that waits.
use Rattle.std.proofs.Common.{◌≡◌, ◌≢◌, ◌⊎◌, ℕ, Bool, true, false, List, Option, Some, None, refl, sym, ap, ◌∙◌, subst, inl, inr}
use Rattle.std.specs.Prelude.{IsTrue}
use Rattle.std.specs.FinMap.{get, insert}
use Rattle.std.proofs.lemmas.Bool.{cases_eq}
use Rattle.abl_base.specs.declared.row.RowId.{RowId}
use Rattle.database_meaning.specs.declared.state.BlockedRequest.{BlockedRequest}
use Rattle.database_protocol.specs.declared.operation.Op.{Op}
use Rattle.database_protocol.specs.declared.operation.Op.TheVariants.{Lock}
use Rattle.database_protocol.specs.declared.answer.Answer.TheVariants.{Granted, Blocked}
use Rattle.database_meaning.specs.Setting.{Setting}
use Rattle.database_meaning.specs.State.{State, Client, Held}
use Rattle.database_meaning.specs.Steps.{after, or_exclusive}
use Rattle.database_meaning.proofs.Maps.{get_insert_same, get_insert_other}
use Rattle.record_locks.specs.declared.locks.BlockedLock.{BlockedLock}
use Rattle.record_locks.specs.declared.locks.Client.{Client as LockClient}
use Rattle.record_locks.specs.Table.{client_of, lock_of}
use Rattle.record_locks.specs.Requests.{HasConflict, granted}
use Rattle.record_locks.proofs.Apart.{granted_apart}
use Rattle.row_store.specs.Rows.{RowState, IsObservable}
use Rattle.db_core.specs.declared.control.Control.{Control}
use Rattle.db_core.specs.Represents.{Represents, FitsOp, IsClient, IsSound, lock_asked, marks_at}
use Rattle.db_core.specs.Moves.{Grants, Waits}
use Rattle.db_core.proofs.Clients.{client_as, all_clients}
use Rattle.db_core.proofs.Sound.{sound_more, open_as}

granted_is : (o : Option Bool) (exclusive : Bool) → granted o exclusive ≡ or_exclusive o exclusive
granted_is None exclusive = refl
granted_is (Some true) exclusive = refl
granted_is (Some false) exclusive = refl

still_true : (o : Option Bool) (exclusive : Bool) → o ≡ Some true → granted o exclusive ≡ true
still_true None exclusive e = cc
still_true (Some true) exclusive e = refl
still_true (Some false) exclusive e = cc

module _ (f : Setting) (rows : RowState) (control now : Control) (s : State) (c table : ℕ) (row : RowId) (exclusive : Bool) (represents : Represents f rows control s) where
  module _ (wait : Bool) (grants : Grants control c row.0 exclusive now) (free : ¬ HasConflict control.locks c row.0 exclusive) (there_so : IsObservable rows → rows.rows row.0 ≢ None) where
    abbrev lock : Bool
    lock = granted (lock_of control.locks c row.0) exclusive

    abbrev own : Client
    own = record (s.client c) { held = insert (s.client c).held row.0 (or_exclusive (get (s.client c).held row.0) exclusive); blocked = None }

    held_is : insert (client_of control.locks c).held row.0 lock ≡ own.held
    held_is =
        ap (λ (m : Held). insert m row.0 (granted (get m row.0) exclusive)) (represents.client c).held
        ∙ ap (λ (b : Bool). insert (s.client c).held row.0 b) (granted_is (get (s.client c).held row.0) exclusive)

    own_client : IsClient rows (marks_at control c) None (record { held = insert (client_of control.locks c).held row.0 lock; blocked = None }) (rows.transaction c) own
    own_client =
        let h = represents.client c in
        record {
          held = held_is;
          waits = refl;
          blocked = λ observable. refl;
          depth = h.depth;
          reserved = h.reserved;
          drawn = h.drawn;
          written = h.written;
          overlay = h.overlay;
          copies = h.copies;
          locked = λ seen k touched. locked_at seen k touched (cases_eq k row.0);
          there = λ seen k b held none. there_at seen k b held none (cases_eq k row.0);
        }
      where
        locked_at : IsObservable rows → (k : ℕ) → IsTrue ((rows.transaction c).touched k) → (k ≡ row.0) ⊎ (k ≢ row.0) → get own.held k ≡ Some true
        locked_at seen k touched (inl is) =
            let before : get (s.client c).held row.0 ≡ Some true = ap (get (s.client c).held) (sym is) ∙ (represents.client c).locked seen k touched in
            ap (get own.held) is
            ∙ (get_insert_same (s.client c).held row.0 (or_exclusive (get (s.client c).held row.0) exclusive)
            ∙ ap Some (sym (granted_is (get (s.client c).held row.0) exclusive) ∙ still_true (get (s.client c).held row.0) exclusive before))
        locked_at seen k touched (inr ne) = get_insert_other (s.client c).held row.0 (or_exclusive (get (s.client c).held row.0) exclusive) k ne ∙ (represents.client c).locked seen k touched

        there_at : IsObservable rows → (k : ℕ) (b : Bool) → get own.held k ≡ Some b → rows.rows k ≡ None → (k ≡ row.0) ⊎ (k ≢ row.0) → IsTrue ((rows.transaction c).touched k)
        there_at seen k b held none (inl is) = absurd (there_so seen (ap rows.rows (sym is) ∙ none))
        there_at seen k b held none (inr ne) =
            (represents.client c).there seen k b (sym (get_insert_other (s.client c).held row.0 (or_exclusive (get (s.client c).held row.0) exclusive) k ne) ∙ held) none

    pub granted_represents : Represents f rows now (after f s c (Lock table row exclusive wait) Granted)
    granted_represents = record {
      schema = represents.schema;
      clients = represents.clients ∙ sym grants.client.count;
      client = all_clients rows now s c own
          (client_as rows _ _ _ _ _ _ (rows.transaction c) _ own grants.client.own_marks grants.client.own_blocked grants.client.own_lock refl own_client)
          (λ d ne. client_as rows _ _ _ _ _ _ (rows.transaction d) _ (s.client d) (grants.client.marks d ne) (grants.client.blocked d ne) (grants.client.lock d ne) refl (represents.client d));
      apart = λ seen. granted_apart control.locks now.locks c row.0 exclusive (represents.apart seen) free (record { changed = grants.client.own_lock; others = grants.client.lock });
      committed = represents.committed;
      sequences = ap (λ v. v.items) grants.sequences ∙ represents.sequences;
      frees = λ observable. grants.frees ∙ represents.frees observable;
    }

-- a client that waits
module _ (f : Setting) (rows : RowState) (control now : Control) (s : State) (c : ℕ) (op : Op) (lock_request : Option BlockedLock) (asked : lock_asked op ≡ lock_request)
    (represents : Represents f rows control s) (waits : Waits control c (record { op = op; frees = control.frees }) lock_request now) where
  abbrev waiting : Client
  waiting = record (s.client c) { blocked = Some (record { op = op; frees = s.frees }) }

  waiting_client : IsClient rows (marks_at control c) (Some (record { op = op; frees = control.frees })) (record { held = (client_of control.locks c).held; blocked = lock_request }) (rows.transaction c) waiting
  waiting_client =
      let h = represents.client c in
      record {
        held = h.held;
        waits = sym asked;
        blocked = λ observable. ap (λ (n : ℕ). let w : BlockedRequest = record { op = op; frees = n } in Some w) (represents.frees observable);
        depth = h.depth;
        reserved = h.reserved;
        drawn = h.drawn;
        written = h.written;
        overlay = h.overlay;
        copies = h.copies;
        locked = h.locked;
        there = h.there;
      }

  same_lock : (d k : ℕ) → lock_of now.locks d k ≡ lock_of control.locks d k
  same_lock d k = elim (cases_eq d c) [
    | inl is ↦ subst (λ (e : ℕ). lock_of now.locks e k ≡ lock_of control.locks e k) (sym is) (ap (λ (l : LockClient). get l.held k) waits.own_lock)
    | inr ne ↦ ap (λ (l : LockClient). get l.held k) (waits.lock d ne)
  ]

  pub waiting_represents : (holders : List ℕ) → Represents f rows now (after f s c op (Blocked holders))
  waiting_represents holders = record {
    schema = represents.schema;
    clients = represents.clients ∙ sym waits.count;
    client = all_clients rows now s c waiting
        (client_as rows _ _ _ _ _ _ (rows.transaction c) _ waiting waits.own_marks waits.own_blocked waits.own_lock refl waiting_client)
        (λ d ne. client_as rows _ _ _ _ _ _ (rows.transaction d) _ (s.client d) (waits.marks d ne) (waits.blocked d ne) (waits.lock d ne) refl (represents.client d));
    apart = λ seen q a b ne e. same_lock b q ∙ represents.apart seen q a b ne (sym (same_lock a q) ∙ e);
    committed = represents.committed;
    sequences = ap (λ v. v.items) waits.sequences ∙ represents.sequences;
    frees = λ observable. waits.frees ∙ represents.frees observable;
  }

pub waiting_sound : (rows : RowState) (control now : Control) (c : ℕ) (op : Op) (lock_request : Option BlockedLock) → Waits control c (record { op = op; frees = control.frees }) lock_request now
    → FitsOp rows.schema op → IsSound rows control → IsSound rows now
waiting_sound rows control now c op lock_request waits fits sound =
    sound_more rows rows control now c (record { schema = refl; transaction = λ d ne. refl; marks = waits.marks; blocked = waits.blocked })
    (open_as rows rows now c (marks_at control c) (Some (record { op = op; frees = control.frees })) _ refl waits.own_marks waits.own_blocked refl
    (record { begun = (sound.client c).begun; marks = (sound.client c).marks; fits = fits }))
    sound
