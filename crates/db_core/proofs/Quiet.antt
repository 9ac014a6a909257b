-- Answers that change nothing but the caller's blocked request, and errors of the disk.
use Rattle.std.proofs.Common.{◌≡◌, ◌⊎◌, ℕ, ◌+◌, ◌==◌, ◌&&◌, Bool, true, false, cond, eq-eqb, List, Option, None, refl, sym, ap, ◌∙◌, subst, inl, inr}
use Rattle.std.specs.Prelude.{ℤ}
use Rattle.std.specs.FinMap.{get}
use Rattle.std.proofs.lemmas.Bool.{cases_eq, ne_eqb}
use Rattle.database_protocol.specs.declared.operation.Op.{Op}
use Rattle.database_protocol.specs.declared.operation.Op.TheVariants.{Next, Get, CurrentValue}
use Rattle.database_protocol.specs.declared.answer.Answer.{Answer}
use Rattle.database_protocol.specs.declared.answer.Answer.TheVariants.{Refused}
use Rattle.database_meaning.specs.declared.state.BlockedRequest.{BlockedRequest}
use Rattle.database_meaning.specs.Setting.{Setting}
use Rattle.database_meaning.specs.Steps.{after, blocked_after, committed_after, frees_some, is_success, own_after, row_of_answer, sequences_after}
use Rattle.database_meaning.specs.State.{State, Client, Rows as Committed}
use Rattle.record_locks.specs.declared.locks.Client.{Client as LockClient}
use Rattle.record_locks.specs.Table.{client_of, lock_of}
use Rattle.row_store.specs.Changes.{RowsById}
use Rattle.row_store.specs.Rows.{RowState, RowTransaction, IsObservable, Fails}
use Rattle.db_core.specs.declared.control.Control.{Control}
use Rattle.db_core.specs.Represents.{Represents, IsSound, IsOpen, IsClient, marks_at, blocked_at}
use Rattle.db_core.specs.Moves.{EndsWait, IsQuestion}
use Rattle.db_core.proofs.Clients.{client_as, all_clients}

-- a state with the same rows, sequences, clients and frees
pub represents_as : (f : Setting) (rows : RowState) (control : Control) (s t : State) → t.committed ≡ s.committed → t.sequences ≡ s.sequences → t.client ≡ s.client → t.frees ≡ s.frees → Represents f rows control s → Represents f rows control t
represents_as f rows control s t committed sequences client frees h = record {
  schema = h.schema;
  clients = h.clients;
  client = λ c. subst (λ (x : Client). IsClient rows (marks_at control c) (blocked_at control c) (client_of control.locks c) (rows.transaction c) x) (ap (λ (g : ℕ → Client). g c) (sym client)) (h.client c);
  apart = h.apart;
  committed = λ observable k. ap (λ (m : Committed). get m k) committed ∙ h.committed observable k;
  sequences = h.sequences ∙ sym sequences;
  frees = λ observable. h.frees observable ∙ sym frees;
}

-- ---- errors of the disk

never_observable : (new : RowState) → new.failed ≡ true → ¬ IsObservable new
never_observable new failed seen = let clash : true ≡ false = sym failed ∙ seen.1 in cc

pub stopped_represents : (f : Setting) (old new : RowState) (control : Control) (s : State) → Fails old new → Represents f old control s → Represents f new control s
stopped_represents f old new control s fails h =
    let never = never_observable new fails.failed in
    record {
      schema = h.schema ∙ sym fails.schema;
      clients = h.clients;
      client = λ c.
          let was = h.client c in
          subst (λ (t : RowTransaction). IsClient new (marks_at control c) (blocked_at control c) (client_of control.locks c) t (s.client c)) (ap (λ (g : ℕ → RowTransaction). g c) (sym fails.transaction))
          (record {
            held = was.held;
            waits = was.waits;
            blocked = λ observable. was.blocked (sym fails.observable ∙ observable);
            depth = was.depth;
            reserved = λ observable k. was.reserved (sym fails.observable ∙ observable) k;
            drawn = λ seen. absurd (never seen);
            written = λ seen. absurd (never seen);
            overlay = λ seen. absurd (never seen);
            copies = λ seen. absurd (never seen);
            locked = λ seen. absurd (never seen);
            there = λ seen. absurd (never seen);
          });
      apart = λ seen. absurd (never seen);
      committed = λ observable k. h.committed (sym fails.observable ∙ observable) k ∙ ap (λ (r : RowsById). r k) (sym (fails.committed (sym fails.observable ∙ observable)));
      sequences = h.sequences;
      frees = λ observable. h.frees (sym fails.observable ∙ observable);
    }

pub stopped_sound : (old new : RowState) (control : Control) → Fails old new → IsSound old control → IsSound new control
stopped_sound old new control fails h = record {
  client = λ c.
      subst (λ x. IsOpen x (marks_at control c) (blocked_at control c) (new.transaction c)) (sym fails.schema)
      (subst (λ (g : ℕ → RowTransaction). IsOpen old.schema (marks_at control c) (blocked_at control c) (g c)) (sym fails.transaction) (h.client c));
}

-- ---- a blocked request that ends

abbrev pub unblocked : State → ℕ → State
unblocked s c = record s { client = λ d. cond (d == c) (record (s.client c) { blocked = None }) (s.client d) }

module _ (rows : RowState) (control now : Control) (c : ℕ) (ends_wait : EndsWait control c now) where
  pub unblocked_sound : IsSound rows control → IsSound rows now
  unblocked_sound h = record {
    client = λ d. elim (cases_eq d c) [
      | inl is ↦
          subst (λ (e : ℕ). IsOpen rows.schema (marks_at now e) (blocked_at now e) (rows.transaction e)) (sym is)
          (subst (λ w. IsOpen rows.schema (marks_at now c) w (rows.transaction c)) (sym ends_wait.client.own_blocked)
          (subst (λ (m : List ℕ). IsOpen rows.schema m None (rows.transaction c)) (sym ends_wait.client.own_marks) (record { begun = (h.client c).begun; marks = (h.client c).marks; fits = tt })))
      | inr ne ↦
          subst (λ w. IsOpen rows.schema (marks_at now d) w (rows.transaction d)) (sym (ends_wait.client.blocked d ne))
          (subst (λ (m : List ℕ). IsOpen rows.schema m (blocked_at control d) (rows.transaction d)) (sym (ends_wait.client.marks d ne)) (h.client d))
    ];
  }

  same_lock : (d k : ℕ) → lock_of now.locks d k ≡ lock_of control.locks d k
  same_lock d k = elim (cases_eq d c) [
    | inl is ↦ subst (λ (e : ℕ). lock_of now.locks e k ≡ lock_of control.locks e k) (sym is) (ap (λ (l : LockClient). get l.held k) ends_wait.client.own_lock)
    | inr ne ↦ ap (λ (l : LockClient). get l.held k) (ends_wait.client.lock d ne)
  ]

  pub unblocked_represents : (f : Setting) (s : State) → Represents f rows control s → Represents f rows now (unblocked s c)
  unblocked_represents f s h =
      let was = h.client c in
      let own : Client = record (s.client c) { blocked = None } in
      record {
        schema = h.schema;
        clients = h.clients ∙ sym ends_wait.client.count;
        client =
            all_clients rows now s c own
            (client_as rows (marks_at control c) _ None _ (record { held = (client_of control.locks c).held; blocked = None }) _ (rows.transaction c) _ own ends_wait.client.own_marks ends_wait.client.own_blocked ends_wait.client.own_lock refl
            (record {
              held = was.held;
              waits = refl;
              blocked = λ observable. refl;
              depth = was.depth;
              reserved = was.reserved;
              drawn = was.drawn;
              written = was.written;
              overlay = was.overlay;
              copies = was.copies;
              locked = was.locked;
              there = was.there;
            }))
            (λ d ne. client_as rows _ _ _ _ _ _ (rows.transaction d) _ (s.client d) (ends_wait.client.marks d ne) (ends_wait.client.blocked d ne) (ends_wait.client.lock d ne) refl (h.client d));
        apart = λ seen row a b ne e. same_lock b row ∙ h.apart seen row a b ne (sym (same_lock a row) ∙ e);
        committed = h.committed;
        sequences = ap (λ v. v.items) ends_wait.sequences ∙ h.sequences;
        frees = λ observable. ends_wait.frees ∙ h.frees observable;
      }

-- ---- answers that change nothing else

same_cond : {A : Type 0} (b : Bool) (x : A) → cond b x x ≡ x
same_cond true x = refl
same_cond false x = refl

and_none : (b : Bool) → (b && false) ≡ false
and_none true = refl
and_none false = refl

module _ (f : Setting) (rows : RowState) (control now : Control) (s : State) (c : ℕ) (op : Op) (a : Answer) (none : blocked_after s c op a ≡ None)
    (ends_wait : EndsWait control c now) (represents : Represents f rows control s) where
  refused_represents : is_success a ≡ false → Represents f rows now (after f s c op a)
  refused_represents e =
      represents_as f rows now (unblocked s c) (after f s c op a)
      (ap (λ (b : Bool). cond b (committed_after s c op) s.committed) e)
      (ap (λ (b : Bool). cond b (sequences_after f s op) s.sequences) e)
      (ap (λ (b : Bool). λ (d : ℕ). cond (d == c) (record (cond b (own_after f s c op (row_of_answer a)) (s.client c)) { blocked = blocked_after s c op a }) (s.client d)) e
      ∙ ap (λ (w : Option BlockedRequest). λ (d : ℕ). cond (d == c) (record (s.client c) { blocked = w }) (s.client d)) none)
      (ap (λ (b : Bool). cond (b && frees_some s c op) (s.frees + 1) s.frees) e)
      (unblocked_represents rows control now c ends_wait f s represents)

  asked_represents : committed_after s c op ≡ s.committed → sequences_after f s op ≡ s.sequences → ((fresh : ℕ) → own_after f s c op fresh ≡ s.client c) → frees_some s c op ≡ false
      → Represents f rows now (after f s c op a)
  asked_represents committed sequences own frees =
      represents_as f rows now (unblocked s c) (after f s c op a)
      (ap (λ (m : Committed). cond (is_success a) m s.committed) committed ∙ same_cond (is_success a) s.committed)
      (ap (λ (v : List ℤ). cond (is_success a) v s.sequences) sequences ∙ same_cond (is_success a) s.sequences)
      (ap (λ (x : Client). λ (d : ℕ). cond (d == c) (record x { blocked = blocked_after s c op a }) (s.client d)) (ap (λ (x : Client). cond (is_success a) x (s.client c)) (own (row_of_answer a)) ∙ same_cond (is_success a) (s.client c))
      ∙ ap (λ (w : Option BlockedRequest). λ (d : ℕ). cond (d == c) (record (s.client c) { blocked = w }) (s.client d)) none)
      (ap (λ (b : Bool). cond b (s.frees + 1) s.frees) (ap (λ (b : Bool). is_success a && b) frees ∙ and_none (is_success a)))
      (unblocked_represents rows control now c ends_wait f s represents)

pub quiet_represents : (f : Setting) (rows : RowState) (control now : Control) (s : State) (c : ℕ) (op : Op) (a : Answer) → blocked_after s c op a ≡ None → (is_success a ≡ false) ⊎ IsQuestion op
    → EndsWait control c now → Represents f rows control s → Represents f rows now (after f s c op a)
quiet_represents f rows control now s c op a none (inl e) ends represents = refused_represents f rows control now s c op a none ends represents e
quiet_represents f rows control now s c (Next table index prefix cursor forward) a none (inr e) ends represents = asked_represents f rows control now s c (Next table index prefix cursor forward) a none ends represents refl refl (λ fresh. refl) refl
quiet_represents f rows control now s c (Get table row) a none (inr e) ends represents = asked_represents f rows control now s c (Get table row) a none ends represents refl refl (λ fresh. refl) refl
quiet_represents f rows control now s c (CurrentValue sequence) a none (inr e) ends represents = asked_represents f rows control now s c (CurrentValue sequence) a none ends represents refl refl (λ fresh. refl) refl
quiet_represents f rows control now s c _ a none (inr e) ends represents = absurd e

-- after Refused the client's blocked request stays too
pub refusal_represents : (f : Setting) (rows : RowState) (control : Control) (s : State) (c : ℕ) (op : Op) → Represents f rows control s → Represents f rows control (after f s c op Refused)
refusal_represents f rows control s c op h = represents_as f rows control s (after f s c op Refused) refl refl clients refl h
  where
    clients : (after f s c op Refused).client ≡ s.client
    clients = λ i d. at d i
      where
        at : (d : ℕ) → cond (d == c) (s.client c) (s.client d) ≡ s.client d
        at d = elim (cases_eq d c) [
          | inl is ↦ ap (λ (b : Bool). cond b (s.client c) (s.client d)) (eq-eqb d c is) ∙ ap s.client (sym is)
          | inr ne ↦ ap (λ (b : Bool). cond b (s.client c) (s.client d)) (ne_eqb d c ne)
        ]
