-- A Drop, and a sequence that moves.
use Rattle.std.proofs.Common.{◌≡◌, ◌≢◌, ℕ, ◌+◌, ◌==◌, ◌&&◌, Bool, true, false, cond, List, [], ◌∷◌, length, Some, None, is_some, refl, sym, ap, ◌∙◌, subst, inl, inr, arith}
use Rattle.std.specs.Prelude.{IsTrue, ℤ, slice_set}
use Rattle.std.specs.Ordering.{nat_cmp, eq_by_cmp}
use Rattle.std.specs.Cmp.{nat_cmp_total}
use Rattle.std.specs.FinMap.{get, remove, contains_key, get-remove}
use Rattle.std.proofs.lemmas.Bool.{cases_eq, ne_eqb}
use Rattle.abl_base.specs.declared.row.RowId.{RowId}
use Rattle.database_protocol.specs.declared.operation.Op.TheVariants.{Drop as DropLock, NextValue}
use Rattle.database_protocol.specs.declared.answer.Answer.TheVariants.{Done, Value as ValueAnswer}
use Rattle.database_meaning.specs.Setting.{Setting}
use Rattle.database_meaning.specs.State.{State, Client, Held, depth_of}
use Rattle.database_meaning.specs.Answers.{next_value}
use Rattle.database_meaning.specs.Steps.{after, own_after_drop}
use Rattle.database_meaning.proofs.Maps.{tied_same, tied_other}
use Rattle.record_locks.specs.declared.locks.Client.{Client as LockClient}
use Rattle.record_locks.specs.Table.{client_of, lock_of}
use Rattle.row_store.specs.Rows.{RowState, RowTransaction, IsObservable, IsConsistent}
use Rattle.db_core.specs.declared.control.Control.{Control}
use Rattle.db_core.specs.Represents.{Represents, IsSound, IsClient, marks_at, blocked_at, is_open}
use Rattle.db_core.specs.Moves.{Drops, EndsWait, OnlyClient, Sets}
use Rattle.db_core.proofs.Clients.{client_as, all_clients}
use Rattle.db_core.proofs.LevelMoves.{same_lock}
use Rattle.db_core.proofs.Quiet.{represents_as, unblocked, unblocked_represents}
use Rattle.db_core.proofs.Sound.{sound_more, open_as}

-- the client's levels and transaction are as before
pub stay_sound : (rows : RowState) (control now : Control) (c : ℕ) (lock : LockClient) → OnlyClient control c (marks_at control c) lock now → IsSound rows control → IsSound rows now
stay_sound rows control now c lock only sound =
    sound_more rows rows control now c (record { schema = refl; transaction = λ d ne. refl; marks = only.marks; blocked = only.blocked })
    (open_as rows rows now c (marks_at control c) None _ refl only.own_marks only.own_blocked refl (record { begun = (sound.client c).begun; marks = (sound.client c).marks; fits = tt }))
    sound

removed : (held : Held) (row k : ℕ) (b : Bool) → get (remove held row) k ≡ Some b → (k ≢ row) × (get held k ≡ Some b)
removed held row k b e = elim (cases_eq k row) [
  | inl is ↦
      let gone : get (remove held row) k ≡ None = get-remove nat_cmp_total held row k ∙ ap (λ t. cond t None (get held k)) (ap (λ q. eq_by_cmp nat_cmp q row) is ∙ tied_same row) in
      cc
  | inr ne ↦ (ne, sym (get-remove nat_cmp_total held row k ∙ ap (λ t. cond t None (get held k)) (tied_other k row ne)) ∙ e)
]

still_none : (held : Held) (row k : ℕ) → get held k ≡ None → get (remove held row) k ≡ None
still_none held row k e = get-remove nat_cmp_total held row k ∙ at (eq_by_cmp nat_cmp k row)
  where
    at : (t : Bool) → cond t None (get held k) ≡ None
    at true = refl
    at false = e

module _ (rows : RowState) (control now : Control) (c : ℕ) (row : RowId) (sound : IsSound rows control) (settled : IsConsistent rows) (closed : marks_at control c ≡ []) (drops : Drops control c row.0 now)
    (f : Setting) (s : State) (represents : Represents f rows control s) where
  abbrev dropped : Client
  dropped = record (s.client c) { held = remove (s.client c).held row.0; blocked = None }

  none_touched : (k : ℕ) → IsTrue ((rows.transaction c).touched k) → ⊥
  none_touched k touched =
      let idle = settled.idle c ((sound.client c).begun ∙ ap is_open closed) in
      let free : (rows.transaction c).touched k ≡ false = ap (λ (t : RowTransaction). t.touched k) idle in
      let clash : true ≡ false = sym touched ∙ free in
      cc

  own_client : IsClient rows (marks_at control c) None (record { held = remove (client_of control.locks c).held row.0; blocked = None }) (rows.transaction c) dropped
  own_client =
      let h = represents.client c in
      record {
        held = ap (λ (m : Held). remove m row.0) h.held;
        waits = refl;
        blocked = λ observable. refl;
        depth = h.depth;
        reserved = h.reserved;
        drawn = h.drawn;
        written = h.written;
        overlay = h.overlay;
        copies = h.copies;
        locked = λ seen k touched. absurd (none_touched k touched);
        there = λ seen k b held none. h.there seen k b (removed (s.client c).held row.0 k b held).1 none;
      }

  lock_left : (k : ℕ) (b : Bool) → lock_of now.locks c k ≡ Some b → lock_of control.locks c k ≡ Some b
  lock_left k b e = (removed (client_of control.locks c).held row.0 k b (ap (λ (l : LockClient). get l.held k) (sym drops.client.own_lock) ∙ e)).1

  lock_gone : (k : ℕ) → lock_of control.locks c k ≡ None → lock_of now.locks c k ≡ None
  lock_gone k e = ap (λ (l : LockClient). get l.held k) drops.client.own_lock ∙ still_none (client_of control.locks c).held row.0 k e

  locks_apart : IsObservable rows → (k a b : ℕ) → a ≢ b → lock_of now.locks a k ≡ Some true → lock_of now.locks b k ≡ None
  locks_apart seen k a b ne e = now_none (represents.apart seen k a b ne was_held)
    where
      was_held : lock_of control.locks a k ≡ Some true
      was_held = elim (cases_eq a c) [
        | inl is ↦ subst (λ (d : ℕ). lock_of control.locks d k ≡ Some true) (sym is) (lock_left k true (subst (λ (d : ℕ). lock_of now.locks d k ≡ Some true) is e))
        | inr other ↦ sym (ap (λ (l : LockClient). get l.held k) (drops.client.lock a other)) ∙ e
      ]

      now_none : lock_of control.locks b k ≡ None → lock_of now.locks b k ≡ None
      now_none none = elim (cases_eq b c) [
        | inl is ↦ subst (λ (d : ℕ). lock_of now.locks d k ≡ None) (sym is) (lock_gone k (subst (λ (d : ℕ). lock_of control.locks d k ≡ None) is none))
        | inr other ↦ ap (λ (l : LockClient). get l.held k) (drops.client.lock b other) ∙ none
      ]

  depth_is : (depth_of s c == 0) ≡ true
  depth_is = ap (λ (n : ℕ). n == 0) ((represents.client c).depth ∙ ap (λ (m : List ℕ). length m) closed)

  client_is : (after f s c (DropLock row) Done).client ≡ (λ d. cond (d == c) dropped (s.client d))
  client_is = ap (λ (b : Bool). λ (d : ℕ). cond (d == c) (record (cond b (own_after_drop s c row.0) (s.client c)) { blocked = None }) (s.client d)) depth_is

  pub drop_frees : (freed : Bool) (n : ℕ) → IsTrue rows.observable → freed ≡ is_some (lock_of control.locks c row.0) → n ≡ cond freed (control.frees + 1) control.frees → n ≡ (after f s c (DropLock row) Done).frees
  drop_frees freed n observable freed_is is =
      is
      ∙ (ap (λ (b : Bool). cond b (control.frees + 1) control.frees) (freed_is ∙ ap (λ (m : Held). is_some (get m row.0)) (represents.client c).held)
      ∙ (ap (λ (m : ℕ). cond (contains_key (s.client c).held row.0) (m + 1) m) (represents.frees observable)
      ∙ sym (ap (λ (b : Bool). cond (b && contains_key (s.client c).held row.0) (s.frees + 1) s.frees) depth_is)))

  pub drop_represents : (IsTrue rows.observable → now.frees ≡ (after f s c (DropLock row) Done).frees) → Represents f rows now (after f s c (DropLock row) Done)
  drop_represents frees_are = record {
    schema = represents.schema;
    clients = represents.clients ∙ sym drops.client.count;
    client = λ d.
        subst (λ (g : ℕ → Client). IsClient rows (marks_at now d) (blocked_at now d) (client_of now.locks d) (rows.transaction d) (g d)) (sym client_is)
        (all_clients rows now s c dropped
        (client_as rows _ _ _ _ _ _ (rows.transaction c) _ dropped drops.client.own_marks drops.client.own_blocked drops.client.own_lock refl own_client)
        (λ e ne. client_as rows _ _ _ _ _ _ (rows.transaction e) _ (s.client e) (drops.client.marks e ne) (drops.client.blocked e ne) (drops.client.lock e ne) refl (represents.client e)) d);
    apart = locks_apart;
    committed = represents.committed;
    sequences = ap (λ v. v.items) drops.sequences ∙ represents.sequences;
    frees = frees_are;
  }

-- inside a transaction a Drop changes nothing but the blocked request
pub drop_inside : (f : Setting) (rows : RowState) (control now : Control) (s : State) (c : ℕ) (row : RowId) → EndsWait control c now → length (marks_at control c) ≢ 0
    → Represents f rows control s → Represents f rows now (after f s c (DropLock row) Done)
drop_inside f rows control now s c row ends inner represents =
    represents_as f rows now (unblocked s c) (after f s c (DropLock row) Done) refl refl client_is frees_is (unblocked_represents rows control now c ends f s represents)
  where
    inside : (depth_of s c == 0) ≡ false
    inside = ne_eqb (depth_of s c) 0 (λ e. inner (sym (represents.client c).depth ∙ e))

    client_is : (after f s c (DropLock row) Done).client ≡ (unblocked s c).client
    client_is = ap (λ (b : Bool). λ (d : ℕ). cond (d == c) (record (cond b (own_after_drop s c row.0) (s.client c)) { blocked = None }) (s.client d)) inside

    frees_is : (after f s c (DropLock row) Done).frees ≡ s.frees
    frees_is = ap (λ (b : Bool). cond (b && contains_key (s.client c).held row.0) (s.frees + 1) s.frees) inside

-- ---- sequences

module _ (f : Setting) (rows : RowState) (control now : Control) (s : State) (c sequence : ℕ) (value : ℤ) (value_is : value ≡ next_value f s sequence)
    (sets : Sets control c (slice_set control.sequences.items sequence value) now) (represents : Represents f rows control s) where
  abbrev own : Client
  own = record (s.client c) { blocked = None }

  pub sequence_represents : Represents f rows now (after f s c (NextValue sequence) (ValueAnswer value))
  sequence_represents =
      let was = represents.client c in
      record {
        schema = represents.schema;
        clients = represents.clients ∙ sym sets.client.count;
        client = all_clients rows now s c own
            (client_as rows (marks_at control c) _ None _ (record { held = (client_of control.locks c).held; blocked = None }) _ (rows.transaction c) _ own sets.client.own_marks sets.client.own_blocked sets.client.own_lock refl
            (record {
              held = was.held;
              waits = refl;
              blocked = λ observable. refl;
              depth = was.depth;
              reserved = was.reserved;
              drawn = was.drawn;
              written = was.written;
              overlay = was.overlay;
              copies = was.copies;
              locked = was.locked;
              there = was.there;
            }))
            (λ d ne. client_as rows _ _ _ _ _ _ (rows.transaction d) _ (s.client d) (sets.client.marks d ne) (sets.client.blocked d ne) (sets.client.lock d ne) refl (represents.client d));
        apart = λ seen q a b ne e. same_lock control now c _ sets.client b q ∙ represents.apart seen q a b ne (sym (same_lock control now c _ sets.client a q) ∙ e);
        committed = represents.committed;
        sequences = sets.sequences ∙ (ap (λ (xs : List ℤ). slice_set xs sequence value) represents.sequences ∙ ap (slice_set s.sequences sequence) value_is);
        frees = λ observable. sets.frees ∙ represents.frees observable;
      }

pub nothing_open : (marks : List ℕ) → length marks ≡ 0 → marks ≡ []
nothing_open [] e = refl
nothing_open (mark ∷ marks) e = absurd (omega arith)

-- the count of frees is apart
pub drops_counted : (old now : Control) (c row n : ℕ) → Drops old c row now → Drops old c row (record now { frees = n })
drops_counted old now c row n h = record {
  client = record {
    own_marks = h.client.own_marks;
    own_blocked = h.client.own_blocked;
    own_lock = h.client.own_lock;
    marks = h.client.marks;
    blocked = h.client.blocked;
    lock = h.client.lock;
    count = h.client.count;
  };
  sequences = h.sequences;
}

-- the state after the drop, with the frees counted
pub drop_counted : (f : Setting) (rows : RowState) (control middle now : Control) (s : State) (c : ℕ) (row : RowId) → IsSound rows control → IsConsistent rows → marks_at control c ≡ [] → Drops control c row.0 middle
    → Represents f rows control s → (freed : Bool) → middle.frees ≡ control.frees → freed ≡ is_some (lock_of control.locks c row.0)
    → now ≡ record middle { frees = cond freed (middle.frees + 1) middle.frees } → Represents f rows now (after f s c (DropLock row) Done)
drop_counted f rows control middle now s c row sound settled closed drops represents freed frees freed_is is =
    let n : ℕ = cond freed (middle.frees + 1) middle.frees in
    let counted : Drops control c row.0 (record middle { frees = n }) = drops_counted control middle c row.0 n drops in
    subst (λ (k : Control). Represents f rows k (after f s c (DropLock row) Done)) (sym is)
    (drop_represents rows control (record middle { frees = n }) c row sound settled closed counted f s represents
    (λ observable. drop_frees rows control (record middle { frees = n }) c row sound settled closed counted f s represents freed n observable freed_is (ap (λ (m : ℕ). cond freed (m + 1) m) frees)))
