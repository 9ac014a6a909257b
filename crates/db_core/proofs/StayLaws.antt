-- What the calls keep, and what stays after their errors.
use Rattle.std.proofs.Common.{◌≡◌, ◌⊎◌, ℕ, ◌+◌, ◌≤◌, ◌==◌, Bool, true, false, cond, eq-eqb, Err, List, length, Option, None, Some, is_some, refl, sym, ap, ◌∙◌, subst, inl, inr, arith}
use Rattle.std.specs.FinMap.{get, insert, remove, same_map, nat_cmp-IsAntisymmetric}
use Rattle.std.specs.Cmp.{nat_cmp_total}
use Rattle.std.proofs.lemmas.Bool.{cases_eq}
use Rattle.database_protocol.specs.declared.operation.Op.{Op}
use Rattle.database_protocol.specs.declared.answer.Answer.{Answer}
use Rattle.database_protocol.specs.declared.answer.Answer.TheVariants.{Closed, NoMemory as OutOfMemory}
use Rattle.database_meaning.specs.declared.state.BlockedRequest.{BlockedRequest}
use Rattle.database_meaning.specs.Setting.{Setting}
use Rattle.database_meaning.specs.State.{State, Held}
use Rattle.database_meaning.specs.Steps.{after}
use Rattle.database_meaning.proofs.Maps.{get_insert_other, get_remove_other, get_remove_same}
use Rattle.record_locks.specs.declared.locks.Client.{Client as LockClient}
use Rattle.record_locks.specs.Requests.{granted}
use Rattle.record_locks.specs.Table.{client_of, lock_of, OnlyChanges}
use Rattle.row_store.specs.declared.store.RowFault.{RowFault}
use Rattle.row_store.specs.declared.store.RowFault.TheVariants.{Disk, NoMemory}
use Rattle.row_store.specs.Rows.{AfterError, Fails, RowState, SameBase}
use Rattle.db_core.specs.declared.control.Control.{Control}
use Rattle.db_core.specs.Represents.{IsOpen, IsSound, Represents, marks_at, blocked_at}
use Rattle.db_core.specs.Moves.{EndsWait, Grants, SameControl}
use Rattle.db_core.specs.Keeps.{IsFailure, Keeps, NextCounts, RepresentsBut, SameCounts, Stays, without_request}
use Rattle.db_core.proofs.Clients.{client_as}
use Rattle.db_core.proofs.LevelLaws.{levels_control, levels_ended}
use Rattle.db_core.proofs.Quiet.{quiet_represents, represents_as, stopped_represents, stopped_sound, unblocked_represents}
use Rattle.db_core.proofs.Sound.{sound_more}

-- ---- counts

pub counts_of : (old new : Control) → length new.sessions.items ≡ length old.sessions.items → new.sequences ≡ old.sequences → new.frees ≡ old.frees → SameCounts old new
counts_of old new count sequences frees = record { clients = count; sequences = ap (λ v. length v.items) sequences; frees = frees }

pub next_of : (old new : Control) → SameCounts old new → NextCounts old new
next_of old new counts = record { clients = counts.clients; sequences = counts.sequences; frees = let same = counts.frees in omega arith }

pub counts_more : (old middle new : Control) (b : Bool) → length middle.sessions.items ≡ length old.sessions.items → middle.sequences ≡ old.sequences → middle.frees ≡ old.frees
    → new ≡ record middle { frees = cond b (middle.frees + 1) middle.frees } → NextCounts old new
counts_more old middle new b count sequences frees is = record {
  clients = ap (λ (k : Control). length k.sessions.items) is ∙ count;
  sequences = ap (λ (k : Control). length k.sequences.items) is ∙ ap (λ v. length v.items) sequences;
  frees = at b (ap (λ (k : Control). k.frees) is);
}
  where
    at : (b : Bool) → new.frees ≡ cond b (middle.frees + 1) middle.frees → new.frees ≤ old.frees + 1
    at true e = omega arith
    at false e = omega arith

pub counts_wait : (old new : Control) (c : ℕ) → EndsWait old c new → SameCounts old new
counts_wait old new c ends = counts_of old new ends.client.count ends.sequences ends.frees

pub counts_same : (old new : Control) → SameControl old new → SameCounts old new
counts_same old new same = counts_of old new same.count same.sequences same.frees

pub keeps_based : (old new : RowState) (before after : Control) → SameBase old new → NextCounts before after → Keeps old new before after
keeps_based old new before after base counts = record { observable = base.observable; failed = base.failed; schema = base.schema; counts = counts }

-- ---- the same control data

control_represents : (f : Setting) (rows : RowState) (before after : Control) (s : State) → SameControl before after → Represents f rows before s → Represents f rows after s
control_represents f rows before after s same h = record {
  schema = h.schema;
  clients = h.clients ∙ sym same.count;
  client = λ c. client_as rows _ _ _ _ _ _ _ _ (s.client c) (same.marks c) (same.blocked c) (same.locks c) refl (h.client c);
  apart = λ seen row a b ne e. lock b row ∙ h.apart seen row a b ne (sym (lock a row) ∙ e);
  committed = h.committed;
  sequences = ap (λ v. v.items) same.sequences ∙ h.sequences;
  frees = λ observable. same.frees ∙ h.frees observable;
}
  where
    lock : (d row : ℕ) → lock_of after.locks d row ≡ lock_of before.locks d row
    lock d row = ap (λ (l : LockClient). get l.held row) (same.locks d)

control_sound : (rows : RowState) (before after : Control) → SameControl before after → IsSound rows before → IsSound rows after
control_sound rows before after same h = record {
  client = λ d.
      subst (λ (w : Option BlockedRequest). IsOpen rows.schema (marks_at after d) w (rows.transaction d)) (sym (same.blocked d))
      (subst (λ (m : List ℕ). IsOpen rows.schema m (blocked_at before d) (rows.transaction d)) (sym (same.marks d)) (h.client d));
}

-- ---- errors

pub stays_control : (rows : RowState) (before after : Control) (c : ℕ) → SameControl before after → Stays rows rows before after c
stays_control rows before after c same = record {
  observable = refl;
  schema = refl;
  counts = counts_same before after same;
  levels = levels_control before after same;
  sound = control_sound rows before after same;
  represents = λ seen f s h. inl (control_represents f rows before after s same h);
}

stays_failed : (old new : RowState) (before after : Control) (c : ℕ) → Fails old new → SameControl before after → Stays old new before after c
stays_failed old new before after c fails same = record {
  observable = fails.observable;
  schema = fails.schema;
  counts = counts_same before after same;
  levels = levels_control before after same;
  sound = λ h. control_sound new before after same (stopped_sound old new before fails h);
  represents = λ seen f s h. inl (control_represents f new before after s same (stopped_represents f old new before s fails h));
}

pub stays_same : {T : Type 0} (old new : RowState) (before after : Control) (c : ℕ) (e : RowFault) → AfterError {T = T} old new (Err e) → SameControl before after → Stays old new before after c
stays_same old new before after c NoMemory h same = subst (λ (r : RowState). Stays old r before after c) (sym (h.memory refl)) (stays_control old before after c same)
stays_same old new before after c Disk h same = stays_failed old new before after c (h.disk refl) same

pub same_control : (control : Control) → SameControl control control
same_control control = record { locks = λ d. refl; marks = λ d. refl; blocked = λ d. refl; count = refl; sequences = refl; frees = refl }

pub stays_as : {T : Type 0} (old new : RowState) (control after : Control) (c : ℕ) (e : RowFault) → AfterError {T = T} old new (Err e) → after ≡ control → Stays old new control after c
stays_as old new control after c e h is = subst (λ (k : Control). Stays old new control k c) (sym is) (stays_same old new control control c e h (same_control control))

pub no_lock : (o : Option Bool) → is_some o ≡ false → o ≡ None
no_lock None e = refl
no_lock (Some b) e = cc

-- ---- a lock that was granted for a row, and given up

module _ (before middle after : Control) (c : ℕ) (row : ℕ) (grants : Grants before c row true middle)
    (locks : OnlyChanges middle.locks c (record (client_of middle.locks c) { held = remove (client_of middle.locks c).held row }) after.locks)
    (sessions : after.sessions ≡ middle.sessions) (sequences : after.sequences ≡ middle.sequences) (frees : after.frees ≡ middle.frees) where
  removed : (m : Held) (v : Bool) → get m row ≡ None → remove (insert m row v) row ≡ m
  removed m v none = same_map nat_cmp_total nat_cmp-IsAntisymmetric _ _ (λ q. elim (cases_eq q row) [
    | inl is ↦ ap (get (remove (insert m row v) row)) is ∙ (get_remove_same (insert m row v) row ∙ (sym none ∙ ap (get m) (sym is)))
    | inr ne ↦ get_remove_other (insert m row v) row q ne ∙ get_insert_other m row v q ne
  ])

  marks : (d : ℕ) → marks_at after d ≡ marks_at middle d
  marks d = ap (λ v. marks_at (record middle { sessions = v }) d) sessions

  blocked : (d : ℕ) → blocked_at after d ≡ blocked_at middle d
  blocked d = ap (λ v. blocked_at (record middle { sessions = v }) d) sessions

  pub released_counts : SameCounts before after
  released_counts = counts_of before after (ap (λ v. length v.items) sessions ∙ grants.client.count) (sequences ∙ grants.sequences) (frees ∙ grants.frees)

  pub released_ends : get (client_of before.locks c).held row ≡ None → EndsWait before c after
  released_ends none = record {
    client = record {
      own_marks = marks c ∙ grants.client.own_marks;
      own_blocked = blocked c ∙ grants.client.own_blocked;
      own_lock =
          locks.changed
          ∙ (ap (λ (l : LockClient). let k : LockClient = record l { held = remove l.held row } in k) grants.client.own_lock
          ∙ ap (λ (m : Held). let k : LockClient = record { held = m; blocked = None } in k) (removed (client_of before.locks c).held (granted (lock_of before.locks c row) true) none));
      marks = λ d ne. marks d ∙ grants.client.marks d ne;
      blocked = λ d ne. blocked d ∙ grants.client.blocked d ne;
      lock = λ d ne. locks.others d ne ∙ grants.client.lock d ne;
      count = ap (λ v. length v.items) sessions ∙ grants.client.count;
    };
    sequences = sequences ∙ grants.sequences;
    frees = frees ∙ grants.frees;
  }

  released_sound : (rows : RowState) → IsSound rows before → IsSound rows after
  released_sound rows sound =
      sound_more rows rows before after c
      (record {
        schema = refl;
        transaction = λ d ne. refl;
        marks = λ d ne. marks d ∙ grants.client.marks d ne;
        blocked = λ d ne. blocked d ∙ grants.client.blocked d ne;
      })
      (subst (λ (w : Option BlockedRequest). IsOpen rows.schema (marks_at after c) w (rows.transaction c)) (sym (blocked c ∙ grants.client.own_blocked))
      (subst (λ (m : List ℕ). IsOpen rows.schema m None (rows.transaction c)) (sym (marks c ∙ grants.client.own_marks))
      (record { begun = (sound.client c).begun; marks = (sound.client c).marks; fits = tt })))
      sound

  -- nobody had held the row
  module _ (old new : RowState) (none : get (client_of before.locks c).held row ≡ None) where
    released_stays : (new ≡ old) ⊎ Fails old new → Stays old new before after c
    released_stays (inl same) = subst (λ (r : RowState). Stays old r before after c) (sym same) (record {
      observable = refl;
      schema = refl;
      counts = released_counts;
      levels = levels_ended before after c (released_ends none);
      sound = released_sound old;
      represents = λ seen f s h. inr (unblocked_represents old before after c (released_ends none) f s h);
    })
    released_stays (inr fails) = record {
      observable = fails.observable;
      schema = fails.schema;
      counts = released_counts;
      levels = levels_ended before after c (released_ends none);
      sound = λ h. released_sound new (stopped_sound old new before fails h);
      represents = λ seen f s h. inr (unblocked_represents new before after c (released_ends none) f s (stopped_represents f old new before s fails h));
    }

    pub insert_stays : {T : Type 0} (e : RowFault) → AfterError {T = T} old new (Err e) → Stays old new before after c
    insert_stays NoMemory h = released_stays (inl (h.memory refl))
    insert_stays Disk h = released_stays (inr (h.disk refl))

-- ---- the answer after an error

module _ (f : Setting) (rows : RowState) (control now : Control) (s : State) (c : ℕ) (op : Op) where
  same_but : (after f s c op OutOfMemory).client ≡ (after f (without_request s c) c op OutOfMemory).client
  same_but = λ i d. at d (d == c) (c == c) (eq-eqb c c refl) i
    where
      at : (d : ℕ) (b k : Bool) → k ≡ true → cond b (record (s.client c) { blocked = None }) (s.client d)
          ≡ cond b (record (cond k (record (s.client c) { blocked = None }) (s.client c)) { blocked = None }) (cond b (record (s.client c) { blocked = None }) (s.client d))
      at d true true e = refl
      at d true false e = cc
      at d false k e = refl

  pub failed_represents : (a : Answer) → IsFailure a → EndsWait control c now → RepresentsBut f rows control c s → Represents f rows now (after f s c op a)
  failed_represents OutOfMemory is ends (inl h) = quiet_represents f rows control now s c op OutOfMemory refl (inl refl) ends h
  failed_represents Closed is ends (inl h) = quiet_represents f rows control now s c op Closed refl (inl refl) ends h
  failed_represents OutOfMemory is ends (inr h) =
      represents_as f rows now (after f (without_request s c) c op OutOfMemory) (after f s c op OutOfMemory) refl refl same_but refl
      (quiet_represents f rows control now (without_request s c) c op OutOfMemory refl (inl refl) ends h)
  failed_represents Closed is ends (inr h) =
      represents_as f rows now (after f (without_request s c) c op Closed) (after f s c op Closed) refl refl same_but refl
      (quiet_represents f rows control now (without_request s c) c op Closed refl (inl refl) ends h)
  failed_represents _ is ends h = absurd is
