-- The end of a client.
use Rattle.std.proofs.Common.{◌≡◌, ◌≢◌, ◌↔◌, ℕ, ◌+◌, ◌||◌, not, Bool, true, false, cond, [], Some, None, refl, sym, ap, ◌∙◌, subst, inl, inr, arith}
use Rattle.std.specs.Prelude.{IsTrue, IsSome}
use Rattle.std.specs.Ordering.{nat_cmp}
use Rattle.std.specs.FinMap.{get, empty, entries, get-empty}
use Rattle.std.proofs.lemmas.Bool.{cases_eq}
use Rattle.database_meaning.specs.declared.state.Key.{Key}
use Rattle.database_protocol.specs.declared.operation.Op.TheVariants.{End}
use Rattle.database_protocol.specs.declared.answer.Answer.TheVariants.{Done}
use Rattle.database_meaning.specs.Setting.{Setting}
use Rattle.database_meaning.specs.State.{State, Client, Held}
use Rattle.database_meaning.specs.Steps.{after, is_empty}
use Rattle.record_locks.specs.declared.locks.Client.{Client as LockClient}
use Rattle.record_locks.specs.Table.{lock_of, no_client}
use Rattle.row_store.specs.Changes.{RowsById, undone, has_change}
use Rattle.row_store.specs.Rows.{RowState, RowTransaction, IsObservable, IsConsistent, Abandons, no_transaction}
use Rattle.row_store.proofs.Copies.{undone_other}
use Rattle.db_core.specs.declared.control.Control.{Control}
use Rattle.db_core.specs.Represents.{Represents, IsSound, IsClient}
use Rattle.db_core.specs.Moves.{Ends}
use Rattle.db_core.proofs.Clients.{client_as, client_stays, all_clients, still_observable, untouched_where_held}
use Rattle.db_core.proofs.Frees.{held_some, reserved_some}
use Rattle.db_core.proofs.Sound.{sound_more, open_as}

-- a transaction that is not begun is abandoned already
pub idle_abandons : (rows : RowState) (c : ℕ) → IsConsistent rows → (rows.transaction c).begun ≡ false → Abandons rows rows c
idle_abandons rows c settled idle =
    let none = settled.idle c idle in
    record {
      base = record { observable = refl; failed = refl; schema = refl; committed = refl; sequences = refl };
      rows = λ seen. ap (λ (t : RowTransaction). undone t.changes rows.rows) (sym none);
      transaction = record { others = λ d ne. refl; own = none };
    }

module _ (rows new : RowState) (control now : Control) (c : ℕ) (sound : IsSound rows control) (settled : IsConsistent rows) (abandons : Abandons rows new c) (ends : Ends control c now) where
  pub end_sound : IsSound new now
  end_sound =
      sound_more rows new control now c
      (record { schema = abandons.base.schema; transaction = abandons.transaction.others; marks = ends.client.marks; blocked = ends.client.blocked })
      (open_as rows new now c [] None no_transaction abandons.base.schema ends.client.own_marks ends.client.own_blocked abandons.transaction.own
      (record { begun = refl; marks = omega arith; fits = tt }))
      sound

  was : IsObservable new → IsObservable rows
  was = still_observable rows new abandons.base.observable abandons.base.failed

  unchanged : (k : ℕ) → (rows.transaction c).touched k ≡ false → has_change (rows.transaction c).changes k ≡ false
  unchanged k free = at (has_change (rows.transaction c).changes k) refl
    where
      at : (b : Bool) → has_change (rows.transaction c).changes k ≡ b → has_change (rows.transaction c).changes k ≡ false
      at true is = let touched = settled.touched c k is in let clash : true ≡ false = sym touched ∙ free in cc
      at false is = is

  -- rows that the client did not touch stay
  stay : IsObservable rows → (k : ℕ) → (rows.transaction c).touched k ≡ false → new.rows k ≡ rows.rows k
  stay seen k free = ap (λ (r : RowsById). r k) (abandons.rows seen) ∙ undone_other (rows.transaction c).changes rows.rows k (unchanged k free)

  module _ (f : Setting) (s : State) (represents : Represents f rows control s) where
    abbrev ended : Client
    ended = record { overlay = empty; levels = []; reserved_keys = []; drawn = 0; written = 0; held = empty; blocked = None }

    own_client : IsClient new [] None no_client no_transaction ended
    own_client = record {
      held = refl;
      waits = refl;
      blocked = λ observable. refl;
      depth = refl;
      reserved = λ observable k. refl;
      drawn = λ seen. refl;
      written = λ seen. refl;
      overlay = λ seen k. get-empty nat_cmp k;
      copies = λ seen. tt;
      locked = λ seen k h. cc;
      there = λ seen k b held none. let clash : None ≡ Some b = sym (get-empty nat_cmp k) ∙ held in cc;
    }

    no_lock : (k : ℕ) → lock_of now.locks c k ≡ None
    no_lock k = ap (λ (l : LockClient). get l.held k) ends.client.own_lock ∙ get-empty nat_cmp k

    locks_apart : IsObservable rows → (k a b : ℕ) → a ≢ b → lock_of now.locks a k ≡ Some true → lock_of now.locks b k ≡ None
    locks_apart seen k a b ne e = elim (cases_eq b c) [
      | inl is ↦ subst (λ (d : ℕ). lock_of now.locks d k ≡ None) (sym is) (no_lock k)
      | inr other ↦ elim (cases_eq a c) [
        | inl same ↦ let none : lock_of now.locks a k ≡ None = subst (λ (d : ℕ). lock_of now.locks d k ≡ None) (sym same) (no_lock k) in cc
        | inr apart ↦
            ap (λ (l : LockClient). get l.held k) (ends.client.lock b other) ∙ represents.apart seen k a b ne (sym (ap (λ (l : LockClient). get l.held k) (ends.client.lock a apart)) ∙ e)
      ]
    ]

    pub end_represents : (IsTrue rows.observable → now.frees ≡ (after f s c End Done).frees) → Represents f new now (after f s c End Done)
    end_represents frees_are = record {
      schema = represents.schema ∙ sym abandons.base.schema;
      clients = represents.clients ∙ sym ends.client.count;
      client = all_clients new now s c ended
          (client_as new _ _ _ _ _ _ _ _ ended ends.client.own_marks ends.client.own_blocked ends.client.own_lock abandons.transaction.own own_client)
          (λ d ne. client_as new _ _ _ _ _ _ _ _ (s.client d) (ends.client.marks d ne) (ends.client.blocked d ne) (ends.client.lock d ne) (abandons.transaction.others d ne)
          (client_stays rows new _ _ _ _ (s.client d) abandons.base.observable abandons.base.failed (settled.touched d)
          (λ seen k b held. stay seen k (untouched_where_held f rows control s represents seen c d k b ne held)) (represents.client d)));
      apart = λ seen. locks_apart (was seen);
      committed = λ observable k. represents.committed (sym abandons.base.observable ∙ observable) k ∙ ap (λ (r : RowsById). r k) (sym abandons.base.committed);
      sequences = ap (λ v. v.items) ends.sequences ∙ represents.sequences;
      frees = λ observable. frees_are (sym abandons.base.observable ∙ observable);
    }

-- the count of frees
pub end_frees : (f : Setting) (rows : RowState) (control : Control) (s : State) (c : ℕ) (freed reserved : Bool) (n : ℕ) → Represents f rows control s → IsTrue rows.observable
    → (IsTrue freed ↔ ((row : ℕ) × IsSome (lock_of control.locks c row))) → (IsTrue reserved ↔ ((k : Key) × IsTrue ((rows.transaction c).reserved k)))
    → n ≡ cond (reserved || freed) (control.frees + 1) control.frees → n ≡ (after f s c End Done).frees
end_frees f rows control s c freed reserved n represents observable freed_iff reserved_iff is =
    let some_held : freed ≡ not (is_empty (entries (s.client c).held)) =
    held_some (s.client c).held freed (subst (λ (m : Held). IsTrue freed ↔ ((row : ℕ) × IsSome (get m row))) (represents.client c).held freed_iff) in
    let some_key : reserved ≡ not (is_empty (s.client c).reserved_keys) = reserved_some (s.client c).reserved_keys reserved (rows.transaction c).reserved ((represents.client c).reserved observable) reserved_iff in
    is
    ∙ (ap (λ (m : ℕ). cond (reserved || freed) (m + 1) m) (represents.frees observable)
    ∙ (ap (λ (b : Bool). cond (b || freed) (s.frees + 1) s.frees) some_key ∙ ap (λ (b : Bool). cond (not (is_empty (s.client c).reserved_keys) || b) (s.frees + 1) s.frees) some_held))

pub ends_counted : (old now : Control) (c n : ℕ) → Ends old c now → Ends old c (record now { frees = n })
ends_counted old now c n h = record {
  client = record {
    own_marks = h.client.own_marks;
    own_blocked = h.client.own_blocked;
    own_lock = h.client.own_lock;
    marks = h.client.marks;
    blocked = h.client.blocked;
    lock = h.client.lock;
    count = h.client.count;
  };
  sequences = h.sequences;
}

-- the state after the end, with the frees counted
pub end_counted : (f : Setting) (rows new : RowState) (control middle now : Control) (s : State) (c : ℕ) → IsSound rows control → IsConsistent rows → Abandons rows new c → Ends control c middle
    → Represents f rows control s → (freed reserved : Bool) → middle.frees ≡ control.frees
    → (IsTrue freed ↔ ((row : ℕ) × IsSome (lock_of control.locks c row))) → (IsTrue reserved ↔ ((k : Key) × IsTrue ((rows.transaction c).reserved k)))
    → now ≡ record middle { frees = cond (reserved || freed) (middle.frees + 1) middle.frees } → Represents f new now (after f s c End Done)
end_counted f rows new control middle now s c sound settled abandons ends represents freed reserved frees freed_iff reserved_iff is =
    let n : ℕ = cond (reserved || freed) (middle.frees + 1) middle.frees in
    subst (λ (k : Control). Represents f new k (after f s c End Done)) (sym is)
    (end_represents rows new control (record middle { frees = n }) c sound settled abandons (ends_counted control middle c n ends) f s represents
    (λ observable. end_frees f rows control s c freed reserved n represents observable freed_iff reserved_iff (ap (λ (m : ℕ). cond (reserved || freed) (m + 1) m) frees)))
