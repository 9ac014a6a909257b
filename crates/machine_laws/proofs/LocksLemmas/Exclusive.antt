-- A client's exclusive locks, by its own events.
use Rattle.std.proofs.Common.{◌≡◌, ◌≢◌, ◌↔◌, inl, inr, ℕ, Bool, true, false, List, [], ◌∷◌, Option, Some, None, cond, refl, sym, ap, ◌∙◌, eq-eqb, nat_cmp}
use Rattle.std.specs.Prelude.{◌==◌, ◌||◌, ◌&&◌, not}
use Rattle.std.specs.FinMap.{get, get-empty, insert, remove, retain_keys}
use Rattle.std.proofs.lemmas.Bool.Decides.{eqb_tells}
use Rattle.database_protocol.specs.declared.event.Event.{Event}
use Rattle.database_protocol.specs.declared.operation.Op.{Op}
use Rattle.database_protocol.specs.declared.operation.Op.TheVariants as op
use Rattle.database_protocol.specs.declared.answer.Answer.{Answer}
use Rattle.abl_base.specs.declared.row.RowId.{RowId}
use Rattle.database_meaning.specs.declared.contents.Contents.{Contents}
use Rattle.database_meaning.specs.Setting.{Setting}
use Rattle.database_meaning.specs.State.{Held, HoldsExclusively, State, depth_of, lock_of}
use Rattle.database_meaning.specs.Steps.{after, as_share, blocked_after, client_after, committed_after, is_success, or_exclusive, own_after, own_after_commit, own_after_drop, own_after_leave, row_of_answer, stays}
use Rattle.database_meaning.specs.Traces.{after_event, left_by, opened, state_after}
use Rattle.database_meaning.proofs.Maps.{as_share_cases, get_insert_other, get_insert_same, get_remove_other, get_remove_same}
use Rattle.turn_lock.specs.Journal.{own_entries}
use Rattle.client_runner.specs.Meant.{client_in}
use Rattle.client_runner.specs.Levels.{levels_after, levels_left}
use Rattle.client_runner.proofs.Levels.{levels_own}
use Rattle.machine_laws.specs.locks.Exclusive.{holds, holds_after, holds_left}

-- ---- a lock

-- it is exclusive
abbrev is_exclusive : Option Bool → Bool
is_exclusive None = false
is_exclusive (Some exclusive) = exclusive

none_of : (o : Option Bool) → ((w : Bool) → o ≡ Some w → w ≡ false) → is_exclusive o ≡ false
none_of None x = refl
none_of (Some w) x = x w refl

or_of : (o : Option Bool) (x : Bool) → or_exclusive o x ≡ is_exclusive o || x
or_of None x = refl
or_of (Some held) x = refl

-- no lock that became share is exclusive
shared_none : (held : Held) (row : ℕ) → is_exclusive (get (as_share held) row) ≡ false
shared_none held row = none_of (get (as_share held) row) (λ w e. (as_share_cases held row w e).0)

locked : (held : Held) (at row : ℕ) (x : Bool) → is_exclusive (get (insert held at (or_exclusive (get held at) x)) row) ≡ cond (at == row) (is_exclusive (get held row) || x) (is_exclusive (get held row))
locked held at row x =
    elim (eqb_tells at row) [
      | inl same ↦
          ap (λ k. is_exclusive (get (insert held at (or_exclusive (get held at) x)) k)) (sym same.1) ∙ ap is_exclusive (get_insert_same held at (or_exclusive (get held at) x)) ∙ or_of (get held at) x ∙ ap (λ k. is_exclusive (get held k) || x) same.1
          ∙ sym (ap (λ b. cond b (is_exclusive (get held row) || x) (is_exclusive (get held row))) same.0)
      | inr other ↦
          ap is_exclusive (get_insert_other held at (or_exclusive (get held at) x) row (λ e. other.1 (sym e)))
          ∙ sym (ap (λ b. cond b (is_exclusive (get held row) || x) (is_exclusive (get held row))) other.0)
    ]

inserted : (held : Held) (at row : ℕ) → is_exclusive (get (insert held at true) row) ≡ (at == row) || is_exclusive (get held row)
inserted held at row =
    elim (eqb_tells at row) [
      | inl same ↦
          ap (λ k. is_exclusive (get (insert held at true) k)) (sym same.1) ∙ ap is_exclusive (get_insert_same held at true) ∙ sym (ap (λ b. b || is_exclusive (get held row)) same.0)
      | inr other ↦ ap is_exclusive (get_insert_other held at true row (λ e. other.1 (sym e))) ∙ sym (ap (λ b. b || is_exclusive (get held row)) other.0)
    ]

removed : (held : Held) (at row : ℕ) → is_exclusive (get (remove held at) row) ≡ not (at == row) && is_exclusive (get held row)
removed held at row =
    elim (eqb_tells at row) [
      | inl same ↦ ap (λ k. is_exclusive (get (remove held at) k)) (sym same.1) ∙ ap is_exclusive (get_remove_same held at) ∙ sym (ap (λ b. not b && is_exclusive (get held row)) same.0)
      | inr other ↦ ap is_exclusive (get_remove_other held at row (λ e. other.1 (sym e))) ∙ sym (ap (λ b. not b && is_exclusive (get held row)) other.0)
    ]

-- ---- an operation that succeeded

module _ (f : Setting) (s : State) (c : ℕ) (row : ℕ) where
  left_locks : (keep : List RowId) → is_exclusive (get (own_after f s c (op.Leave keep) 0).held row) ≡ not (depth_of s c == 1) && is_exclusive (lock_of s c row)
  left_locks keep =
      elim (eqb_tells (depth_of s c) 1) [
        | inl one ↦
            ap (λ b. is_exclusive (get (cond b (own_after_commit s c keep) (own_after_leave s c)).held row)) one.0 ∙ shared_none (retain_keys (s.client c).held (stays (committed_after s c (op.Leave keep)) keep)) row
            ∙ sym (ap (λ b. not b && is_exclusive (lock_of s c row)) one.0)
        | inr more ↦
            ap (λ b. is_exclusive (get (cond b (own_after_commit s c keep) (own_after_leave s c)).held row)) more.0
            ∙ sym (ap (λ b. not b && is_exclusive (lock_of s c row)) more.0)
      ]

  dropped_locks : (b : Bool) (at : ℕ) → is_exclusive (get (cond b (own_after_drop s c at) (s.client c)).held row) ≡ not (b && (at == row)) && is_exclusive (lock_of s c row)
  dropped_locks true at = removed (s.client c).held at row
  dropped_locks false at = refl

  own_locks : (o : Op) (a : Answer) → is_exclusive (get (own_after f s c o (row_of_answer a)).held row) ≡ holds_after row (depth_of s c) o a (is_exclusive (lock_of s c row))
  own_locks op.Enter a = refl
  own_locks (op.Leave keep) a = left_locks keep
  own_locks (op.Back depth) a = refl
  own_locks (op.Next table index prefix cursor forward) a = refl
  own_locks (op.Get table at) a = refl
  own_locks (op.Lock table at exclusive wait) a = locked (s.client c).held at.0 row exclusive
  own_locks (op.Insert table values) a = inserted (s.client c).held (row_of_answer a) row
  own_locks (op.Put table at values) a = refl
  own_locks (op.Delete table at) a = refl
  own_locks (op.Drop at) a = dropped_locks (depth_of s c == 0) at.0
  own_locks (op.NextValue sequence) a = refl
  own_locks (op.CurrentValue sequence) a = refl
  own_locks op.End a = ap is_exclusive (get-empty nat_cmp row)

  module _ (o : Op) (a : Answer) where
    by_success : (b : Bool) → is_exclusive (get (cond b (own_after f s c o (row_of_answer a)) (s.client c)).held row) ≡ cond b (holds_after row (depth_of s c) o a (is_exclusive (lock_of s c row))) (is_exclusive (lock_of s c row))
    by_success true = own_locks o a
    by_success false = refl

    -- the client that asked
    own_step : (d : ℕ) → d ≡ c → is_exclusive (lock_of (after f s c o a) d row) ≡ cond (is_success a) (holds_after row (depth_of s d) o a (is_exclusive (lock_of s d row))) (is_exclusive (lock_of s d row))
    own_step d e =
        ap (λ b. is_exclusive (get (cond b (record (client_after f s c o a) { blocked = blocked_after s c o a }) (s.client d)).held row)) (eq-eqb d c e)
        ∙ by_success (is_success a) ∙ ap (λ k. cond (is_success a) (holds_after row (depth_of s k) o a (is_exclusive (lock_of s k row))) (is_exclusive (lock_of s k row))) (sym e)

    -- another client
    other_step : (d : ℕ) → d ≢ c → is_exclusive (lock_of (after f s c o a) d row) ≡ is_exclusive (lock_of s d row)
    other_step d other =
        elim (eqb_tells d c) [
          | inl same ↦ absurd (other same.1)
          | inr differs ↦ ap (λ b. is_exclusive (get (cond b (record (client_after f s c o a) { blocked = blocked_after s c o a }) (s.client d)).held row)) differs.0
        ]

-- ---- a trace

-- the open levels after one event
levels_step : (f : Setting) (s : State) (n : ℕ) (e : Event) → depth_of (after_event f s e) n ≡ levels_left (depth_of s n) (own_entries client_in n (e ∷ []))
levels_step f s n e = levels_own f s n (e ∷ [])

own_one : (n : ℕ) (e : Event) (b : Bool) (k : ℕ) → b ≡ true → levels_left k (cond b (e ∷ []) []) ≡ cond (is_success e.answer) (levels_after k e.op) k
own_one n e true k is = refl
own_one n e false k is = cc

other_one : (n : ℕ) (e : Event) (b : Bool) (k : ℕ) → b ≡ false → levels_left k (cond b (e ∷ []) []) ≡ k
other_one n e true k is = cc
other_one n e false k is = refl

locks_own : (f : Setting) (s : State) (n row : ℕ) (trace : List Event) → is_exclusive (lock_of (state_after f s trace) n row) ≡ holds_left row (depth_of s n) (is_exclusive (lock_of s n row)) (own_entries client_in n trace)
locks_own f s n row [] = refl
locks_own f s n row (e ∷ trace) =
    let rest = own_entries client_in n trace in
    elim (eqb_tells e.client n) [
      | inl same ↦
          locks_own f (after_event f s e) n row trace
          ∙ ap (λ k. holds_left row k (is_exclusive (lock_of (after_event f s e) n row)) rest) (levels_step f s n e ∙ own_one n e (e.client == n) (depth_of s n) same.0)
          ∙ ap (λ h. holds_left row (cond (is_success e.answer) (levels_after (depth_of s n) e.op) (depth_of s n)) h rest) (own_step f s e.client row e.op e.answer n (sym same.1))
          ∙ sym (ap (λ b. holds_left row (depth_of s n) (is_exclusive (lock_of s n row)) (cond b (e ∷ rest) rest)) same.0)
      | inr other ↦
          locks_own f (after_event f s e) n row trace
          ∙ ap (λ k. holds_left row k (is_exclusive (lock_of (after_event f s e) n row)) rest) (levels_step f s n e ∙ other_one n e (e.client == n) (depth_of s n) other.0)
          ∙ ap (λ h. holds_left row (depth_of s n) h rest) (other_step f s e.client row e.op e.answer n (λ is. other.1 (sym is)))
          ∙ sym (ap (λ b. holds_left row (depth_of s n) (is_exclusive (lock_of s n row)) (cond b (e ∷ rest) rest)) other.0)
    ]

-- ---- the law

some_true : (o : Option Bool) → (o ≡ Some true) ↔ (is_exclusive o ≡ true)
some_true None = (λ e. cc, λ e. cc)
some_true (Some true) = (λ e. refl, λ e. refl)
some_true (Some false) = (λ e. cc, λ e. cc)

none_held : (contents : Contents) (n row : ℕ) → is_exclusive (lock_of (opened contents) n row) ≡ false
none_held contents n row = ap is_exclusive (get-empty nat_cmp row)

pub exclusive_own : (f : Setting) (contents : Contents) (n : ℕ) (trace : List Event) (row : ℕ) → HoldsExclusively (left_by f contents trace) n row ↔ holds (own_entries client_in n trace) row ≡ true
exclusive_own f contents n trace row =
    let own = own_entries client_in n trace in
    let told : is_exclusive (lock_of (left_by f contents trace) n row) ≡ holds own row = locks_own f (opened contents) n row trace ∙ ap (λ h. holds_left row 0 h own) (none_held contents n row) in
    let some = some_true (lock_of (left_by f contents trace) n row) in
    (λ h. sym told ∙ some.0 h, λ h. some.1 (told ∙ h))
