-- The rows of the table of answers that a Lock can come to.
use Rattle.std.proofs.Common.{◌≡◌, ◌≢◌, ◌⊎◌, ℕ, Bool, true, false, List, [], ◌∷◌, length, Option, Some, None, IsSomeAnd, MatchOption, Result, Ok, Err, IfOk, refl, sym, ap, ◌∙◌, subst, inl, inr, arith}
use Rattle.std.specs.Prelude.{IsTrue, IsFalse}
use Rattle.std.specs.List.{Contains}
use Rattle.std.specs.FinMap.{get}
use Rattle.std.proofs.lemmas.Bool.{cases_lt}
use Rattle.std.proofs.lemmas.Option.{slice_get_past}
use Rattle.abl_base.specs.declared.row.RowId.{RowId}
use Rattle.abl_values.specs.Schema.{SchemaData}
use Rattle.database_meaning.specs.declared.state.StoredRow.{StoredRow}
use Rattle.database_meaning.specs.declared.state.Key.{Key}
use Rattle.database_meaning.specs.declared.state.BlockedRequest.{BlockedRequest}
use Rattle.database_protocol.specs.declared.operation.Op.{Op}
use Rattle.database_protocol.specs.declared.operation.Op.TheVariants.{Lock, Insert, Put, NextValue}
use Rattle.database_protocol.specs.declared.answer.Answer.TheVariants.{Gone, Busy, Blocked, Deadlock, Granted}
use Rattle.database_meaning.specs.Setting.{Setting, unique_keys, has_key}
use Rattle.database_meaning.specs.State.{State, Held, view}
use Rattle.database_meaning.specs.Waiting.{LocksConflict, ReservesEntered, Conflicts, HasConflict, IsHolders, ListsAll, WaitsFor, WouldWait, Chain, IsCycleFrom, Closes, IsCycle, row_in}
use Rattle.database_meaning.specs.Answers.{FromGone, IsThere, HasTooLongKey, HasDuplicates}
use Rattle.database_meaning.proofs.Chains.{chain_map}
use Rattle.record_locks.specs.declared.locks.BlockedLock.{BlockedLock}
use Rattle.record_locks.specs.declared.locks.Client.{Client as LockClient}
use Rattle.record_locks.specs.declared.locks.KeyWait.{KeyWait}
use Rattle.record_locks.specs.Requests.{HasConflict as LockedAgainst}
use Rattle.record_locks.specs.Table.{ConflictsOnLock, WaitsForKey, Waits, WaitsAgainst}
use Rattle.row_store.specs.Rows.{RowState, IsObservable, IsConsistent}
use Rattle.row_store.specs.Questions.{ReservesAgainst, table_in, table_at}
use Rattle.db_core.specs.declared.control.Control.{Control}
use Rattle.db_core.specs.Represents.{Represents, IsSound, lock_asked, blocked_lock, blocked_at, blocked_in}
use Rattle.db_core.specs.Waits.{MeetsReserved, WaitsByKey, ListsWaits}
use Rattle.db_core.proofs.Views.{rows_viewed}

module _ (f : Setting) (rows : RowState) (control : Control) (s : State) (represents : Represents f rows control s) (sound : IsSound rows control) (settled : IsConsistent rows) (seen : IsObservable rows) where
  -- ---- conflicts

  -- whose lock conflicts, by the table of locks and by the state
  to_state : (a row b : ℕ) (exclusive : Bool) → ConflictsOnLock control.locks a row exclusive b → (b ≢ a) × LocksConflict (get (s.client b).held row) exclusive
  to_state a row b exclusive h = (h.0, subst (λ (m : Held). LocksConflict (get m row) exclusive) (represents.client b).held h.1)

  from_state : (a row b : ℕ) (exclusive : Bool) → (b ≢ a) × LocksConflict (get (s.client b).held row) exclusive → ConflictsOnLock control.locks a row exclusive b
  from_state a row b exclusive h = (h.0, subst (λ (m : Held). LocksConflict (get m row) exclusive) (sym (represents.client b).held) h.1)

  reserver_to : (a b : ℕ) (old new : Option StoredRow) → ReservesAgainst rows a old new b → (b ≢ a) × ReservesEntered f s b old new
  reserver_to a b old new h =
      let same : SchemaData → Type 0 = λ schema. IsTrue (has_key (unique_keys schema new) h.1.0) × IsFalse (has_key (unique_keys schema old) h.1.0) in
      let keys : same f.schema = subst same (sym represents.schema) (h.1.1, h.1.2) in
      (h.0, (h.1.0, keys.0, keys.1, sym ((represents.client b).reserved seen.0 h.1.0) ∙ h.1.3))

  reserver_from : (a b : ℕ) (old new : Option StoredRow) → (b ≢ a) × ReservesEntered f s b old new → ReservesAgainst rows a old new b
  reserver_from a b old new h =
      let same : SchemaData → Type 0 = λ schema. IsTrue (has_key (unique_keys schema new) h.1.0) × IsFalse (has_key (unique_keys schema old) h.1.0) in
      let keys : same rows.schema = subst same represents.schema (h.1.1, h.1.2) in
      (h.0, (h.1.0, keys.0, keys.1, (represents.client b).reserved seen.0 h.1.0 ∙ h.1.3))

  viewed : (k : ℕ) → rows.rows k ≡ view f s k
  viewed = rows_viewed f rows control s represents sound settled seen

  -- a blocked operation waits by a lock or by a key
  abbrev ByLock : Option BlockedLock → ℕ → ℕ → Type 0
  ByLock blocked a b = IsSomeAnd blocked (λ w. ConflictsOnLock control.locks a w.row.0 w.exclusive b)

  pub op_to : (a b : ℕ) (op : Op) → Conflicts f s a op b → ByLock (lock_asked op) a b ⊎ MeetsReserved rows a op b
  op_to a b (Lock table row exclusive wait) h = inl (from_state a row.0 b exclusive h)
  op_to a b (Insert table values) h = inr (reserver_from a b None (row_in table values) h)
  op_to a b (Put table row values) h =
      inr (reserver_from a b (rows.rows row.0) (row_in table values) (subst (λ (o : Option StoredRow). (b ≢ a) × ReservesEntered f s b o (row_in table values)) (sym (viewed row.0)) h))
  op_to a b _ h = absurd h

  pub op_from : (a b : ℕ) (op : Op) → ByLock (lock_asked op) a b ⊎ MeetsReserved rows a op b → Conflicts f s a op b
  op_from a b (Lock table row exclusive wait) h = elim h [ inl l ↦ to_state a row.0 b exclusive l | inr k ↦ absurd k ]
  op_from a b (Insert table values) h = elim h [ inl l ↦ absurd l | inr k ↦ reserver_to a b None (row_in table values) k ]
  op_from a b (Put table row values) h = elim h [
    | inl l ↦ absurd l
    | inr k ↦ subst (λ (o : Option StoredRow). (b ≢ a) × ReservesEntered f s b o (row_in table values)) (viewed row.0) (reserver_to a b (rows.rows row.0) (row_in table values) k)
  ]
  op_from a b _ h = elim h [ inl l ↦ absurd l | inr k ↦ absurd k ]

  -- ---- waiting

  request_to : (a b : ℕ) (blocked : Option BlockedRequest) → (s.client a).blocked ≡ blocked → WaitsFor f s a b → ByLock (blocked_lock blocked) a b ⊎ WaitsByKey rows a blocked b
  request_to a b None is (op, (w, e, same), h) = cc
  request_to a b (Some v) is (op, (w, e, same), h) =
      let v_is : v ≡ w = (let both : Some v ≡ Some w = sym is ∙ e in cc) in
      op_to a b v.op (subst (λ (o : Op). Conflicts f s a o b) (sym (ap (λ (x : BlockedRequest). x.op) v_is ∙ same)) h)

  request_from : (a b : ℕ) (blocked : Option BlockedRequest) → (s.client a).blocked ≡ blocked → ByLock (blocked_lock blocked) a b ⊎ WaitsByKey rows a blocked b → WaitsFor f s a b
  request_from a b None is h = elim h [ inl l ↦ absurd l | inr k ↦ absurd k ]
  request_from a b (Some v) is h = (v.op, (v, is, refl), op_from a b v.op h)

  module _ (c : ℕ) (keyed : List KeyWait) (lists : ListsWaits rows control c (length control.sessions.items) keyed) where
    waits_to : (a b : ℕ) → a ≢ c → WaitsFor f s a b → Waits control.locks keyed a b
    waits_to a b ne h =
        elim (request_to a b (s.client a).blocked refl h) [
          | inl lock ↦ inl (subst (λ (w : Option BlockedLock). ByLock w a b) (sym (represents.client a).waits) lock)
          | inr key ↦ inr (by_key (subst (λ (w : Option BlockedRequest). WaitsByKey rows a w b) (sym ((represents.client a).blocked seen.0)) key))
        ]
      where
        by_key : WaitsByKey rows a (blocked_at control a) b → WaitsForKey keyed a b
        by_key key = elim (cases_lt a (length control.sessions.items)) [
          | inl lt ↦ lists.all a b lt ne key
          | inr past ↦ absurd (subst (λ (w : Option BlockedRequest). WaitsByKey rows a w b) (ap blocked_in (slice_get_past control.sessions.items a past)) key)
        ]

    waits_from : (a b : ℕ) → Waits control.locks keyed a b → WaitsFor f s a b
    waits_from a b h =
        request_from a b (s.client a).blocked refl (elim h [
          | inl lock ↦ inl (subst (λ (w : Option BlockedLock). ByLock w a b) (represents.client a).waits lock)
          | inr key ↦ inr (subst (λ (w : Option BlockedRequest). WaitsByKey rows a w b) ((represents.client a).blocked seen.0) (lists.sound a b key))
        ])

    -- ---- the operation of client c, and who conflicts with it

    module _ (op : Op) (against : List ℕ) (holders : IsHolders f s c op against) where
      would_to : (a b : ℕ) → WouldWait f s c op a b → WaitsAgainst control.locks keyed c against a b
      would_to a b h = elim h [ inl asks ↦ inl (asks.0, (holders.1 b).1 asks.1) | inr other ↦ inr (other.0, waits_to a b other.0 other.1) ]

      would_from : (a b : ℕ) → WaitsAgainst control.locks keyed c against a b → WouldWait f s c op a b
      would_from a b h = elim h [ inl asks ↦ inl (asks.0, (holders.1 b).0 asks.1) | inr other ↦ inr (other.0, waits_from a b other.1) ]

      pub never_closes : ((others : List ℕ) → ¬ Chain (WaitsAgainst control.locks keyed c against) c others c) → ¬ Closes f s c op
      never_closes none (others, chain) = none others (chain_map (WouldWait f s c op) (WaitsAgainst control.locks keyed c against) would_to c others c chain)

      pub closes_so : (cycle : List ℕ) → IsCycleFrom (WaitsAgainst control.locks keyed c against) c cycle → IsCycle f s c op cycle
      closes_so [] is = absurd is
      closes_so (first ∷ others) is = (is.0, is.1, chain_map (WaitsAgainst control.locks keyed c against) (WouldWait f s c op) would_from c others c is.2)

  -- ---- a Lock

  module _ (c table : ℕ) (row : RowId) (exclusive wait : Bool) (against : List ℕ) (lists : ListsAll against (ConflictsOnLock control.locks c row.0 exclusive)) where
    abbrev op : Op
    op = Lock table row exclusive wait

    pub lock_holders : IsHolders f s c op against
    lock_holders = (lists.0, (λ d. ((λ has. to_state c row.0 d exclusive ((lists.1 d).0 has)), λ conflict. (lists.1 d).1 (from_state c row.0 d exclusive conflict))))

    head_in : (xs : List ℕ) → length xs ≢ 0 → (d : ℕ) × Contains xs d
    head_in [] ne = absurd (ne refl)
    head_in (x ∷ xs) ne = (x, (0, omega arith, refl))

    some_conflict : length against ≢ 0 → HasConflict f s c op
    some_conflict ne = let first = head_in against ne in (first.0, (lock_holders.1 first.0).0 first.1)

    no_conflict : length against ≡ 0 → ¬ HasConflict f s c op
    no_conflict none p = let has = (lock_holders.1 p.0).1 p.1 in absurd (omega (arith, has.1))

    never_long : ¬ HasTooLongKey f op
    never_long h = h.1

    no_key : (schema : SchemaData) (k : Key) → ¬ IsTrue (has_key (unique_keys schema None) k)
    unfolding unique_keys
    no_key schema k h = let clash : false ≡ true = h in cc

    no_duplicate : ¬ HasDuplicates f s op
    no_duplicate h = no_key f.schema h.2.0.0 h.2.0.2

    pub busy_row : length against ≢ 0 → wait ≡ false → FromGone f s c op (Busy against)
    busy_row some idle =
        let conflict = some_conflict some in
        inr ((λ gone. gone.1 conflict), inr (never_long, inl ((conflict, (λ may. let clash : false ≡ true = sym idle ∙ may in cc)), (against, lock_holders, refl))))

    module _ (some : length against ≢ 0) (waits : wait ≡ true) (keyed : List KeyWait) (waiting : ListsWaits rows control c (length control.sessions.items) keyed) where
      pub blocked_row : ((others : List ℕ) → ¬ Chain (WaitsAgainst control.locks keyed c against) c others c) → FromGone f s c op (Blocked against)
      blocked_row none =
          let conflict = some_conflict some in
          inr ((λ gone. gone.1 conflict), inr (never_long, inr ((λ p. p.1 waits), inl ((conflict, never_closes c keyed waiting op against lock_holders none), (against, lock_holders, refl)))))

      pub deadlock_row : (cycle : List ℕ) → IsCycleFrom (WaitsAgainst control.locks keyed c against) c cycle → FromGone f s c op (Deadlock cycle)
      deadlock_row cycle is =
          let conflict = some_conflict some in
          let found : IsCycle f s c op cycle = closes_so c keyed waiting op against lock_holders cycle is in
          inr ((λ gone. gone.1 conflict), inr (never_long, inr ((λ p. p.1 waits), inr ((λ p. p.1 (closing cycle found)), inl (conflict, (cycle, found, refl))))))
        where
          closing : (cycle : List ℕ) → IsCycle f s c op cycle → Closes f s c op
          closing [] h = absurd h
          closing (first ∷ others) h = (others, h.2)

    -- ---- nobody conflicts with it

    there_from : (o : Option StoredRow) → view f s row.0 ≡ o → table_in o ≡ Some table → IsThere f s table row.0
    there_from None is e = cc
    there_from (Some r) is e = (r, is, (cc))

    there_to : IsThere f s table row.0 → table_at rows.rows row.0 ≡ Some table
    there_to (r, is, e) = ap table_in (viewed row.0 ∙ is) ∙ ap Some e

    pub gone_row : length against ≡ 0 → table_at rows.rows row.0 ≢ Some table → FromGone f s c op Gone
    gone_row none apart = inl (((λ there. apart (there_to there)), no_conflict none), refl)

    pub granted_row : length against ≡ 0 → table_at rows.rows row.0 ≡ Some table → FromGone f s c op Granted
    granted_row none is =
        let there = there_from (view f s row.0) refl (ap table_in (sym (viewed row.0)) ∙ is) in
        let alone = no_conflict none in
        inr ((λ gone. gone.0 there), inr (never_long, inr ((λ p. alone p.0), inr ((λ p. alone p.0), inr (alone, inr (no_duplicate, inr ((λ p. p.0), inr ((λ p. p.0), inr ((λ p. let clash : op ≡ NextValue p.0 = p.1 in cc), inr ((λ p. p.0), refl))))))))))

pub ok_more : {A E : Type 0} (r : Result A E) (P Q : A → Type 0) → ((a : A) → P a → Q a) → IfOk r P → IfOk r Q
ok_more (Ok a) P Q more h = more a h
ok_more (Err e) P Q more h = h

pub found_none : (found : Option (List ℕ)) (R : Type 0) (P : List ℕ → Type 0) → found ≡ None → MatchOption found R P → R
found_none None R P e h = h
found_none (Some x) R P e h = cc

pub found_some : (found : Option (List ℕ)) (x : List ℕ) (R : Type 0) (P : List ℕ → Type 0) → found ≡ Some x → MatchOption found R P → P x
found_some None x R P e h = cc
found_some (Some y) x R P e h = let same : y ≡ x = cc in subst P same h

-- where no client is listed, no lock conflicts
pub no_lock : (table : List LockClient) (c row : ℕ) (exclusive : Bool) (against : List ℕ) → ListsAll against (ConflictsOnLock table c row exclusive) → length against ≡ 0 → ¬ LockedAgainst table c row exclusive
no_lock table c row exclusive against lists none p = let has = (lists.1 p.0).1 p.1 in absurd (omega (arith, has.1))
