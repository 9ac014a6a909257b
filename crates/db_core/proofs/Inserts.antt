-- Inserting a row.
use Rattle.std.proofs.Common.{◌≡◌, ◌≢◌, ◌⊎◌, ℕ, zero, suc, ◌+◌, ◌-◌, ◌<◌, ◌==◌, ◌||◌, max, Bool, true, false, cond, eq-eqb, List, [], ◌∷◌, ◌++◌, length, take, drop, get_or, Option, Some, None, refl, sym, ap, ◌∙◌, subst, inl, inr, arith}
use Rattle.std.specs.Prelude.{IsTrue}
use Rattle.std.specs.List.{All}
use Rattle.std.specs.FinMap.{get, insert}
use Rattle.std.proofs.lemmas.Bool.{cases_eq, ne_eqb}
use Rattle.abl_base.specs.declared.row.RowId.{RowId}
use Rattle.abl_base.specs.declared.value.Value.{Value}
use Rattle.abl_values.specs.Schema.{SchemaData}
use Rattle.database_meaning.specs.declared.state.StoredRow.{StoredRow}
use Rattle.database_meaning.specs.declared.state.Key.{Key}
use Rattle.database_protocol.specs.declared.operation.Op.TheVariants.{Insert}
use Rattle.database_protocol.specs.declared.answer.Answer.TheVariants.{Inserted}
use Rattle.database_meaning.specs.Setting.{Setting, unique_keys, has_key, keys_without, same_key, fragments}
use Rattle.database_meaning.specs.State.{State, Client, Held, Overlay}
use Rattle.database_meaning.specs.Waiting.{row_in}
use Rattle.database_meaning.specs.Answers.{IsFresh}
use Rattle.database_meaning.specs.Steps.{after, reserving}
use Rattle.database_meaning.proofs.Maps.{get_insert_same, get_insert_other}
use Rattle.record_locks.specs.declared.locks.Client.{Client as LockClient}
use Rattle.record_locks.specs.Requests.{granted}
use Rattle.record_locks.specs.Table.{client_of, lock_of, AreApart}
use Rattle.row_store.specs.declared.store.RowChange.{RowChange}
use Rattle.row_store.specs.Changes.{RowsById, undone, has_change, change_at, IsOverlay, AreCopies}
use Rattle.row_store.specs.Rows.{RowState, RowTransaction, IsObservable, IsConsistent, IsFree, ChangesRow, with_change, is_moved}
use Rattle.row_store.proofs.Copies.{overlay_more, copies_more, with_row_other}
use Rattle.db_core.specs.declared.control.Control.{Control}
use Rattle.db_core.specs.Represents.{Represents, IsSound, IsClient, marks_at, blocked_at}
use Rattle.db_core.specs.Moves.{Grants}
use Rattle.db_core.proofs.Clients.{client_stays, client_as, still_observable, all_clients}

-- ---- keys

has_both : (xs ys : List Key) (k : Key) → has_key (xs ++ ys) k ≡ (has_key xs k || has_key ys k)
has_both [] ys k = refl
has_both (x ∷ xs) ys k = ap (λ (b : Bool). same_key x k || b) (has_both xs ys k) ∙ sym (assoc (same_key x k) (has_key xs k) (has_key ys k))
  where
    assoc : (a b c : Bool) → ((a || b) || c) ≡ (a || (b || c))
    assoc true b c = refl
    assoc false b c = refl

pub reserves_more : (f : Setting) (schema : SchemaData) (old new : Option StoredRow) (kept : List Key) (k : Key) (b : Bool) → f.schema ≡ schema → b ≡ has_key kept k → (is_moved schema old new k || b) ≡ has_key (reserving f old new kept) k
reserves_more f schema old new kept k b same is =
    let entered : List Key = keys_without (unique_keys f.schema new) (unique_keys f.schema old) in
    let left : List Key = keys_without (unique_keys f.schema old) (unique_keys f.schema new) in
    ap (λ (x : SchemaData). is_moved x old new k || b) (sym same)
    ∙ (ap (λ (x : Bool). (has_key entered k || has_key left k) || x) is
    ∙ (assoc (has_key entered k) (has_key left k) (has_key kept k)
    ∙ sym (has_both entered (left ++ kept) k ∙ ap (λ (x : Bool). has_key entered k || x) (has_both left kept k))))
  where
    assoc : (a b c : Bool) → ((a || b) || c) ≡ (a || (b || c))
    assoc true b c = refl
    assoc false b c = refl

pub granted_true : (o : Option Bool) → granted o true ≡ true
granted_true None = refl
granted_true (Some true) = refl
granted_true (Some false) = refl

none_or_some : (o : Option Bool) → ((b : Bool) → o ≡ Some b → ⊥) → o ≡ None
none_or_some None h = refl
none_or_some (Some b) h = absurd (h b refl)

or_true : (a b : Bool) → IsTrue (a || b) → IsTrue a ⊎ IsTrue b
or_true true b h = inl refl
or_true false b h = inr h

true_or : (a b : Bool) → IsTrue b → IsTrue (a || b)
true_or true b h = refl
true_or false b h = h

or_left_true : (a b : Bool) → IsTrue a → IsTrue (a || b)
or_left_true true b h = refl
or_left_true false b h = cc

is_false : (b : Bool) → (IsTrue b → ⊥) → b ≡ false
is_false true h = absurd (h refl)
is_false false h = refl

has_change_take : (changes : List RowChange) (n k : ℕ) → has_change changes k ≡ false → has_change (take n changes) k ≡ false
has_change_take changes zero k e = refl
has_change_take [] (suc n) k e = refl
has_change_take (c ∷ changes) (suc n) k e = parts (k == c.row) (has_change changes k) (has_change (take n changes) k) e (has_change_take changes n k)
  where
    parts : (a b d : Bool) → (a || b) ≡ false → (b ≡ false → d ≡ false) → (a || d) ≡ false
    parts true b d e h = cc
    parts false b d e h = h e

copies_none : (rows : RowsById) (changes : List RowChange) (marks : List ℕ) (copies : List Overlay) (k : ℕ) → has_change changes k ≡ false → AreCopies rows changes marks copies → All (λ copy. get copy k ≡ None) copies
copies_none rows changes [] [] k e h = λ i d lt. absurd (omega arith)
copies_none rows changes [] (copy ∷ copies) k e h = absurd h
copies_none rows changes (mark ∷ marks) [] k e h = absurd h
copies_none rows changes (mark ∷ marks) (copy ∷ copies) k e h = λ i d lt. at i d lt (copies_none rows changes marks copies k e h.1)
  where
    first : get copy k ≡ None
    first = h.0 k ∙ ap (λ (b : Bool). cond b (Some (undone (drop mark changes) rows k)) None) (has_change_take changes mark k e)

    at : (i : ℕ) (d : Overlay) → i < length (copy ∷ copies) → All (λ copy. get copy k ≡ None) copies → get (get_or (copy ∷ copies) i d) k ≡ None
    at zero d lt rest = first
    at (suc i) d lt rest = rest i d (omega arith)

-- a free identity is one that a new row may have
module _ (f : Setting) (rows : RowState) (control : Control) (s : State) (represents : Represents f rows control s) (settled : IsConsistent rows) (seen : IsObservable rows) (row : ℕ) (free : IsFree rows row) where
  not_held : (d : ℕ) (b : Bool) → get (s.client d).held row ≡ Some b → ⊥
  not_held d b held =
      let touched = (represents.client d).there seen row b held (free.empty seen) in
      let untouched : (rows.transaction d).touched row ≡ false = free.untouched d in
      let clash : true ≡ false = sym touched ∙ untouched in
      cc

  not_changed : (d : ℕ) → has_change (rows.transaction d).changes row ≡ false
  not_changed d = is_false _ (λ h. let clash : true ≡ false = sym (settled.touched d row h) ∙ free.untouched d in cc)

  pub free_is_fresh : IsFresh s row
  free_is_fresh = (
    free.from,
    free.below,
    represents.committed seen.0 row ∙ (sym (settled.base seen row not_changed) ∙ free.empty seen),
    λ d. (
      (represents.client d).overlay seen row ∙ ap (λ (b : Bool). cond b (Some (rows.rows row)) None) (not_changed d),
      none_or_some _ (not_held d),
      copies_none rows.rows (rows.transaction d).changes (marks_at control d) (s.client d).levels row (not_changed d) ((represents.client d).copies seen),
    ),
  )

module _ (rows new : RowState) (control now : Control) (c table : ℕ) (row : RowId) (values : List Value)
    (sound : IsSound rows control) (settled : IsConsistent rows) (fine : rows.failed ≡ false) (free : IsFree rows row.0)
    (changes : ChangesRow rows new c row.0 (row_in table values)) (grants : Grants control c row.0 true now) where
  abbrev value : Option StoredRow
  value = row_in table values

  was : IsObservable new → IsObservable rows
  was = still_observable rows new changes.base.observable changes.base.failed

  none_before : IsObservable rows → changes.before ≡ None
  none_before seen = changes.before_is seen ∙ free.empty seen

  row_stays : IsObservable rows → (k : ℕ) → k ≢ row.0 → new.rows k ≡ rows.rows k
  row_stays seen k ne = ap (λ (r : RowsById). r k) (changes.rows seen) ∙ with_row_other rows.rows row.0 value k ne

  module _ (f : Setting) (s : State) (represents : Represents f rows control s) where
    -- nobody holds the row
    unheld : IsObservable rows → (d : ℕ) (b : Bool) → get (s.client d).held row.0 ≡ Some b → ⊥
    unheld seen d b held =
        let touched = (represents.client d).there seen row.0 b held (free.empty seen) in
        let untouched : (rows.transaction d).touched row.0 ≡ false = free.untouched d in
        let clash : true ≡ false = sym touched ∙ untouched in
        cc

    pub is_fresh : IsObservable rows → IsFresh s row.0
    is_fresh seen = free_is_fresh f rows control s represents settled seen row.0 free

    abbrev own : Client
    own =
        record (s.client c) {
          overlay = insert (s.client c).overlay row.0 value;
          reserved_keys = reserving f None value (s.client c).reserved_keys;
          drawn = (s.client c).drawn + fragments value;
          written = (s.client c).written + fragments value;
          held = insert (s.client c).held row.0 true;
          blocked = None;
        }

    abbrev t : RowTransaction
    t = rows.transaction c

    own_client : IsClient new (marks_at control c) None (record { held = insert (client_of control.locks c).held row.0 (granted (lock_of control.locks c row.0) true); blocked = None }) (with_change rows.schema t row.0 changes.before value) own
    own_client =
        let h = represents.client c in
        let m = (sound.client c).marks in
        record {
          held = ap (λ (b : Bool). insert (client_of control.locks c).held row.0 b) (granted_true (lock_of control.locks c row.0)) ∙ ap (λ (x : Held). insert x row.0 true) h.held;
          waits = refl;
          blocked = λ observable. refl;
          depth = h.depth;
          reserved = λ observable k.
              let seen : IsObservable rows = (sym changes.base.observable ∙ observable, fine) in
              ap (λ (o : Option StoredRow). is_moved rows.schema o value k || t.reserved k) (none_before seen) ∙ reserves_more f rows.schema None value (s.client c).reserved_keys k (t.reserved k) represents.schema (h.reserved seen.0 k);
          drawn = λ seen. drawn_is (was seen) h.drawn;
          written = λ seen. written_is (was seen) h.written;
          overlay = λ seen.
              subst (λ (r : RowsById). IsOverlay own.overlay (change_at r (t.changes ++ record { row = row.0; old = changes.before } ∷ []))) (sym (changes.rows (was seen)))
              (overlay_more rows.rows t.changes row.0 changes.before value (s.client c).overlay (h.overlay (was seen)));
          copies = λ seen.
              subst (λ (r : RowsById). AreCopies r (t.changes ++ record { row = row.0; old = changes.before } ∷ []) (marks_at control c) (s.client c).levels) (sym (changes.rows (was seen)))
              (copies_more rows.rows t.changes row.0 changes.before value 0 (marks_at control c) (s.client c).levels (changes.before_is (was seen)) m (h.copies (was seen)));
          locked = λ seen k there. locked_at (was seen) k (or_true (k == row.0) (t.touched k) there);
          there = λ seen k b held none. there_at (was seen) k b held none (cases_eq k row.0);
        }
      where
        drawn_is : IsObservable rows → (IsObservable rows → t.drawn ≡ (s.client c).drawn) → t.drawn + (fragments value - fragments changes.before) ≡ (s.client c).drawn + fragments value
        drawn_is seen h = let none : fragments changes.before ≡ 0 = ap fragments (none_before seen) in let same : t.drawn ≡ (s.client c).drawn = h seen in omega arith

        written_is : IsObservable rows → (IsObservable rows → t.written ≡ (s.client c).written) → t.written + max (fragments value) (fragments changes.before) ≡ (s.client c).written + fragments value
        written_is seen h = let none : fragments changes.before ≡ 0 = ap fragments (none_before seen) in let same : t.written ≡ (s.client c).written = h seen in omega arith

        locked_at : IsObservable rows → (k : ℕ) → IsTrue (k == row.0) ⊎ IsTrue (t.touched k) → get (insert (s.client c).held row.0 true) k ≡ Some true
        locked_at seen k which = elim (cases_eq k row.0) [
          | inl is ↦ ap (get (insert (s.client c).held row.0 true)) is ∙ get_insert_same (s.client c).held row.0 true
          | inr ne ↦ elim which [
            | inl same ↦ let apart : (k == row.0) ≡ false = ne_eqb k row.0 ne in let clash : true ≡ false = sym same ∙ apart in cc
            | inr touched ↦ get_insert_other (s.client c).held row.0 true k ne ∙ (represents.client c).locked seen k touched
          ]
        ]

        there_at : IsObservable rows → (k : ℕ) (b : Bool) → get (insert (s.client c).held row.0 true) k ≡ Some b → new.rows k ≡ None → (k ≡ row.0) ⊎ (k ≢ row.0) → IsTrue ((k == row.0) || t.touched k)
        there_at seen k b held none (inl is) = or_left_true (k == row.0) (t.touched k) (eq-eqb k row.0 is)
        there_at seen k b held none (inr ne) =
            true_or (k == row.0) (t.touched k) ((represents.client c).there seen k b (sym (get_insert_other (s.client c).held row.0 true k ne) ∙ held) (sym (row_stays seen k ne) ∙ none))

    other_client : (d : ℕ) → d ≢ c → IsClient new (marks_at now d) (blocked_at now d) (client_of now.locks d) (new.transaction d) (s.client d)
    other_client d ne =
        client_as new _ _ _ _ _ _ _ _ (s.client d) (grants.client.marks d ne) (grants.client.blocked d ne) (grants.client.lock d ne) (changes.transaction.others d ne)
        (client_stays rows new _ _ _ _ (s.client d) changes.base.observable changes.base.failed (settled.touched d)
        (λ seen k b held. row_stays seen k (λ is. unheld seen d b (ap (get (s.client d).held) (sym is) ∙ held))) (represents.client d))

    locks_apart : IsObservable rows → AreApart now.locks
    locks_apart seen k a b ne e = elim (cases_eq a c) [
      | inl is ↦ elim (cases_eq k row.0) [
        | inl at ↦ subst (λ (q : ℕ). lock_of now.locks b q ≡ None) (sym at) (other_none b (λ same. ne (is ∙ sym same)))
        | inr off ↦ other_same b (λ same. ne (is ∙ sym same)) k ∙ represents.apart seen k a b ne (sym (subst (λ (d : ℕ). lock_of now.locks d k ≡ lock_of control.locks d k) (sym is) (own_off k off)) ∙ e)
      ]
      | inr apart ↦ elim (cases_eq b c) [
        | inl is ↦ elim (cases_eq k row.0) [
          | inl at ↦ let held : lock_of control.locks a k ≡ Some true = sym (other_same a apart k) ∙ e in
              absurd (unheld seen a true (ap (λ (m : Held). get m row.0) (sym (represents.client a).held) ∙ (ap (lock_of control.locks a) (sym at) ∙ held)))
          | inr off ↦ subst (λ (d : ℕ). lock_of now.locks d k ≡ lock_of control.locks d k) (sym is) (own_off k off) ∙ represents.apart seen k a b ne (sym (other_same a apart k) ∙ e)
        ]
        | inr other ↦ other_same b other k ∙ represents.apart seen k a b ne (sym (other_same a apart k) ∙ e)
      ]
    ]
      where
        other_same : (d : ℕ) → d ≢ c → (k : ℕ) → lock_of now.locks d k ≡ lock_of control.locks d k
        other_same d ne k = ap (λ (l : LockClient). get l.held k) (grants.client.lock d ne)

        other_none : (d : ℕ) → d ≢ c → lock_of now.locks d row.0 ≡ None
        other_none d ne = ap (λ (l : LockClient). get l.held row.0) (grants.client.lock d ne) ∙ none_or_some _ (λ b held. unheld seen d b (ap (λ (m : Held). get m row.0) (sym (represents.client d).held) ∙ held))

        own_off : (k : ℕ) → k ≢ row.0 → lock_of now.locks c k ≡ lock_of control.locks c k
        own_off k off = ap (λ (l : LockClient). get l.held k) grants.client.own_lock ∙ get_insert_other (client_of control.locks c).held row.0 (granted (lock_of control.locks c row.0) true) k off

    pub insert_represents : Represents f new now (after f s c (Insert table values) (Inserted row))
    insert_represents = record {
      schema = represents.schema ∙ sym changes.base.schema;
      clients = represents.clients ∙ sym grants.client.count;
      client = all_clients new now s c own (client_as new _ _ _ _ _ _ _ _ own grants.client.own_marks grants.client.own_blocked grants.client.own_lock changes.transaction.own own_client) other_client;
      apart = λ seen. locks_apart (was seen);
      committed = λ observable k. represents.committed (sym changes.base.observable ∙ observable) k ∙ ap (λ (r : RowsById). r k) (sym changes.base.committed);
      sequences = ap (λ v. v.items) grants.sequences ∙ represents.sequences;
      frees = λ observable. grants.frees ∙ represents.frees (sym changes.base.observable ∙ observable);
    }
