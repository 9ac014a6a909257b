-- The Leave of the outermost level.
use Rattle.std.proofs.Common.{◌≡◌, ◌≢◌, ℕ, ◌+◌, ◌==◌, ◌-◌, ◌&&◌, ◌||◌, ◌↔◌, not, take, is_some, Bool, true, false, cond, List, [], ◌∷◌, map, Option, Some, None, refl, sym, ap, ◌∙◌, subst, inl, inr, arith}
use Rattle.std.specs.Prelude.{IsTrue, IsFalse, ℤ}
use Rattle.std.specs.List.{list_any}
use Rattle.std.specs.Ordering.{nat_cmp, eq_by_cmp}
use Rattle.std.specs.Cmp.{nat_cmp_total}
use Rattle.std.specs.FinMap.{get, find, entries, retain_keys, contains_key, same_map, get-entries, get-from_entries, get-retain_keys, get-empty, empty, nat_cmp-IsAntisymmetric}
use Rattle.std.proofs.lemmas.Bool.{cases_eq}
use Rattle.abl_base.specs.declared.row.RowId.{RowId}
use Rattle.database_meaning.specs.declared.state.Key.{Key}
use Rattle.database_meaning.specs.declared.state.StoredRow.{StoredRow}
use Rattle.database_protocol.specs.declared.operation.Op.TheVariants.{Leave}
use Rattle.database_protocol.specs.declared.answer.Answer.TheVariants.{Committed}
use Rattle.database_meaning.specs.Setting.{Setting}
use Rattle.database_meaning.specs.State.{State, Client, Held, Rows as Stored, over, depth_of}
use Rattle.database_meaning.specs.Steps.{after, committed_after, held_after_commit, as_share, is_empty, is_in, is_outermost, laid_on, stays}
use Rattle.database_meaning.proofs.Maps.{get_laid_on}
use Rattle.record_locks.specs.declared.locks.Client.{Client as LockClient}
use Rattle.record_locks.specs.Settled.{IsFreed, has_row, settled}
use Rattle.record_locks.specs.Table.{client_of, lock_of, AreApart}
use Rattle.row_store.specs.Changes.{RowsById, has_change, change_at}
use Rattle.row_store.specs.Rows.{RowState, Durable, IsObservable, IsConsistent, Commits, joined, no_transaction}
use Rattle.db_core.specs.declared.control.Control.{Control}
use Rattle.db_core.specs.Represents.{Represents, IsSound, IsClient, marks_at, blocked_at}
use Rattle.db_core.specs.Moves.{Settles}
use Rattle.db_core.proofs.Sound.{sound_more, open_as}
use Rattle.db_core.proofs.Frees.{reserved_some, settled_some as settled_any}
use Rattle.db_core.proofs.Clients.{client_stays, client_as, all_clients, untouched_where_held}

-- ---- locks that become share locks

shared : Option Bool → Option Bool
shared None = None
shared (Some b) = Some false

shared_cond : (b : Bool) (v : Bool) (o : Option Bool) → cond b (Some false) (shared o) ≡ shared (cond b (Some v) o)
unfolding shared
shared_cond true v o = refl
shared_cond false v o = refl

find_shared : (es : List (ℕ × Bool)) (q : ℕ) → find nat_cmp q (map {B = ℕ × Bool} (λ e. (e.0, false)) es) ≡ shared (find nat_cmp q es)
unfolding shared
find_shared [] q = refl
find_shared (x ∷ es) q = ap (λ (o : Option Bool). cond (eq_by_cmp nat_cmp q x.0) (Some false) o) (find_shared es q) ∙ shared_cond (eq_by_cmp nat_cmp q x.0) x.1 (find nat_cmp q es)

get_shared : (held : Held) (q : ℕ) → get (as_share held) q ≡ shared (get held q)
get_shared held q = get-from_entries nat_cmp_total _ q ∙ (find_shared (entries held) q ∙ ap shared (sym (get-entries held q)))

settled_shared : (b : Bool) (o : Option Bool) → settled b o ≡ shared (cond b o None)
unfolding shared
settled_shared true None = refl
settled_shared true (Some v) = refl
settled_shared false o = refl

pub get_kept : (rows : Stored) (keep : List RowId) (held : Held) (q : ℕ) → get (held_after_commit rows keep held) q ≡ settled (stays rows keep q) (get held q)
get_kept rows keep held q =
    get_shared (retain_keys held (stays rows keep)) q
    ∙ (ap shared (get-retain_keys held (stays rows keep) q (λ x e. ap (stays rows keep) (sym (nat_cmp-IsAntisymmetric q x e)))) ∙ sym (settled_shared (stays rows keep q) (get held q)))

settled_some : (b : Bool) (o : Option Bool) (v : Bool) → settled b o ≡ Some v → (b ≡ true) × (u : Bool) × (o ≡ Some u)
settled_some true None v e = cc
settled_some true (Some u) v e = (refl, u, refl)
settled_some false o v e = cc

same_settled : (a b : Bool) (o : Option Bool) → ((v : Bool) → o ≡ Some v → a ≡ b) → settled a o ≡ settled b o
same_settled a b None same = nothing a ∙ sym (nothing b)
  where
    nothing : (c : Bool) → settled c None ≡ None
    nothing true = refl
    nothing false = refl
same_settled a b (Some v) same = ap (λ (c : Bool). settled c (Some v)) (same v refl)

settled_nothing : (b : Bool) → settled b None ≡ None
settled_nothing true = refl
settled_nothing false = refl

never_true : (b : Bool) (o : Option Bool) → settled b o ≡ Some true → ⊥
never_true true None e = cc
never_true true (Some v) e = cc
never_true false o e = cc

both_true : (a b : Bool) → IsTrue (a && b) → IsTrue b
both_true true b h = h
both_true false b h = cc

-- the committed rows after the client's commit, and the rows that it holds
module _ (f : Setting) (rows : RowState) (control : Control) (s : State) (c : ℕ) (keep : List RowId) (settled_so : IsConsistent rows) (represents : Represents f rows control s) (outermost : is_outermost s c ≡ true) where
  abbrev laid_rows : Stored
  laid_rows = committed_after s c (Leave keep)

  over_changed : (b : Bool) (row below : Option StoredRow) → over (cond b (Some row) None) below ≡ cond b row below
  over_changed true row below = refl
  over_changed false row below = refl

  -- the committed rows are what the store then has committed
  pub laid_rows_are : IsObservable rows → (k : ℕ) → get laid_rows k ≡ joined (rows.transaction c).changes rows.rows rows.committed k
  laid_rows_are seen k =
      ap (λ (b : Bool). get (cond b (laid_on (entries (s.client c).overlay) s.committed) s.committed) k) outermost
      ∙ (get_laid_on (entries (s.client c).overlay) s.committed k
      ∙ (ap (λ (o : Option (Option StoredRow)). over o (get s.committed k)) (sym (get-entries (s.client c).overlay k) ∙ (represents.client c).overlay seen k)
      ∙ (ap (over (change_at rows.rows (rows.transaction c).changes k)) (represents.committed seen.0 k)
      ∙ over_changed (has_change (rows.transaction c).changes k) (rows.rows k) (rows.committed k))))

  -- a row that the client holds is as it is then committed
  pub held_rows_stay : IsObservable rows → (k : ℕ) (b : Bool) → get (s.client c).held k ≡ Some b → (n : Bool) → has_change (rows.transaction c).changes k ≡ n → get laid_rows k ≡ rows.rows k
  held_rows_stay seen k b held true is = laid_rows_are seen k ∙ ap (λ (n : Bool). cond n (rows.rows k) (rows.committed k)) is
  held_rows_stay seen k b held false is =
      let none : (d : ℕ) → IsFalse (has_change (rows.transaction d).changes k) = λ d. elim (cases_eq d c) [
        | inl same ↦ subst (λ (e : ℕ). has_change (rows.transaction e).changes k ≡ false) (sym same) is
        | inr ne ↦ untouched d ne (has_change (rows.transaction d).changes k) refl
      ] in
      laid_rows_are seen k ∙ (ap (λ (n : Bool). cond n (rows.rows k) (rows.committed k)) is ∙ sym (settled_so.base seen k none))
    where
      untouched : (d : ℕ) → d ≢ c → (n : Bool) → has_change (rows.transaction d).changes k ≡ n → has_change (rows.transaction d).changes k ≡ false
      untouched d ne true e =
          let touched = settled_so.touched d k e in
          let free = untouched_where_held f rows control s represents seen d c k b (λ same. ne (sym same)) held in
          let clash : true ≡ false = sym touched ∙ free in
          cc
      untouched d ne false e = e

module _ (f : Setting) (rows new : RowState) (control now : Control) (s : State) (c : ℕ) (keep staying : List RowId) (moment : ℕ)
    (sound : IsSound rows control) (settled_so : IsConsistent rows) (fine : rows.failed ≡ false) (commits : Commits rows new c control.sequences.items) (settles : Settles control c staying now)
    (represents : Represents f rows control s) (outermost : is_outermost s c ≡ true)
    (right : (k : ℕ) (b : Bool) → get (s.client c).held k ≡ Some b → has_row staying k ≡ stays (committed_after s c (Leave keep)) keep k) where
  abbrev laid : Stored
  laid = committed_after s c (Leave keep)

  was_observable : IsTrue new.observable → IsObservable rows
  was_observable observable = (sym commits.observable ∙ observable, fine)

  was : IsObservable new → IsObservable rows
  was seen = was_observable seen.0

  -- the committed rows are what the store then has committed
  laid_is : IsObservable rows → (k : ℕ) → get laid k ≡ joined (rows.transaction c).changes rows.rows rows.committed k
  laid_is = laid_rows_are f rows control s c keep settled_so represents outermost

  abbrev own : Client
  own = record { overlay = empty; levels = []; reserved_keys = []; drawn = 0; written = 0; held = held_after_commit laid keep (s.client c).held; blocked = None }

  held_is : (client_of now.locks c).held ≡ own.held
  held_is =
      same_map nat_cmp_total nat_cmp-IsAntisymmetric _ _
      (λ k.
      settles.own_lock k
      ∙ (ap (λ (m : Held). settled (has_row staying k) (get m k)) (represents.client c).held
      ∙ (same_settled (has_row staying k) (stays laid keep k) (get (s.client c).held k) (λ v e. right k v e) ∙ sym (get_kept laid keep (s.client c).held k))))

  -- a row that the client holds is as it is then committed
  held_represents : IsObservable rows → (k : ℕ) (b : Bool) → get (s.client c).held k ≡ Some b → (n : Bool) → has_change (rows.transaction c).changes k ≡ n → get laid k ≡ rows.rows k
  held_represents = held_rows_stay f rows control s c keep settled_so represents outermost

  contained : (m : Stored) (k : ℕ) → get m k ≡ None → IsTrue (contains_key m k) → ⊥
  contained m k e h =
      let none : is_some (get m k) ≡ false = ap is_some e in
      let clash : true ≡ false = sym h ∙ none in
      cc

  own_client : IsClient new [] None (client_of now.locks c) no_transaction own
  own_client = record {
    held = held_is;
    waits = settles.own_wait;
    blocked = λ observable. refl;
    depth = refl;
    reserved = λ observable k. refl;
    drawn = λ seen. refl;
    written = λ seen. refl;
    overlay = λ seen k. get-empty nat_cmp k;
    copies = λ seen. tt;
    locked = λ seen k h. cc;
    there = λ seen k b held none. absurd (gone (was seen) k b held none);
  }
    where
      gone : IsObservable rows → (k : ℕ) (b : Bool) → get own.held k ≡ Some b → new.rows k ≡ None → ⊥
      gone seen k b held none =
          let parts = settled_some (stays laid keep k) (get (s.client c).held k) b (sym (get_kept laid keep (s.client c).held k) ∙ held) in
          let there : IsTrue (contains_key laid k) = both_true (is_in k keep) (contains_key laid k) parts.0 in
          let remains : get laid k ≡ rows.rows k = held_represents seen k parts.1 parts.2 (has_change (rows.transaction c).changes k) refl in
          contained laid k (remains ∙ (ap (λ (r : RowsById). r k) (sym commits.rows) ∙ none)) there

  abbrev pub left : State
  left = after f s c (Leave keep) (Committed moment)

  -- the client is as the definition says
  own_is : left.client ≡ (λ d. cond (d == c) own (s.client d))
  own_is = ap (λ (b : Bool). λ (d : ℕ). cond (d == c) (record (cond b (record own { blocked = (s.client c).blocked }) own_inner) { blocked = None }) (s.client d)) outermost
    where
      own_inner : Client
      own_inner = record (s.client c) { levels = take (depth_of s c - 1) (s.client c).levels }

  pub commit_represents : (IsTrue rows.observable → now.frees ≡ left.frees) → Represents f new now left
  commit_represents frees_is = record {
    schema = represents.schema ∙ sym commits.schema;
    clients = represents.clients ∙ sym settles.count;
    client = λ d.
        subst (λ (g : ℕ → Client). IsClient new (marks_at now d) (blocked_at now d) (client_of now.locks d) (new.transaction d) (g d)) (sym own_is)
        (all_clients new now s c own (client_as new _ _ _ _ _ _ _ _ own settles.own_marks settles.own_blocked refl commits.transaction.own own_client)
        (λ e ne. client_as new _ _ _ _ _ _ _ _ (s.client e) (settles.marks e ne) (settles.blocked e ne) (settles.lock e ne) (commits.transaction.others e ne)
        (client_stays rows new _ _ _ _ (s.client e) commits.observable commits.failed (settled_so.touched e) (λ seen k b held. ap (λ (r : RowsById). r k) commits.rows) (represents.client e))) d);
    apart = λ seen. settled_apart_of (represents.apart (was seen));
    committed = λ observable k. laid_is (was_observable observable) k ∙ ap (λ (d : Durable). d.rows k) (sym (commits.committed (was_observable observable)));
    sequences = ap (λ v. v.items) settles.sequences ∙ represents.sequences;
    frees = λ observable. frees_is (sym commits.observable ∙ observable);
  }
    where
      settled_apart_of : AreApart control.locks → AreApart now.locks
      settled_apart_of apart row a b ne e = elim (cases_eq a c) [
        | inl is ↦ absurd (never_true (has_row staying row) (lock_of control.locks c row) (sym (settles.own_lock row) ∙ subst (λ (d : ℕ). lock_of now.locks d row ≡ Some true) is e))
        | inr other ↦
            let none : lock_of control.locks b row ≡ None = apart row a b ne (sym (ap (λ (l : LockClient). get l.held row) (settles.lock a other)) ∙ e) in
            elim (cases_eq b c) [
              | inl is ↦
                  subst (λ (d : ℕ). lock_of now.locks d row ≡ None) (sym is)
                  (settles.own_lock row ∙ (ap (settled (has_row staying row)) (subst (λ (d : ℕ). lock_of control.locks d row ≡ None) is none) ∙ settled_nothing (has_row staying row)))
              | inr apart_too ↦ ap (λ (l : LockClient). get l.held row) (settles.lock b apart_too) ∙ none
            ]
      ]

  pub commit_frees : (freed reserved : Bool) (n : ℕ) → IsTrue rows.observable
      → (IsTrue freed ↔ ((row : ℕ) × IsFreed (has_row staying row) (lock_of control.locks c row))) → (IsTrue reserved ↔ ((k : Key) × IsTrue ((rows.transaction c).reserved k)))
      → n ≡ cond (reserved || freed) (control.frees + 1) control.frees → n ≡ left.frees
  commit_frees freed reserved n observable freed_iff reserved_iff is =
      let lock_freed : freed ≡ list_any (λ e. e.1 || not (stays laid keep e.0)) (entries (s.client c).held) =
      settled_any (s.client c).held (has_row staying) (stays laid keep) freed right
      (subst (λ (m : Held). IsTrue freed ↔ ((row : ℕ) × IsFreed (has_row staying row) (get m row))) (represents.client c).held freed_iff) in
      let some_key : reserved ≡ not (is_empty (s.client c).reserved_keys) = reserved_some (s.client c).reserved_keys reserved (rows.transaction c).reserved ((represents.client c).reserved observable) reserved_iff in
      is
      ∙ (ap (λ (m : ℕ). cond (reserved || freed) (m + 1) m) (represents.frees observable)
      ∙ (ap (λ (b : Bool). cond (b || freed) (s.frees + 1) s.frees) some_key
      ∙ (ap (λ (b : Bool). cond (not (is_empty (s.client c).reserved_keys) || b) (s.frees + 1) s.frees) lock_freed
      ∙ sym (ap (λ (b : Bool). cond (b && (not (is_empty (s.client c).reserved_keys) || list_any (λ e. e.1 || not (stays laid keep e.0)) (entries (s.client c).held))) (s.frees + 1) s.frees) outermost))))

-- the end of a transaction frees nothing that is counted in it
pub settles_counted : (old now : Control) (c n : ℕ) (staying : List RowId) → Settles old c staying now → Settles old c staying (record now { frees = n })
settles_counted old now c n staying h = record {
  own_marks = h.own_marks;
  own_blocked = h.own_blocked;
  own_lock = h.own_lock;
  own_wait = h.own_wait;
  marks = h.marks;
  blocked = h.blocked;
  lock = h.lock;
  count = h.count;
  sequences = h.sequences;
}

pub commit_sound : (rows new : RowState) (control now : Control) (c : ℕ) (sequences : List ℤ) (staying : List RowId) → Commits rows new c sequences → Settles control c staying now → IsSound rows control → IsSound new now
commit_sound rows new control now c sequences staying commits settles sound =
    sound_more rows new control now c
    (record { schema = commits.schema; transaction = commits.transaction.others; marks = settles.marks; blocked = settles.blocked })
    (open_as rows new now c [] None no_transaction commits.schema settles.own_marks settles.own_blocked commits.transaction.own (record { begun = refl; marks = omega arith; fits = tt }))
    sound

-- the state after the commit, with the frees counted
pub commit_counted : (f : Setting) (rows new : RowState) (control middle now : Control) (s : State) (c : ℕ) (keep staying : List RowId) (moment : ℕ)
    → IsSound rows control → IsConsistent rows → rows.failed ≡ false → Commits rows new c control.sequences.items → Settles control c staying middle
    → Represents f rows control s → is_outermost s c ≡ true
    → ((k : ℕ) (b : Bool) → get (s.client c).held k ≡ Some b → has_row staying k ≡ stays (committed_after s c (Leave keep)) keep k)
    → (freed reserved : Bool) → middle.frees ≡ control.frees
    → (IsTrue freed ↔ ((row : ℕ) × IsFreed (has_row staying row) (lock_of control.locks c row))) → (IsTrue reserved ↔ ((k : Key) × IsTrue ((rows.transaction c).reserved k)))
    → now ≡ record middle { frees = cond (reserved || freed) (middle.frees + 1) middle.frees } → Represents f new now (after f s c (Leave keep) (Committed moment))
commit_counted f rows new control middle now s c keep staying moment sound settled_so fine commits settles represents outermost right freed reserved frees freed_iff reserved_iff is =
    let n : ℕ = cond (reserved || freed) (middle.frees + 1) middle.frees in
    let counted : Settles control c staying (record middle { frees = n }) = settles_counted control middle c n staying settles in
    subst (λ (k : Control). Represents f new k (after f s c (Leave keep) (Committed moment))) (sym is)
    (commit_represents f rows new control (record middle { frees = n }) s c keep staying moment sound settled_so fine commits counted represents outermost right
    (λ observable.
    commit_frees f rows new control (record middle { frees = n }) s c keep staying moment sound settled_so fine commits counted represents outermost right freed reserved n observable freed_iff reserved_iff
    (ap (λ (m : ℕ). cond (reserved || freed) (m + 1) m) frees)))
