-- One represented client, over a change of the rows.
use Rattle.std.proofs.Common.{◌≡◌, ◌≢◌, ℕ, ◌==◌, Bool, true, false, cond, eq-eqb, List, Option, Some, None, refl, sym, ap, ◌∙◌, subst, inl, inr}
use Rattle.std.specs.Prelude.{IsTrue}
use Rattle.std.specs.FinMap.{get}
use Rattle.std.proofs.lemmas.Bool.{cases_eq, ne_eqb}
use Rattle.database_meaning.specs.declared.state.BlockedRequest.{BlockedRequest}
use Rattle.database_meaning.specs.Setting.{Setting}
use Rattle.database_meaning.specs.State.{State, Client, Held}
use Rattle.record_locks.specs.declared.locks.Client.{Client as LockClient}
use Rattle.record_locks.specs.Table.{client_of, lock_of}
use Rattle.row_store.specs.Changes.{has_change}
use Rattle.row_store.specs.Rows.{RowState, RowTransaction, IsObservable}
use Rattle.row_store.proofs.Copies.{change_same, copies_same}
use Rattle.db_core.specs.declared.control.Control.{Control}
use Rattle.db_core.specs.Represents.{Represents, IsClient, marks_at, blocked_at}

pub still_observable : (old new : RowState) → new.observable ≡ old.observable → new.failed ≡ old.failed → IsObservable new → IsObservable old
still_observable old new observable failed seen = (sym observable ∙ seen.0, sym failed ∙ seen.1)

-- a client none of whose held rows changed
pub client_stays : (old new : RowState) (open_levels : List ℕ) (request : Option BlockedRequest) (lock : LockClient) (t : RowTransaction) (c : Client) → new.observable ≡ old.observable → new.failed ≡ old.failed
    → ((k : ℕ) → IsTrue (has_change t.changes k) → IsTrue (t.touched k))
    → (IsObservable old → (k : ℕ) (b : Bool) → get c.held k ≡ Some b → new.rows k ≡ old.rows k) → IsClient old open_levels request lock t c → IsClient new open_levels request lock t c
client_stays old new open_levels request lock t c observable failed touched same h =
    let before : IsObservable new → IsObservable old = still_observable old new observable failed in
    let stays : IsObservable old → (k : ℕ) → IsTrue (has_change t.changes k) → new.rows k ≡ old.rows k = λ seen k there. same seen k true (h.locked seen k (touched k there)) in
    record {
      held = h.held;
      waits = h.waits;
      blocked = λ is. h.blocked (sym observable ∙ is);
      depth = h.depth;
      reserved = λ is k. h.reserved (sym observable ∙ is) k;
      drawn = λ seen. h.drawn (before seen);
      written = λ seen. h.written (before seen);
      overlay = λ seen k. h.overlay (before seen) k ∙ sym (change_same old.rows new.rows t.changes (stays (before seen)) k);
      copies = λ seen. copies_same old.rows new.rows t.changes open_levels c.levels (stays (before seen)) (h.copies (before seen));
      locked = λ seen k there. h.locked (before seen) k there;
      there = λ seen k b e none. h.there (before seen) k b e (sym (same (before seen) k b e) ∙ none);
    }

is_false : (b : Bool) → (IsTrue b → ⊥) → b ≡ false
is_false true h = absurd (h refl)
is_false false h = refl

-- what another client holds a client does not name
pub untouched_where_held : (f : Setting) (rows : RowState) (control : Control) (s : State) → Represents f rows control s → IsObservable rows → (c d k : ℕ) (b : Bool) → d ≢ c → get (s.client d).held k ≡ Some b → (rows.transaction c).touched k ≡ false
untouched_where_held f rows control s represents seen c d k b ne held =
    is_false ((rows.transaction c).touched k)
    (λ h.
    let mine : lock_of control.locks c k ≡ Some true = ap (λ (m : Held). get m k) (represents.client c).held ∙ (represents.client c).locked seen k h in
    let none : lock_of control.locks d k ≡ None = represents.apart seen k c d (λ e. ne (sym e)) mine in
    let theirs : lock_of control.locks d k ≡ Some b = ap (λ (m : Held). get m k) (represents.client d).held ∙ held in
    cc)

-- all clients, where one becomes another
pub all_clients : (rows : RowState) (control : Control) (s : State) (c : ℕ) (own : Client) → IsClient rows (marks_at control c) (blocked_at control c) (client_of control.locks c) (rows.transaction c) own
    → ((d : ℕ) → d ≢ c → IsClient rows (marks_at control d) (blocked_at control d) (client_of control.locks d) (rows.transaction d) (s.client d))
    → (d : ℕ) → IsClient rows (marks_at control d) (blocked_at control d) (client_of control.locks d) (rows.transaction d) (cond (d == c) own (s.client d))
all_clients rows control s c own at others d = elim (cases_eq d c) [
  | inl is ↦
      subst (λ (x : Client). IsClient rows (marks_at control d) (blocked_at control d) (client_of control.locks d) (rows.transaction d) x) (sym (ap (λ (b : Bool). cond b own (s.client d)) (eq-eqb d c is)))
      (subst (λ (e : ℕ). IsClient rows (marks_at control e) (blocked_at control e) (client_of control.locks e) (rows.transaction e) own) (sym is) at)
  | inr ne ↦
      subst (λ (x : Client). IsClient rows (marks_at control d) (blocked_at control d) (client_of control.locks d) (rows.transaction d) x) (sym (ap (λ (b : Bool). cond b own (s.client d)) (ne_eqb d c ne)))
      (others d ne)
]

-- the same, where its parts are written otherwise
pub client_as : (rows : RowState) (m n : List ℕ) (v w : Option BlockedRequest) (l k : LockClient) (t u : RowTransaction) (c : Client) → n ≡ m → w ≡ v → k ≡ l → u ≡ t → IsClient rows m v l t c → IsClient rows n w k u c
client_as rows m n v w l k t u c marks blocked lock transaction h =
    subst (λ (x : RowTransaction). IsClient rows n w k x c) (sym transaction)
    (subst (λ (x : LockClient). IsClient rows n w x t c) (sym lock)
    (subst (λ (x : Option BlockedRequest). IsClient rows n x l t c) (sym blocked)
    (subst (λ (x : List ℕ). IsClient rows x v l t c) (sym marks) h)))
