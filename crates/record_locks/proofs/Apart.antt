-- No change of the locks makes two clients hold a row where one of them holds it exclusively.
use Rattle.std.proofs.Common.{◌≡◌, ◌≢◌, ℕ, Bool, true, false, cond, List, Option, Some, None, inl, inr, refl, sym, ap, subst, ◌∙◌, nat_cmp}
use Rattle.std.specs.Ordering.{eq_by_cmp}
use Rattle.std.specs.Cmp.{nat_cmp_total}
use Rattle.std.specs.FinMap as map
use Rattle.std.proofs.lemmas.Bool.{cases_eq}
use Rattle.abl_base.specs.declared.row.RowId.{RowId}
use Rattle.database_meaning.specs.Waiting.{LocksConflict}
use Rattle.record_locks.specs.declared.locks.BlockedLock.{BlockedLock}
use Rattle.record_locks.specs.declared.locks.Client.{Client}
use Rattle.record_locks.specs.Settled.{has_row, settled}
use Rattle.record_locks.specs.Table.{client_of, lock_of, no_client, AreApart, OnlyChanges, Settles}
use Rattle.record_locks.specs.Requests.{HasConflict, granted}
use Rattle.record_locks.proofs.Settling.{same_at}
use Rattle.record_locks.proofs.Tables.{both}

-- locks that only go or become share locks stay apart
lessened_apart : (old new : List Client) → ((d row : ℕ) → lock_of new d row ≡ Some true → lock_of old d row ≡ Some true) → ((d row : ℕ) → lock_of old d row ≡ None → lock_of new d row ≡ None)
    → AreApart old → AreApart new
lessened_apart old new strict none apart row c d differ is = none d row (apart row c d differ (strict c row is))

-- the lock of a client that did not change
lock_kept : (old new : List Client) (d row : ℕ) → client_of new d ≡ client_of old d → lock_of new d row ≡ lock_of old d row
lock_kept old new d row same = ap (λ client. map.get client.held row) same

-- the same where one client alone changes
only_apart : (old new : List Client) (c : ℕ) (client : Client) → OnlyChanges old c client new
    → ((row : ℕ) → map.get client.held row ≡ Some true → lock_of old c row ≡ Some true) → ((row : ℕ) → lock_of old c row ≡ None → map.get client.held row ≡ None)
    → AreApart old → AreApart new
only_apart old new c client only strict none apart =
    let here : (row : ℕ) → lock_of new c row ≡ map.get client.held row = λ row. ap (λ changed. map.get changed.held row) only.changed in
    lessened_apart old new
    (λ d row is. elim (cases_eq d c) [
      | inl same ↦ subst (λ e. lock_of old e row ≡ Some true) (sym same) (strict row (sym (here row) ∙ subst (λ e. lock_of new e row ≡ Some true) same is))
      | inr differ ↦ sym (lock_kept old new d row (only.others d differ)) ∙ is
    ])
    (λ d row is. elim (cases_eq d c) [
      | inl same ↦ subst (λ e. lock_of new e row ≡ None) (sym same) (here row ∙ none row (subst (λ e. lock_of old e row ≡ None) same is))
      | inr differ ↦ lock_kept old new d row (only.others d differ) ∙ is
    ])
    apart

-- a client that holds what it held
pub kept_apart : (old new : List Client) (c : ℕ) (client : Client) → OnlyChanges old c client new → client.held ≡ (client_of old c).held → AreApart old → AreApart new
kept_apart old new c client only held apart =
    only_apart old new c client only (λ row is. sym (ap (λ h. map.get h row) held) ∙ is) (λ row is. ap (λ h. map.get h row) held ∙ is) apart

none_some : (exclusive : Bool) → None ≡ Some exclusive → ⊥
none_some exclusive is = cc

taken_strict : (b : Bool) (lock : Option Bool) → cond b None lock ≡ Some true → lock ≡ Some true
taken_strict true lock is = absurd (none_some true is)
taken_strict false lock is = is

pub released_apart : (old new : List Client) (c row : ℕ) → AreApart old → OnlyChanges old c (record { held = map.remove (client_of old c).held row; blocked = (client_of old c).blocked }) new → AreApart new
released_apart old new c row apart only =
    let left : (q : ℕ) → map.get (map.remove (client_of old c).held row) q ≡ cond (eq_by_cmp nat_cmp q row) None (lock_of old c q) = λ q. map.get-remove nat_cmp_total (client_of old c).held row q in
    only_apart old new c _ only (λ q is. taken_strict (eq_by_cmp nat_cmp q row) (lock_of old c q) (sym (left q) ∙ is)) (λ q is. left q ∙ both (eq_by_cmp nat_cmp q row) (lock_of old c q) is) apart

pub ended_apart : (old new : List Client) (c : ℕ) → AreApart old → OnlyChanges old c no_client new → AreApart new
ended_apart old new c apart only =
    only_apart old new c no_client only (λ row is. absurd (none_some true (sym (map.get-empty nat_cmp row) ∙ is))) (λ row is. map.get-empty nat_cmp row) apart

settled_strict : (kept : Bool) (lock : Option Bool) → settled kept lock ≡ Some true → ⊥
settled_strict false lock is = cc
settled_strict true None is = cc
settled_strict true (Some exclusive) is = cc

settled_nothing : (kept : Bool) → settled kept None ≡ None
settled_nothing true = refl
settled_nothing false = refl

pub settled_apart : (old new : List Client) (c : ℕ) (keep : List RowId) → AreApart old → Settles old c keep new → AreApart new
settled_apart old new c keep apart is =
    lessened_apart old new
    (λ d row lock. elim (cases_eq d c) [
      | inl same ↦ absurd (settled_strict (has_row keep row) (lock_of old c row) (sym (is.locks row) ∙ subst (λ e. lock_of new e row ≡ Some true) same lock))
      | inr differ ↦ sym (lock_kept old new d row (is.others d differ)) ∙ lock
    ])
    (λ d row none. elim (cases_eq d c) [
      | inl same ↦ subst (λ e. lock_of new e row ≡ None) (sym same) (is.locks row ∙ ap (settled (has_row keep row)) (subst (λ e. lock_of old e row ≡ None) same none) ∙ settled_nothing (has_row keep row))
      | inr differ ↦ lock_kept old new d row (is.others d differ) ∙ none
    ])
    apart

-- ---- a grant

-- where a client gets or has an exclusive lock without a conflict, no other holds the row
none_beside : (before : Option Bool) (exclusive : Bool) (other : Option Bool) → granted before exclusive ≡ true → (before ≡ Some true → other ≡ None) → (LocksConflict other exclusive → ⊥) → other ≡ None
none_beside before exclusive None is apart free = refl
none_beside before exclusive (Some true) is apart free = absurd (free tt)
none_beside None exclusive (Some false) is apart free = absurd (free is)
none_beside (Some true) exclusive (Some false) is apart free = apart refl
none_beside (Some false) exclusive (Some false) is apart free = absurd (free is)

-- the client's locks after a grant
now_held : (old new : List Client) (c row : ℕ) (lock : Bool) → OnlyChanges old c (record { held = map.insert (client_of old c).held row lock; blocked = None }) new
    → (q : ℕ) → lock_of new c q ≡ cond (eq_by_cmp nat_cmp q row) (Some lock) (lock_of old c q)
now_held old new c row lock only q = ap (λ client. map.get client.held q) only.changed ∙ map.get-insert nat_cmp_total (client_of old c).held row lock q

-- an exclusive lock of the client after a grant leaves no other lock on the row
own_alone : (old : List Client) (c row q : ℕ) (exclusive : Bool) → AreApart old → ¬ HasConflict old c row exclusive → (d : ℕ) → d ≢ c → (here : Bool) → eq_by_cmp nat_cmp q row ≡ here
    → cond here (Some (granted (lock_of old c row) exclusive)) (lock_of old c q) ≡ Some true → lock_of old d q ≡ None
own_alone old c row q exclusive apart free d differ true at is =
    let same : q ≡ row = same_at q row at in
    let strict : granted (lock_of old c row) exclusive ≡ true = cc in
    subst (λ r. lock_of old d r ≡ None) (sym same)
    (none_beside (lock_of old c row) exclusive (lock_of old d row) strict (λ before. apart row c d (λ e. differ (sym e)) before) (λ stands. free (d, (differ, stands))))
own_alone old c row q exclusive apart free d differ false at is = apart q c d (λ e. differ (sym e)) is

-- where another holds a row exclusively, the client does not get it
other_alone : (old : List Client) (c row q : ℕ) (exclusive : Bool) → AreApart old → ¬ HasConflict old c row exclusive → (d : ℕ) → d ≢ c → lock_of old d q ≡ Some true → (here : Bool)
    → eq_by_cmp nat_cmp q row ≡ here → cond here (Some (granted (lock_of old c row) exclusive)) (lock_of old c q) ≡ None
other_alone old c row q exclusive apart free d differ is true at =
    let held : lock_of old d row ≡ Some true = subst (λ r. lock_of old d r ≡ Some true) (same_at q row at) is in
    absurd (free (d, (differ, subst (λ lock. LocksConflict lock exclusive) (sym held) tt)))
other_alone old c row q exclusive apart free d differ is false at = apart q d c differ is

pub granted_apart : (old new : List Client) (c row : ℕ) (exclusive : Bool) → AreApart old → ¬ HasConflict old c row exclusive
    → OnlyChanges old c (record { held = map.insert (client_of old c).held row (granted (lock_of old c row) exclusive); blocked = None }) new → AreApart new
granted_apart old new c row exclusive apart free only q a b differ is =
    let now = now_held old new c row (granted (lock_of old c row) exclusive) only q in
    elim (cases_eq a c) [
      | inl a_is ↦
          let b_differs : b ≢ c = λ e. differ (a_is ∙ sym e) in
          lock_kept old new b q (only.others b b_differs)
          ∙ own_alone old c row q exclusive apart free b b_differs (eq_by_cmp nat_cmp q row) refl (sym now ∙ subst (λ e. lock_of new e q ≡ Some true) a_is is)
      | inr a_differs ↦
          let before : lock_of old a q ≡ Some true = sym (lock_kept old new a q (only.others a a_differs)) ∙ is in
          elim (cases_eq b c) [
            | inl b_is ↦ subst (λ e. lock_of new e q ≡ None) (sym b_is) (now ∙ other_alone old c row q exclusive apart free a a_differs before (eq_by_cmp nat_cmp q row) refl)
            | inr b_differs ↦ lock_kept old new b q (only.others b b_differs) ∙ apart q a b differ before
          ]
    ]

pub first_apart : (table : List Client) → ((c : ℕ) → client_of table c ≡ no_client) → AreApart table
first_apart table none row c d differ is = ap (λ client. map.get client.held row) (none d) ∙ map.get-empty nat_cmp row

pub blocked_apart : (old new : List Client) (c : ℕ) (blocked : Option BlockedLock) → AreApart old → OnlyChanges old c (record { held = (client_of old c).held; blocked = blocked }) new → AreApart new
blocked_apart old new c blocked apart only = kept_apart old new c _ only refl apart
