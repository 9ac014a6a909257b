-- A wait after an answer Blocked closes no cycle.
use Rattle.std.proofs.Common.{◌≡◌, ℕ, Bool, List, Option, Some, None, IsSomeAnd, inl, inr, sym, ap, subst, ◌∙◌}
use Rattle.std.specs.List.{Any}
use Rattle.std.specs.FinMap as map
use Rattle.std.proofs.lemmas.Bool.{cases_eq}
use Rattle.abl_base.specs.declared.row.RowId.{RowId}
use Rattle.database_meaning.specs.Waiting.{Chain, HasNoCycle, LocksConflict}
use Rattle.database_meaning.proofs.Chains.{chain_map, none_closed}
use Rattle.record_locks.specs.declared.locks.BlockedLock.{BlockedLock}
use Rattle.record_locks.specs.declared.locks.Client.{Client}
use Rattle.record_locks.specs.declared.locks.KeyWait.{KeyWait}
use Rattle.record_locks.specs.Table.{client_of, lock_of, OnlyChanges, ConflictsOnLock, Waits, WaitsForLock, WaitsWith}

-- a blocked lock conflicts with the same clients where the locks are the same
same_waits : (old new : List Client) (a b : ℕ) → ((d row : ℕ) → lock_of new d row ≡ lock_of old d row) → (blocked : Option BlockedLock)
    → IsSomeAnd blocked (λ w. ConflictsOnLock new a w.row.0 w.exclusive b) → IsSomeAnd blocked (λ w. ConflictsOnLock old a w.row.0 w.exclusive b)
same_waits old new a b same None waits = waits
same_waits old new a b same (Some blocked) waits = (waits.0, subst (λ lock. LocksConflict lock blocked.exclusive) (same b blocked.row.0) waits.1)

pub no_cycle_blocked : (old new : List Client) (key_waits : List KeyWait) (c : ℕ) (row : RowId) (exclusive : Bool) → ¬ Any (λ blocked. blocked.client ≡ c) key_waits → HasNoCycle (Waits old key_waits)
    → ((others : List ℕ) → ¬ Chain (WaitsWith old key_waits c row.0 exclusive) c others c)
    → OnlyChanges old c (record { held = (client_of old c).held; blocked = Some (record { row = row; exclusive = exclusive }) }) new → HasNoCycle (Waits new key_waits)
no_cycle_blocked old new key_waits c row exclusive others_keys before none only a others chain =
    none_closed (WaitsWith old key_waits c row.0 exclusive) (Waits old key_waits) c keeps none before a others
    (chain_map (Waits new key_waits) (WaitsWith old key_waits c row.0 exclusive) now a others a chain)
  where
    keeps : (a b : ℕ) → (a ≡ c → ⊥) → WaitsWith old key_waits c row.0 exclusive a b → Waits old key_waits a b
    keeps a b differ waits = elim waits [ inl asks ↦ absurd (differ asks.0) | inr other ↦ other.1 ]

    same : (d q : ℕ) → lock_of new d q ≡ lock_of old d q
    same d q = elim (cases_eq d c) [
      | inl is ↦ subst (λ e. lock_of new e q ≡ lock_of old e q) (sym is) (ap (λ client. map.get client.held q) only.changed)
      | inr differ ↦ ap (λ client. map.get client.held q) (only.others d differ)
    ]

    asked : (b : ℕ) → WaitsForLock new c b → ConflictsOnLock old c row.0 exclusive b
    asked b waits = same_waits old new c b same (Some (record { row = row; exclusive = exclusive }))
        (subst (λ blocked. IsSomeAnd blocked (λ w. ConflictsOnLock new c w.row.0 w.exclusive b)) (ap (λ client. client.blocked) only.changed) waits)

    now : (a b : ℕ) → Waits new key_waits a b → WaitsWith old key_waits c row.0 exclusive a b
    now a b waits = elim (cases_eq a c) [
      | inl is ↦ inl (
        is,
        elim waits [
          | inl lock ↦ asked b (subst (λ e. WaitsForLock new e b) is lock)
          | inr key ↦ absurd (others_keys (key.0, key.1, key.2, key.3, key.4.0 ∙ is))
        ],
      )
      | inr differ ↦ inr (
        differ,
        elim waits [
          | inl lock ↦ inl (same_waits old new a b same (client_of old a).blocked
              (subst (λ blocked. IsSomeAnd blocked (λ w. ConflictsOnLock new a w.row.0 w.exclusive b)) (ap (λ client. client.blocked) (only.others a differ)) lock))
          | inr key ↦ inr key
        ],
      )
    ]
