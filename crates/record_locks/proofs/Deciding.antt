-- What the list of the clients that conflict with a lock says of waiting for it.
use Rattle.std.proofs.Common.{ℕ, Bool, List, inl, inr}
use Rattle.database_meaning.specs.Waiting.{Chain, ListsAll}
use Rattle.record_locks.specs.declared.locks.Client.{Client}
use Rattle.record_locks.specs.declared.locks.KeyWait.{KeyWait}
use Rattle.database_meaning.proofs.Chains.{chain_map}
use Rattle.record_locks.specs.Table.{ConflictsOnLock, WaitsWith, WaitsAgainst}

module _ (table : List Client) (key_waits : List KeyWait) (c row : ℕ) (exclusive : Bool) (against : List ℕ) (lists : ListsAll against (ConflictsOnLock table c row exclusive)) where
  to_listed : (a b : ℕ) → WaitsWith table key_waits c row exclusive a b → WaitsAgainst table key_waits c against a b
  to_listed a b waits = elim waits [ inl asks ↦ inl (asks.0, (lists.1 b).1 asks.1) | inr other ↦ inr other ]

  pub listed_none : ((others : List ℕ) → ¬ Chain (WaitsAgainst table key_waits c against) c others c) → (others : List ℕ) → ¬ Chain (WaitsWith table key_waits c row exclusive) c others c
  listed_none none others chain = none others (chain_map (WaitsWith table key_waits c row exclusive) (WaitsAgainst table key_waits c against) to_listed c others c chain)
