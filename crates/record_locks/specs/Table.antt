-- The locks of all clients, what they wait for, and what a request may be answered.
use Rattle.std.specs.Prelude.{◌≡◌, ◌≢◌, ◌⊎◌, ℕ, Bool, true, List, Option, Some, None, IsSomeAnd, slice_index_or}
use Rattle.std.specs.List.{Any, Contains}
use Rattle.std.specs.FinMap as map
use Rattle.abl_base.specs.declared.row.RowId.{RowId}
use Rattle.database_meaning.specs.Waiting.{LockConflicts, WithAsked}
use Rattle.record_locks.specs.Settled.{has_row, settled}
use Rattle.record_locks.specs.declared.locks.Client.{Client}
use Rattle.record_locks.specs.declared.locks.KeyWait.{KeyWait}

-- a client that holds nothing and waits for nothing
abbrev pub no_client : Client
no_client = record { held = map.empty; blocked = None }

-- the client with a number
abbrev pub client_of : List Client → ℕ → Client
client_of table c = slice_index_or table c no_client

-- the client's lock on the row: None, or true where it is exclusive
abbrev pub lock_of : List Client → ℕ → ℕ → Option Bool
lock_of table c row = map.get (client_of table c).held row

-- the lock of client d conflicts with the lock that client c asks for
abbrev pub ConflictsOnLock : List Client → ℕ → ℕ → Bool → ℕ → Type 0
ConflictsOnLock table c row exclusive d = LockConflicts (λ e. lock_of table e row) c exclusive d

-- ---- waiting

-- client a waits for client b by a lock
abbrev pub WaitsForLock : List Client → ℕ → ℕ → Type 0
WaitsForLock table a b = IsSomeAnd (client_of table a).blocked (λ blocked. ConflictsOnLock table a blocked.row.0 blocked.exclusive b)

-- client a waits for client b by a key
abbrev pub WaitsForKey : List KeyWait → ℕ → ℕ → Type 0
WaitsForKey key_waits a b = Any (λ blocked. (blocked.client ≡ a) × Contains blocked.holders b) key_waits

abbrev pub Waits : List Client → List KeyWait → ℕ → ℕ → Type 0
Waits table key_waits a b = WaitsForLock table a b ⊎ WaitsForKey key_waits a b

-- the same, where client c counts as waiting for those whose locks conflict with the lock that it asks for
abbrev pub WaitsWith : List Client → List KeyWait → ℕ → ℕ → Bool → ℕ → ℕ → Type 0
WaitsWith table key_waits c row exclusive a b = WithAsked (Waits table key_waits) c (ConflictsOnLock table c row exclusive) a b

-- the same, where the clients that conflict with client c are given
abbrev pub WaitsAgainst : List Client → List KeyWait → ℕ → List ℕ → ℕ → ℕ → Type 0
WaitsAgainst table key_waits c against a b = WithAsked (Waits table key_waits) c (Contains against) a b

-- ---- changes

-- client c is as given, and every other as before
pub record OnlyChanges (old : List Client) (c : ℕ) (client : Client) (new : List Client) : Type 0 where
  pub changed : client_of new c ≡ client
  pub others : (d : ℕ) → d ≢ c → client_of new d ≡ client_of old d

-- each client is as before
abbrev pub IsSame : List Client → List Client → Type 0
IsSame old new = (d : ℕ) → client_of new d ≡ client_of old d

-- no two clients hold a row where one of them holds it exclusively
abbrev pub AreApart : List Client → Type 0
AreApart table = (row c d : ℕ) → c ≢ d → lock_of table c row ≡ Some true → lock_of table d row ≡ None

-- the locks of client c on the rows to keep become share locks, and its other locks go
pub record Settles (old : List Client) (c : ℕ) (keep : List RowId) (new : List Client) : Type 0 where
  pub locks : (row : ℕ) → lock_of new c row ≡ settled (has_row keep row) (lock_of old c row)
  pub blocked : (client_of new c).blocked ≡ (client_of old c).blocked
  pub others : (d : ℕ) → d ≢ c → client_of new d ≡ client_of old d
