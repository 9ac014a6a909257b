-- What the calls change in the control data.
use Rattle.std.specs.FinMap.{get, insert, remove}
use Rattle.database_meaning.specs.State.{State}
use Rattle.database_meaning.specs.Steps.{committed_after, is_in, stays}
use Rattle.database_protocol.specs.declared.operation.Op.{Op}
use Rattle.database_protocol.specs.declared.operation.Op.TheVariants.{Leave, Next, Get, CurrentValue}
use Rattle.record_locks.specs.Requests.{granted}
use Rattle.record_locks.specs.Settled.{has_row, settled}
use Rattle.abl_base.specs.declared.row.RowId.{RowId}
use Rattle.std.specs.Prelude.{Bool, [], ◌≡◌, ◌≢◌, ◌++◌, ◌∷◌, ℕ, ℤ, List, Option, take, length, None, Some, ◌&&◌, is_some}
use Rattle.record_locks.specs.declared.locks.Client.{Client as LockClient}
use Rattle.record_locks.specs.declared.locks.BlockedLock.{BlockedLock}
use Rattle.database_meaning.specs.declared.state.BlockedRequest.{BlockedRequest}
use Rattle.record_locks.specs.Table.{client_of, lock_of, no_client}
use Rattle.row_store.specs.Changes.{RowsById}
use Rattle.db_core.specs.declared.control.Control.{Control}
use Rattle.db_core.specs.Represents.{marks_at, blocked_at}

-- the client has these levels and locks and no blocked request, and of the other clients nothing changes
pub record OnlyClient (old : Control) (c : ℕ) (levels : List ℕ) (lock_now : LockClient) (new : Control) : Type 0 where
  pub own_marks : marks_at new c ≡ levels
  pub own_blocked : blocked_at new c ≡ None
  pub own_lock : client_of new.locks c ≡ lock_now
  pub marks : (d : ℕ) → d ≢ c → marks_at new d ≡ marks_at old d
  pub blocked : (d : ℕ) → d ≢ c → blocked_at new d ≡ blocked_at old d
  pub lock : (d : ℕ) → d ≢ c → client_of new.locks d ≡ client_of old.locks d
  pub count : length new.sessions.items ≡ length old.sessions.items

-- the client has the lock, and no blocked request
pub record Grants (old : Control) (c row : ℕ) (exclusive : Bool) (new : Control) : Type 0 where
  pub client : OnlyClient old c (marks_at old c) (record { held = insert (client_of old.locks c).held row (granted (lock_of old.locks c row) exclusive); blocked = None }) new
  pub sequences : new.sequences ≡ old.sequences
  pub frees : new.frees ≡ old.frees

-- the client's marks are these, and nothing else changes
pub record OnlyMarks (old : Control) (c : ℕ) (levels : List ℕ) (new : Control) : Type 0 where
  pub own : marks_at new c ≡ levels
  pub marks : (d : ℕ) → d ≢ c → marks_at new d ≡ marks_at old d
  pub blocked : (d : ℕ) → blocked_at new d ≡ blocked_at old d
  pub locks : new.locks ≡ old.locks
  pub count : length new.sessions.items ≡ length old.sessions.items
  pub sequences : new.sequences ≡ old.sequences
  pub frees : new.frees ≡ old.frees

-- the client has opened a level with this mark
pub record Enters (old : Control) (c mark : ℕ) (new : Control) : Type 0 where
  pub client : OnlyClient old c (marks_at old c ++ mark ∷ []) (record { held = (client_of old.locks c).held; blocked = None }) new
  pub sequences : new.sequences ≡ old.sequences
  pub frees : new.frees ≡ old.frees

-- the client has given up its lock on the row
pub record Drops (old : Control) (c row : ℕ) (new : Control) : Type 0 where
  pub client : OnlyClient old c (marks_at old c) (record { held = remove (client_of old.locks c).held row; blocked = None }) new
  pub sequences : new.sequences ≡ old.sequences

-- the client has ended
pub record Ends (old : Control) (c : ℕ) (new : Control) : Type 0 where
  pub client : OnlyClient old c [] no_client new
  pub sequences : new.sequences ≡ old.sequences

-- the sequence values are these, and the client's blocked request is gone
pub record Sets (old : Control) (c : ℕ) (values : List ℤ) (new : Control) : Type 0 where
  pub client : OnlyClient old c (marks_at old c) (record { held = (client_of old.locks c).held; blocked = None }) new
  pub sequences : new.sequences.items ≡ values
  pub frees : new.frees ≡ old.frees

-- each client's levels, locks and blocked request are as before
pub record SameControl (old new : Control) : Type 0 where
  pub locks : (d : ℕ) → client_of new.locks d ≡ client_of old.locks d
  pub marks : (d : ℕ) → marks_at new d ≡ marks_at old d
  pub blocked : (d : ℕ) → blocked_at new d ≡ blocked_at old d
  pub count : length new.sessions.items ≡ length old.sessions.items
  pub sequences : new.sequences ≡ old.sequences
  pub frees : new.frees ≡ old.frees

-- the client's transaction has ended: it has no level, no blocked request, and the locks that stay
pub record Settles (old : Control) (c : ℕ) (staying : List RowId) (new : Control) : Type 0 where
  pub own_marks : marks_at new c ≡ []
  pub own_blocked : blocked_at new c ≡ None
  pub own_lock : (row : ℕ) → lock_of new.locks c row ≡ settled (has_row staying row) (lock_of old.locks c row)
  pub own_wait : (client_of new.locks c).blocked ≡ None
  pub marks : (d : ℕ) → d ≢ c → marks_at new d ≡ marks_at old d
  pub blocked : (d : ℕ) → d ≢ c → blocked_at new d ≡ blocked_at old d
  pub lock : (d : ℕ) → d ≢ c → client_of new.locks d ≡ client_of old.locks d
  pub count : length new.sessions.items ≡ length old.sessions.items
  pub sequences : new.sequences ≡ old.sequences

-- the client's deeper levels and its blocked request are gone
pub record BacksTo (old : Control) (c depth : ℕ) (new : Control) : Type 0 where
  pub client : OnlyClient old c (take depth (marks_at old c)) (record { held = (client_of old.locks c).held; blocked = None }) new
  pub sequences : new.sequences ≡ old.sequences
  pub frees : new.frees ≡ old.frees

-- the client's blocked request is gone
pub record EndsWait (old : Control) (c : ℕ) (new : Control) : Type 0 where
  pub client : OnlyClient old c (marks_at old c) (record { held = (client_of old.locks c).held; blocked = None }) new
  pub sequences : new.sequences ≡ old.sequences
  pub frees : new.frees ≡ old.frees

-- the client waits, and holds what it held
pub record Waits (old : Control) (c : ℕ) (request_now : BlockedRequest) (lock_request : Option BlockedLock) (new : Control) : Type 0 where
  pub own_marks : marks_at new c ≡ marks_at old c
  pub own_blocked : blocked_at new c ≡ Some request_now
  pub own_lock : client_of new.locks c ≡ record { held = (client_of old.locks c).held; blocked = lock_request }
  pub marks : (d : ℕ) → d ≢ c → marks_at new d ≡ marks_at old d
  pub blocked : (d : ℕ) → d ≢ c → blocked_at new d ≡ blocked_at old d
  pub lock : (d : ℕ) → d ≢ c → client_of new.locks d ≡ client_of old.locks d
  pub count : length new.sessions.items ≡ length old.sessions.items
  pub sequences : new.sequences ≡ old.sequences
  pub frees : new.frees ≡ old.frees

-- of the rows that the client holds, these are the ones whose locks stay at its Leave
abbrev pub AreStaying : State → ℕ → List RowId → List RowId → Type 0
AreStaying s c keep staying = (k : ℕ) (b : Bool) → get (s.client c).held k ≡ Some b → has_row staying k ≡ stays (committed_after s c (Leave keep)) keep k

-- an operation that only asks
abbrev pub IsQuestion : Op → Type 0
IsQuestion (Next table index prefix cursor forward) = Unit {0}
IsQuestion (Get table row) = Unit {0}
IsQuestion (CurrentValue sequence) = Unit {0}
IsQuestion _ = ⊥

-- the list has those of these rows that are there
abbrev pub ListsPresent : RowsById → List RowId → List RowId → Type 0
ListsPresent rows keep list = (k : ℕ) → has_row list k ≡ (is_in k keep && is_some (rows k))
