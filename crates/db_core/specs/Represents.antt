-- Which state of the database machine a store of rows and the control data beside it represent.
use Rattle.std.specs.Prelude.{◌≡◌, ℕ, Bool, true, false, IsTrue, List, [], ◌∷◌, length, Option, Some, None, slice_get}
use Rattle.std.specs.FinMap.{get}
use Rattle.abl_values.specs.Schema.{SchemaData}
use Rattle.database_meaning.specs.declared.state.Key.{Key}
use Rattle.database_meaning.specs.declared.state.BlockedRequest.{BlockedRequest}
use Rattle.database_protocol.specs.declared.operation.Op.{Op}
use Rattle.database_protocol.specs.declared.operation.Op.TheVariants.{Lock, Insert, Put}
use Rattle.database_meaning.specs.Setting.{Setting, HasTable, FitsTable, has_key}
use Rattle.database_meaning.specs.State.{State, Client}
use Rattle.record_locks.specs.declared.locks.Client.{Client as LockClient}
use Rattle.record_locks.specs.declared.locks.BlockedLock.{BlockedLock}
use Rattle.record_locks.specs.Table.{client_of, AreApart}
use Rattle.row_store.specs.Changes.{IsOverlay, AreCopies, AreMarks, change_at}
use Rattle.row_store.specs.Rows.{RowState, RowTransaction, IsObservable}
use Rattle.db_core.specs.declared.control.Control.{Control}
use Rattle.db_core.specs.declared.control.Session.{Session}

-- ---- the clients of the control data

abbrev pub marks_in : Option Session → List ℕ
marks_in None = []
marks_in (Some session) = session.marks.items

abbrev pub blocked_in : Option Session → Option BlockedRequest
blocked_in None = None
blocked_in (Some session) = session.blocked

abbrev pub marks_at : Control → ℕ → List ℕ
marks_at control c = marks_in (slice_get control.sessions.items c)

abbrev pub blocked_at : Control → ℕ → Option BlockedRequest
blocked_at control c = blocked_in (slice_get control.sessions.items c)

-- ---- blocked requests

-- the lock that a client with this blocked request waits for
abbrev pub lock_asked : Op → Option BlockedLock
lock_asked (Lock table row exclusive wait) = Some (record { row = row; exclusive = exclusive })
lock_asked _ = None

abbrev pub blocked_lock : Option BlockedRequest → Option BlockedLock
blocked_lock None = None
blocked_lock (Some blocked) = lock_asked blocked.op

-- a row that an operation enters is a row of its table
abbrev pub FitsOp : SchemaData → Op → Type 0
FitsOp schema (Insert table values) = HasTable schema table × FitsTable schema table values
FitsOp schema (Put table row values) = HasTable schema table × FitsTable schema table values
FitsOp schema _ = Unit {0}

abbrev pub FitsBlocked : SchemaData → Option BlockedRequest → Type 0
FitsBlocked schema None = Unit {0}
FitsBlocked schema (Some blocked) = FitsOp schema blocked.op

-- ---- what holds whether the store is observable or not

abbrev pub is_open : List ℕ → Bool
is_open [] = false
is_open (mark ∷ marks) = true

-- a client has a transaction exactly where it has a level, each level's mark is a place in its changes, and its blocked request fits
pub record IsOpen (schema : SchemaData) (open_levels : List ℕ) (request : Option BlockedRequest) (t : RowTransaction) : Type 0 where
  pub begun : t.begun ≡ is_open open_levels
  pub marks : AreMarks 0 open_levels (length t.changes)
  pub fits : FitsBlocked schema request

pub record IsSound (rows : RowState) (control : Control) : Type 0 where
  pub client : (c : ℕ) → IsOpen rows.schema (marks_at control c) (blocked_at control c) (rows.transaction c)

-- ---- the relation

-- one client: the marks of its levels, its blocked request, its locks and its transaction on the rows.
-- The copy of a level is the present overlay with the changes after the level's mark undone
pub record IsClient (rows : RowState) (open_levels : List ℕ) (request : Option BlockedRequest) (lock : LockClient) (t : RowTransaction) (c : Client) : Type 0 where
  pub held : lock.held ≡ c.held
  pub waits : lock.blocked ≡ blocked_lock c.blocked
  pub blocked : IsTrue rows.observable → request ≡ c.blocked
  pub depth : length c.levels ≡ length open_levels
  pub reserved : IsTrue rows.observable → (k : Key) → t.reserved k ≡ has_key c.reserved_keys k
  pub drawn : IsObservable rows → t.drawn ≡ c.drawn
  pub written : IsObservable rows → t.written ≡ c.written
  pub overlay : IsObservable rows → IsOverlay c.overlay (change_at rows.rows t.changes)
  pub copies : IsObservable rows → AreCopies rows.rows t.changes open_levels c.levels
  -- each row that the transaction touched is held exclusively, and a row that is held is there, or the client touched it
  pub locked : IsObservable rows → (k : ℕ) → IsTrue (t.touched k) → get c.held k ≡ Some true
  pub there : IsObservable rows → (k : ℕ) (lock_on : Bool) → get c.held k ≡ Some lock_on → rows.rows k ≡ None → IsTrue (t.touched k)

-- the store and the control data represent the state. That the rows are its view follows, and is no part of it
pub record Represents (f : Setting) (rows : RowState) (control : Control) (s : State) : Type 0 where
  pub schema : f.schema ≡ rows.schema
  pub clients : f.clients ≡ length control.sessions.items
  pub client : (c : ℕ) → IsClient rows (marks_at control c) (blocked_at control c) (client_of control.locks c) (rows.transaction c) (s.client c)
  pub apart : IsObservable rows → AreApart control.locks
  pub committed : IsTrue rows.observable → (k : ℕ) → get s.committed k ≡ rows.committed k
  pub sequences : control.sequences.items ≡ s.sequences
  -- which keys are reserved, and so how often one was freed, is known where the store is observable alone
  pub frees : IsTrue rows.observable → control.frees ≡ s.frees
