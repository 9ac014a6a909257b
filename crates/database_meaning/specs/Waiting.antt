-- Which clients conflict with an operation, who waits for whom, and cycles of waiting clients.
use Rattle.std.specs.Prelude.{◌≡◌, ◌≢◌, ◌⊎◌, ◌↔◌, ℕ, ◌<◌, Bool, true, false, IsTrue, IsFalse, List, [], ◌∷◌, Option, Some, None}
use Rattle.std.specs.List.{Contains}
use Rattle.abl_base.specs.declared.value.Value.{Value}
use Rattle.abl_values.specs.Schema.{SchemaData}
use Rattle.database_meaning.specs.declared.state.StoredRow.{StoredRow}
use Rattle.database_meaning.specs.declared.state.Key.{Key}
use Rattle.database_meaning.specs.declared.state.BlockedRequest.{BlockedRequest}
use Rattle.database_protocol.specs.declared.operation.Op.{Op}
use Rattle.database_protocol.specs.declared.operation.Op.TheVariants.{Lock, Insert, Put}
use Rattle.database_meaning.specs.Setting.{Setting, unique_keys, has_key}
use Rattle.database_meaning.specs.State.{State, view, lock_of}

-- ---- conflicts

-- a lock on a row conflicts with a requested one: an exclusive lock with any, a share lock with an exclusive one
abbrev pub LocksConflict : Option Bool → Bool → Type 0
LocksConflict None exclusive = ⊥
LocksConflict (Some true) exclusive = Unit {0}
LocksConflict (Some false) exclusive = IsTrue exclusive

-- client c asks for a lock on a row, and the lock that client d has on it conflicts
abbrev pub LockConflicts : (ℕ → Option Bool) → ℕ → Bool → ℕ → Type 0
LockConflicts locks c exclusive d = (d ≢ c) × LocksConflict (locks d) exclusive

-- a unique key of the new row that the old row does not have is reserved
abbrev pub EntersReserved : SchemaData → (Key → Bool) → Option StoredRow → Option StoredRow → Type 0
EntersReserved schema reserved old new = (k : Key) × IsTrue (has_key (unique_keys schema new) k) × IsFalse (has_key (unique_keys schema old) k) × IsTrue (reserved k)

-- the same, where client d has reserved it
abbrev pub ReservesEntered : Setting → State → ℕ → Option StoredRow → Option StoredRow → Type 0
ReservesEntered f s d old new = EntersReserved f.schema (has_key (s.client d).reserved_keys) old new

abbrev pub row_in : ℕ → List Value → Option StoredRow
row_in table values = Some (record { table = table; values = values })

-- the operation of client c conflicts with client d
abbrev pub Conflicts : Setting → State → ℕ → Op → ℕ → Type 0
Conflicts f s c (Lock table row exclusive wait) d = LockConflicts (λ e. lock_of s e row.0) c exclusive d
Conflicts f s c (Insert table values) d = (d ≢ c) × ReservesEntered f s d None (row_in table values)
Conflicts f s c (Put table row values) d = (d ≢ c) × ReservesEntered f s d (view f s row.0) (row_in table values)
Conflicts f s c _ d = ⊥

abbrev pub HasConflict : Setting → State → ℕ → Op → Type 0
HasConflict f s c op = (d : ℕ) × Conflicts f s c op d

-- ---- holders

abbrev pub IsAscending : List ℕ → Type 0
IsAscending [] = Unit {0}
IsAscending (x ∷ []) = Unit {0}
IsAscending (x ∷ y ∷ ys) = (x < y) × IsAscending (y ∷ ys)

-- xs is the ascending list of all numbers that satisfy `Holds`
abbrev pub ListsAll : List ℕ → (ℕ → Type 0) → Type 0
ListsAll xs Holds = IsAscending xs × ((d : ℕ) → Contains xs d ↔ Holds d)

abbrev pub IsHolders : Setting → State → ℕ → Op → List ℕ → Type 0
IsHolders f s c op holders = ListsAll holders (Conflicts f s c op)

-- ---- waiting

-- the client's blocked request is this operation
abbrev pub IsBlockedAt : State → ℕ → Op → Type 0
IsBlockedAt s c op = (w : BlockedRequest) × ((s.client c).blocked ≡ Some w) × (w.op ≡ op)

-- client c waits for client d: its blocked request conflicts with d in the present state
abbrev pub WaitsFor : Setting → State → ℕ → ℕ → Type 0
WaitsFor f s c d = (op : Op) × IsBlockedAt s c op × Conflicts f s c op d

-- ---- chains and cycles, of any relation on clients

-- a chain from one client through the listed ones to the last: each waits for the next
abbrev pub Chain : (ℕ → ℕ → Type 0) → ℕ → List ℕ → ℕ → Type 0
Chain Waits a [] b = Waits a b
Chain Waits a (x ∷ xs) b = Waits a x × Chain Waits x xs b

-- no client waits for itself through a chain of zero or more others
abbrev pub HasNoCycle : (ℕ → ℕ → Type 0) → Type 0
HasNoCycle Waits = (c : ℕ) (others : List ℕ) → ¬ Chain Waits c others c

abbrev pub IsDistinct : List ℕ → Type 0
IsDistinct [] = Unit {0}
IsDistinct (x ∷ xs) = ¬ Contains xs x × IsDistinct xs

-- a cycle that begins with c, and whose clients all differ
abbrev pub IsCycleFrom : (ℕ → ℕ → Type 0) → ℕ → List ℕ → Type 0
IsCycleFrom Waits c [] = ⊥
IsCycleFrom Waits c (first ∷ others) = (first ≡ c) × IsDistinct (first ∷ others) × Chain Waits c others c

-- the relation `Waits`, except that c waits exactly for the clients in `Against`
abbrev pub WithAsked : (ℕ → ℕ → Type 0) → ℕ → (ℕ → Type 0) → ℕ → ℕ → Type 0
WithAsked Waits c Against a b = ((a ≡ c) × Against b) ⊎ ((a ≢ c) × Waits a b)

-- ---- cycles that would close

-- the relation WaitsFor, except that c waits for the clients that conflict with this operation
abbrev pub WouldWait : Setting → State → ℕ → Op → ℕ → ℕ → Type 0
WouldWait f s c op a b = WithAsked (WaitsFor f s) c (Conflicts f s c op) a b

-- if c waited for this operation, a cycle would close
abbrev pub Closes : Setting → State → ℕ → Op → Type 0
Closes f s c op = (others : List ℕ) × Chain (WouldWait f s c op) c others c

-- a cycle to answer with
abbrev pub IsCycle : Setting → State → ℕ → Op → List ℕ → Type 0
IsCycle f s c op cycle = IsCycleFrom (WouldWait f s c op) c cycle
