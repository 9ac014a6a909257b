-- When NoMemory may be answered to an operation for which room is reserved. This depends on the earlier events.
use Rattle.std.specs.Prelude.{◌≡◌, ◌≢◌, ◌⊎◌, ℕ, ◌+◌, ◌<◌, ◌≤◌, Bool, IsTrue, List, [], ◌∷◌, ◌++◌, None}
use Rattle.abl_base.specs.declared.value.Value.{Value}
use Rattle.abl_base.specs.declared.row.RowId.{RowId}
use Rattle.database_meaning.specs.declared.contents.Contents.{Contents}
use Rattle.database_protocol.specs.declared.operation.Op.{Op}
use Rattle.database_protocol.specs.declared.operation.Op.TheVariants.{Enter, Leave, Back, Lock, Insert, Drop as DropLock, End}
use Rattle.database_protocol.specs.declared.answer.Answer.TheVariants.{Done, Granted, Inserted}
use Rattle.database_protocol.specs.declared.event.Event.{Event}
use Rattle.database_meaning.specs.Setting.{Setting}
use Rattle.database_meaning.specs.State.{State, lock_of, depth_of}
use Rattle.database_meaning.specs.Traces.{after_event, left_by, is_leave}

-- ---- since

abbrev pub NeverAlong : Setting → (State → Event → Type 0) → State → List Event → Type 0
NeverAlong f Holds s [] = Unit {0}
NeverAlong f Holds s (e ∷ es) = ¬ Holds s e × NeverAlong f Holds (after_event f s e) es

-- the trace has an event of the second kind after the last one of the first kind
abbrev pub HasSince : Setting → Contents → List Event → (State → Event → Type 0) → (State → Event → Type 0) → Type 0
HasSince f contents trace Begins Asks =
    (before : List Event) × (e : Event) × (later : List Event) × (trace ≡ before ++ e ∷ later)
    × Asks (left_by f contents before) e × NeverAlong f Begins (left_by f contents (before ++ e ∷ [])) later

-- ---- levels and locks

-- the event opens this level of the client
abbrev pub OpensLevel : ℕ → ℕ → State → Event → Type 0
OpensLevel c level s e = (e.client ≡ c) × (e.op ≡ Enter) × (e.answer ≡ Done) × (depth_of s c + 1 ≡ level)

-- the event asks to go back to this level
abbrev pub AsksBack : ℕ → ℕ → State → Event → Type 0
AsksBack c level s e = (e.client ≡ c) × (e.op ≡ Back level)

-- the event asks to leave this level
abbrev pub AsksLeave : ℕ → ℕ → State → Event → Type 0
AsksLeave c level s e = (e.client ≡ c) × IsTrue (is_leave e.op) × (depth_of s c ≡ level)

abbrev pub LockGranted : RowId → Event → Type 0
LockGranted row e = (table : ℕ) × (exclusive : Bool) × (wait : Bool) × (e.op ≡ Lock table row exclusive wait) × (e.answer ≡ Granted)

abbrev pub RowInserted : RowId → Event → Type 0
RowInserted row e = (table : ℕ) × (values : List Value) × (e.op ≡ Insert table values) × (e.answer ≡ Inserted row)

-- the event gives the client a lock on the row
abbrev pub GrantsLock : ℕ → RowId → State → Event → Type 0
GrantsLock c row s e = (e.client ≡ c) × (LockGranted row e ⊎ RowInserted row e)

-- the event asks to give it up
abbrev pub AsksDrop : ℕ → RowId → State → Event → Type 0
AsksDrop c row s e = (e.client ≡ c) × (e.op ≡ DropLock row)

-- ---- out of memory

-- after the trace so far, this operation of the client may be answered NoMemory. An End never is; a Back to an open level only
-- where one was answered since that level's Enter; a Leave of an open level likewise; a Drop of a lock that is held
-- only where one was answered since the grant
abbrev pub MayRunOutOfMemory : Setting → Contents → List Event → ℕ → Op → Type 0
MayRunOutOfMemory f contents trace c End = ⊥
MayRunOutOfMemory f contents trace c (Back depth) =
    0 < depth → depth ≤ depth_of (left_by f contents trace) c → HasSince f contents trace (OpensLevel c depth) (AsksBack c depth)
MayRunOutOfMemory f contents trace c (Leave keep) =
    0 < depth_of (left_by f contents trace) c
    → HasSince f contents trace (OpensLevel c (depth_of (left_by f contents trace) c)) (AsksLeave c (depth_of (left_by f contents trace) c))
MayRunOutOfMemory f contents trace c (DropLock row) =
    lock_of (left_by f contents trace) c row.0 ≢ None → HasSince f contents trace (GrantsLock c row) (AsksDrop c row)
MayRunOutOfMemory f contents trace c _ = Unit {0}
