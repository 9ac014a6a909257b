-- Reading a record: the bracket, Next, WHERE, Lock, Get, and WHERE again.
use Rattle.std.specs.Prelude.{ℕ, zero, suc, ◌==◌, if◌then◌else◌, List, [], ◌∷◌, map, Bool, true, false, Option, Some, None, Result, Ok, Err}
use Rattle.abl_base.specs.declared.row.RowId.{RowId}
use Rattle.database_protocol.specs.declared.row_order.Cursor.{Cursor}
use Rattle.abl_base.specs.declared.value.Value.{Value}
use Rattle.abl_values.specs.declared.arithmetic.ArithFault.{ArithFault}
use Rattle.abl_values.specs.Fit.{fitted}
use Rattle.database_protocol.specs.declared.operation.Op.TheVariants as op
use Rattle.database_protocol.specs.declared.answer.Answer.{Answer}
use Rattle.bound_tree.specs.declared.block.LockWanted.{LockWanted}
use Rattle.bound_tree.specs.declared.block.LockWanted.TheVariants as wanted
use Rattle.bound_tree.specs.declared.block.FetchWord.{FetchWord}
use Rattle.bound_tree.specs.declared.block.FetchWord.TheVariants as fetch
use Rattle.bound_tree.specs.declared.statement.FindWord.{FindWord}
use Rattle.bound_tree.specs.declared.statement.FindWord.TheVariants as find
use Rattle.bound_tree.specs.Tree.{Expr, BracketValue, Reading, Fetch}
use Rattle.expression_meaning.specs.Operators.{equals, holds}
use Rattle.block_meaning.specs.Program.{Program}
use Rattle.block_meaning.specs.Lines.{NoRecordFound, MoreThanOne, IsLocked, NoRecordIn}
use Rattle.block_meaning.specs.State.{State, Spot, Content, Empty, Record, Pending, Held, NoLock, Share, Exclusive, Turn, Completion, Normal, EndKeys, Stops, Found, Lost, NotFound, Outcome, Done, Suspended, Continuation, completes, if_else, update_then, asks, and_then, has_fault, nothing_passed, out_of_units}
use Rattle.block_meaning.specs.Frames.{buffer_at, content_of, table_of, holding, emptied, marked_locked, with_spot}
use Rattle.block_meaning.specs.Values.{Evaluated, Gives, Fails, value_now, all_values}
use Rattle.block_meaning.specs.Views.{FoundRow, found_in, values_in, Grant, IsGranted, IsBusy, IsGone, grant_in}
use Rattle.block_meaning.specs.Buffers.{releases}

-- the lock under which a buffer holds a row that it reads with this option
abbrev pub held_as : LockWanted → Held
held_as wanted.NoLock = NoLock
held_as wanted.Share = Share
held_as wanted.Exclusive = Exclusive

-- EXCLUSIVE-LOCK
abbrev pub is_exclusive : LockWanted → Bool
is_exclusive wanted.NoLock = false
is_exclusive wanted.Share = false
is_exclusive wanted.Exclusive = true

-- puts a row into the buffer, without a lock so far
abbrev pub shows : ℕ → RowId → List Value → State → State
shows b row values s = holding b (Record row values NoLock None) s

-- ---- WHERE

-- continues by the value of WHERE; the buffer is emptied where it does not hold
abbrev pub judged : Evaluated → ℕ → Continuation → Continuation → Continuation
judged (Gives v) b good bad = if_else (holds v) good (update_then (emptied b) bad)
judged (Fails c) b good bad = update_then (emptied b) (has_fault c)

-- tests WHERE on the record in the buffer, and continues with `good` or `bad`
abbrev pub tests : Program → Option Expr → ℕ → Bool → Continuation → Continuation → Continuation
tests p None b retry good bad s ans = good s ans
tests p (Some e) b retry good bad s ans = judged (value_now p e retry s) b good bad s ans

-- ---- the lock

-- after the row was read again: tests WHERE; the record is lost where the row is gone or fails
abbrev pub read_as : Program → Option (List Value) → Reading → Bool → RowId → Held → Continuation
read_as p (Some values) r retry row held =
    update_then (shows r.buffer row values)
    (tests p r.test r.buffer retry (update_then (holding r.buffer (Record row values held None)) (completes Normal)) (completes Lost))
read_as p None r retry row held = update_then (emptied r.buffer) (completes Lost)

-- continues after the answer to Get
abbrev pub was_read : Program → Reading → Bool → RowId → Held → Answer → Continuation
was_read p r retry row held a = read_as p (values_in a) r retry row held

-- reads the row again, and tests it
abbrev pub reads : Program → Reading → Bool → RowId → Held → Continuation
reads p r retry row held s ans = asks (op.Get (table_of r.buffer s) row) (was_read p r retry row held) s ans

-- Busy: the buffer becomes empty and LOCKED
abbrev pub busy : ℕ → Continuation
busy b = update_then (λ s. marked_locked b true (emptied b s)) (has_fault (IsLocked b))

-- after the lock was granted, refused, or the row was gone
abbrev pub granted_as : Program → Grant → Reading → Bool → RowId → Continuation
granted_as p IsGranted r retry row = reads p r retry row (held_as r.lock)
granted_as p IsBusy r retry row = busy r.buffer
granted_as p IsGone r retry row = update_then (emptied r.buffer) (completes Lost)

-- continues after the answer to Lock
abbrev pub was_granted : Program → Reading → Bool → RowId → Answer → Continuation
was_granted p r retry row a = granted_as p (grant_in a) r retry row

-- asks for the lock
abbrev pub locks : Program → Reading → Bool → Bool → RowId → Continuation
locks p r wait retry row s ans = asks (op.Lock (table_of r.buffer s) row (is_exclusive r.lock) wait) (was_granted p r retry row) s ans

-- locks a row that passed WHERE, and reads it again, where a lock is requested. It may be lost then
abbrev pub takes_as : Program → LockWanted → Reading → Bool → Bool → RowId → Continuation
takes_as p wanted.NoLock r wait retry row = completes Normal
takes_as p wanted.Share r wait retry row = locks p r wait retry row
takes_as p wanted.Exclusive r wait retry row = locks p r wait retry row

-- reads the record of a FOR again for a retry
abbrev pub takes_again_as : Program → LockWanted → Reading → Bool → RowId → Continuation
takes_again_as p wanted.NoLock r retry row = reads p r retry row NoLock
takes_again_as p wanted.Share r retry row = locks p r true retry row
takes_again_as p wanted.Exclusive r retry row = locks p r true retry row

-- ---- the bracket

-- a value of the bracket: the equal value of the component's kind, or the value itself where there is none
abbrev pub equal_or : Result Value ArithFault → Value → Value
equal_or (Ok w) v = if equals w v then w else v
equal_or (Err fault) v = v

-- the values of the bracket
abbrev pub bracket_of : List BracketValue → List Value → List Value
bracket_of [] vs = []
bracket_of (x ∷ xs) [] = []
bracket_of (x ∷ xs) (v ∷ vs) = equal_or (fitted v x.kind) v ∷ bracket_of xs vs

-- ---- the search

-- the parameters of a search. `only`: a FIND without FIRST, LAST, NEXT or PREV, which fails where a second record matches
pub record Search : Type 0 where
  pub reading : Reading
  pub forward : Bool
  pub only : Bool
  pub wait : Bool
  pub retry : Bool
  pub prefix : List Value

-- the place of a record in the index of the search
abbrev pub spot_at : Reading → Cursor → Option Spot
spot_at r c = Some (record { index = r.index; cursor = c })

-- after the search for a second match: it fails where there is one, else the buffer holds the first again
abbrev pub second_as : Program → Option FoundRow → Search → Cursor → List Value → (Cursor → Continuation) → Continuation
second_as p (Some x) k c values again =
    update_then (shows k.reading.buffer x.cursor.row x.values)
    (tests p k.reading.test k.reading.buffer k.retry
    (update_then (emptied k.reading.buffer) (has_fault (MoreThanOne k.reading.buffer)))
    (again x.cursor))
second_as p None k c values again = update_then (shows k.reading.buffer c.row values) (completes Normal)

-- continues after the answer to Next
abbrev pub was_second : Program → Search → Cursor → List Value → (Cursor → Continuation) → Answer → Continuation
was_second p k c values again a = second_as p (found_in a) k c values again

-- searches a second match. It does not change the buffer's place in the index
abbrev pub looks_for_second : Program → ℕ → Search → Cursor → List Value → Cursor → Continuation
looks_for_second p zero k c values from s ans = Done (Stops out_of_units) s ans
looks_for_second p (suc n) k c values from s ans =
    asks (op.Next (table_of k.reading.buffer s) k.reading.index k.prefix (Some from) true) (was_second p k c values (looks_for_second p n k c values)) s ans

-- the same, where the match must be the only one
abbrev pub is_only : Program → Bool → Search → Cursor → List Value → Continuation
is_only p true k c values s ans = looks_for_second p s.units k c values c s ans
is_only p false k c values s ans = Done Normal s ans

-- continues the search after a record that was lost
abbrev pub if_lost : Completion → Continuation → Continuation
if_lost Lost again s ans = again s ans
if_lost completion again s ans = Done completion s ans

-- the same for an outcome
abbrev pub or_again : Outcome → Continuation → Outcome
or_again (Done completion s ans) again = if_lost completion again s ans
or_again (Suspended d) again = Suspended d

-- takes a record that passed WHERE: checks that it is the only one where it must be, and locks it
abbrev pub takes : Program → Search → Cursor → List Value → Continuation
takes p k c values s ans =
    and_then (and_then (is_only p k.only k c values s ans) (takes_as p k.reading.lock k.reading k.wait k.retry c.row)) (completes (Found c))

-- puts what Next found into the buffer, and remembers its place in the index
abbrev pub next_shown : Search → FoundRow → State → State
next_shown k x s = shows k.reading.buffer x.cursor.row x.values (with_spot k.reading.buffer (spot_at k.reading x.cursor) s)

-- tests and takes what Next found, or continues the search; at the end the place is cleared
abbrev pub next_as : Program → Option FoundRow → Search → (Cursor → Continuation) → Continuation
next_as p (Some x) k again =
    update_then (next_shown k x)
    (tests p k.reading.test k.reading.buffer k.retry
    (λ s ans. or_again (takes p k x.cursor x.values s ans) (again x.cursor))
    (again x.cursor))
next_as p None k again = update_then (with_spot k.reading.buffer None) (completes NotFound)

-- continues after the answer to Next
abbrev pub was_next : Program → Search → (Cursor → Continuation) → Answer → Continuation
was_next p k again a = next_as p (found_in a) k again

-- searches by Next until a record is taken. Each Next costs a unit, so the units of the client bound the search
abbrev pub looks : Program → ℕ → Search → Option Cursor → Continuation
looks p zero k from s ans = Done (Stops out_of_units) s ans
looks p (suc n) k from s ans =
    asks (op.Next (table_of k.reading.buffer s) k.reading.index k.prefix from k.forward) (was_next p k (λ c. looks p n k (Some c))) s ans

-- evaluates the bracket, and searches
abbrev pub searches : Program → Reading → Bool → Bool → Bool → Bool → Option Cursor → Continuation
searches p r forward only wait retry from =
    all_values p (map (λ x. x.value) r.bracket) retry (λ values s ans.
    looks p s.units (record { reading = r; forward = forward; only = only; wait = wait; retry = retry; prefix = bracket_of r.bracket values }) from s ans)

-- ---- FOR

-- EACH
abbrev pub is_each : FetchWord → Bool
is_each fetch.Each = true
is_each fetch.First = false
is_each fetch.Last = false

-- EACH and FIRST
abbrev pub is_forward : FetchWord → Bool
is_forward fetch.Each = true
is_forward fetch.First = true
is_forward fetch.Last = false

-- reads the first record after a cursor
abbrev pub fetches_next : Program → Fetch → Bool → Option Cursor → Continuation
fetches_next p f retry from = searches p f.reading (is_forward f.word) false true retry from

-- reads the same record again, or the next one where it is lost
abbrev pub fetches_own : Program → Fetch → Bool → Cursor → Continuation
fetches_own p f retry own s ans =
    or_again (and_then (takes_again_as p f.reading.lock f.reading retry own.row s ans) (completes (Found own))) (fetches_next p f retry (Some own))

-- an iteration reads the first record, or the one after the FOR's last; a retry reads that one again
abbrev pub fetches_from : Program → Bool → Fetch → Bool → Option Cursor → Continuation
fetches_from p again f retry None = fetches_next p f retry None
fetches_from p true f retry (Some own) = fetches_own p f retry own
fetches_from p false f retry (Some own) = if_else (is_each f.word) (fetches_next p f retry (Some own)) (completes NotFound)

-- reads the record of an iteration: LOCKED becomes no, the old record is released
abbrev pub fetches : Program → Fetch → Turn → Bool → Continuation
fetches p f t retry s ans =
    and_then (releases p f.reading.buffer (marked_locked f.reading.buffer false s) ans) (fetches_from p t.retry f retry t.own)

-- ---- FIND

-- the same index
abbrev pub same_index : Option ℕ → Option ℕ → Bool
same_index None None = true
same_index (Some i) (Some j) = i == j
same_index None (Some j) = false
same_index (Some i) None = false

-- the cursor, if it is of this index
abbrev pub cursor_if : Bool → Cursor → Option Cursor
cursor_if true c = Some c
cursor_if false c = None

-- the cursor of a place in an index
abbrev pub cursor_in : Reading → Option Spot → Option Cursor
cursor_in r None = None
cursor_in r (Some spot) = cursor_if (same_index r.index spot.index) spot.cursor

-- the cursor of the buffer in the index of the reading
abbrev pub cursor_of : Reading → State → Option Cursor
cursor_of r s = cursor_in r (buffer_at r.buffer s).spot

-- the search of a FIND: its start and its direction
abbrev pub finds_as : Program → FindWord → Reading → Bool → Bool → Continuation
finds_as p find.Only r wait retry = searches p r true true wait retry None
finds_as p find.First r wait retry = searches p r true false wait retry None
finds_as p find.Last r wait retry = searches p r false false wait retry None
finds_as p find.Next r wait retry = λ s ans. searches p r true false wait retry (cursor_of r s) s ans
finds_as p find.Previous r wait retry = λ s ans. searches p r false false wait retry (cursor_of r s) s ans

-- fails where no record is found
abbrev pub none_found : ℕ → Continuation
none_found b = has_fault (NoRecordFound b)

-- no record: a fault, or ENDKEY of NEXT and PREV
abbrev pub lacks : FindWord → ℕ → Continuation
lacks find.Only b = none_found b
lacks find.First b = none_found b
lacks find.Last b = none_found b
lacks find.Next b = completes (EndKeys nothing_passed)
lacks find.Previous b = completes (EndKeys nothing_passed)

-- the completion of a FIND, from that of its search
abbrev pub found_completion : FindWord → ℕ → Completion → Continuation
found_completion word b (Found c) = completes Normal
found_completion word b NotFound = lacks word b
found_completion word b completion = completes completion

-- the same for an outcome
abbrev pub found : FindWord → ℕ → Outcome → Outcome
found word b (Done completion s ans) = found_completion word b completion s ans
found word b (Suspended d) = Suspended d

-- FIND: LOCKED becomes no, the old record is released, and the search runs
abbrev pub finds : Program → FindWord → Reading → Bool → Bool → Continuation
finds p word r wait retry s ans =
    found word r.buffer (and_then (releases p r.buffer (marked_locked r.buffer false s) ans) (finds_as p word r wait retry))

-- ---- FIND CURRENT, which tests no WHERE

-- empties the buffer, and fails
abbrev pub finds_none : ℕ → Continuation
finds_none b = update_then (emptied b) (none_found b)

-- after the row was read again
abbrev pub current_read : Option (List Value) → Reading → RowId → Option ℕ → Continuation
current_read (Some values) r row made = update_then (holding r.buffer (Record row values (held_as r.lock) made)) (completes Normal)
current_read None r row made = finds_none r.buffer

-- continues after the answer to Get
abbrev pub was_current : Reading → RowId → Option ℕ → Answer → Continuation
was_current r row made a = current_read (values_in a) r row made

-- reads the row again
abbrev pub gets_current : Reading → RowId → Option ℕ → Continuation
gets_current r row made s ans = asks (op.Get (table_of r.buffer s) row) (was_current r row made) s ans

-- after the lock was granted, refused, or the row was gone
abbrev pub current_granted_as : Grant → Reading → RowId → Option ℕ → Continuation
current_granted_as IsGranted r row made = gets_current r row made
current_granted_as IsBusy r row made = busy r.buffer
current_granted_as IsGone r row made = finds_none r.buffer

-- continues after the answer to Lock
abbrev pub current_granted : Reading → RowId → Option ℕ → Answer → Continuation
current_granted r row made a = current_granted_as (grant_in a) r row made

-- asks for the lock
abbrev pub locks_current : Reading → Bool → RowId → Option ℕ → Continuation
locks_current r wait row made s ans = asks (op.Lock (table_of r.buffer s) row (is_exclusive r.lock) wait) (current_granted r row made) s ans

-- locks the row only where a lock is requested
abbrev pub current_as : LockWanted → Reading → Bool → RowId → Option ℕ → Continuation
current_as wanted.NoLock r wait row made = gets_current r row made
current_as wanted.Share r wait row made = locks_current r wait row made
current_as wanted.Exclusive r wait row made = locks_current r wait row made

-- an empty buffer is a fault, a pending record is left as it is
abbrev pub current_in : Content → Reading → Bool → Continuation
current_in Empty r wait = has_fault (NoRecordIn r.buffer)
current_in (Pending values since made) r wait = update_then (marked_locked r.buffer false) (completes Normal)
current_in (Record row values held made) r wait = update_then (marked_locked r.buffer false) (current_as r.lock r wait row made)

-- FIND CURRENT
abbrev pub finds_current : Reading → Bool → Continuation
finds_current r wait s ans = current_in (content_of r.buffer s) r wait s ans
