-- The state of a client, and what a part of its run does to it.
use Rattle.std.specs.Prelude.{ℕ, zero, suc, ◌+◌, nat_lt, List, [], ◌∷◌, ◌++◌, Bool, true, false, Option, Some, None, length}
use Rattle.abl_base.specs.declared.limits.TheConstants.{MAX_OUTPUT_BYTES}
use Rattle.abl_base.specs.declared.row.RowId.{RowId}
use Rattle.database_protocol.specs.declared.row_order.Cursor.{Cursor}
use Rattle.abl_base.specs.declared.value.Value.{Value}
use Rattle.database_protocol.specs.declared.operation.Op.{Op}
use Rattle.database_protocol.specs.declared.answer.Answer.{Answer}
use Rattle.database_protocol.specs.declared.answer.Answer.TheVariants as answer
use Rattle.bound_tree.specs.Tree.{Action}
use Rattle.database_protocol.specs.declared.ends.StopWhy.TheVariants as why
use Rattle.database_protocol.specs.declared.ends.ClientEnd.{ClientEnd}
use Rattle.database_protocol.specs.declared.ends.ClientEnd.TheVariants as client
use Rattle.block_meaning.specs.declared.wants.Piece.{Piece}
use Rattle.block_meaning.specs.declared.wants.Piece.TheVariants.{Wrote, Opened}
use Rattle.database_protocol.specs.declared.next_step.NextStep.{NextStep}
use Rattle.database_protocol.specs.declared.next_step.NextStep.TheVariants.{Ask}
use Rattle.block_meaning.specs.Lines.{Complaint}

-- ---- the state

-- the lock under which a buffer holds its row
pub data Held : Type 0 where
  NoLock : Held
  Share : Held
  Exclusive : Held

-- what a buffer holds
pub data Content : Type 0 where
  Empty : Content
  -- a row of the database. `made` is the number of the CREATE of this buffer that made it, if one did
  Record : (row : RowId) (values : List Value) (held : Held) (made : Option ℕ) → Content
  -- a record that is not inserted yet: its values, the fields assigned since its CREATE, and the number of that CREATE
  Pending : (values : List Value) (since : List ℕ) (made : ℕ) → Content

-- the place in an index (None: in the order of row identities) of the last record read
pub record Spot : Type 0 where
  pub index : Option ℕ
  pub cursor : Cursor

-- a buffer: its table, its content, its place in an index, and LOCKED
pub record Buffer : Type 0 where
  pub table : ℕ
  pub content : Content
  pub spot : Option Spot
  pub locked : Bool

-- an open procedure: its number, its variables (those that an UNDO restores, and the NO-UNDO ones) and its buffers
pub record CallFrame : Type 0 where
  pub procedure : ℕ
  pub undoable : List Value
  pub no_undo : List Value
  pub buffers : List Buffer

-- a stream: the named output that it writes to, the named input that it reads, and the place of the next byte there.
-- None means the default section, and the client's own input
pub record Stream : Type 0 where
  pub output : Option ℕ
  pub input : Option ℕ
  pub at : ℕ

-- the state of a client
pub record State : Type 0 where
  -- the open procedures, the innermost first
  pub frames : List CallFrame
  -- the number of open levels: level 1 is the transaction
  pub level : ℕ
  pub units : ℕ
  -- the number of CREATEs so far
  pub made : ℕ
  -- ERROR-STATUS:ERROR and RETURN-VALUE
  pub status : Bool
  pub returned : List ℕ
  -- stream 0 is the unnamed one
  pub streams : List Stream
  -- the place in the client's own input
  pub at : ℕ
  -- what was written, and the number of its bytes
  pub written : List Piece
  pub size : ℕ

-- what an UNDO restores of an open procedure: its undoable variables, and for each buffer its pending record (else Empty)
pub record Saved : Type 0 where
  pub undoable : List Value
  pub contents : List Content

-- the copy made with an Enter: the level that it opened, the number of CREATEs before, and what to restore of each open procedure
pub record Copy : Type 0 where
  pub depth : ℕ
  pub made : ℕ
  pub frames : List Saved

-- ---- completions

-- what an UNDO, ERROR or ENDKEY has passed on its way out: the copy of the outermost level that was opened there, and the
-- buffers scoped there
pub record Passed : Type 0 where
  pub first : Option Copy
  pub buffers : List ℕ

-- the data with which an iteration of a block, or a retry of one, begins
pub record Turn : Type 0 where
  pub retry : Bool
  -- TO: the start value, in the first iteration alone; and the value of BY
  pub start : Option Value
  pub by : Value
  -- FOR: the cursor of the record that it read last
  pub own : Option Cursor

-- how a statement, an iteration or a block completes
pub data Completion : Type 0 where
  -- it reached its end
  Normal : Completion
  -- the iteration ended, and the block begins another one
  Again : (turn : Turn) → Completion
  -- LEAVE or NEXT propagates to the block of this number
  Leaves : (block : ℕ) → Completion
  Nexts : (block : ℕ) → Completion
  -- UNDO propagates to the block of this number. `retry` is the value of RETRY at the statement
  Undoes : (block : ℕ) (action : Action) (retry : Bool) (passed : Passed) → Completion
  -- a statement or a header failed. None: without a line, as RETURN ERROR of a procedure that was RUN
  Faults : (complaint : Option Complaint) → Completion
  -- ERROR or ENDKEY propagates to the block that handles it
  Raises : (passed : Passed) → Completion
  EndKeys : (passed : Passed) → Completion
  -- a search found a record, which the buffer now holds; found one that was then gone; or found none
  Found : (cursor : Cursor) → Completion
  Lost : Completion
  NotFound : Completion
  -- RETURN propagates to the RUN
  Returns : (error : Bool) → Completion
  -- the client ends
  Stops : (end : ClientEnd) → Completion

-- what a client has written, and its next step, when it has used all its answers
pub record Progress : Type 0 where
  pub written : List Piece
  pub wants : NextStep

-- the outcome of a part of a run: it completed, with these answers left; or it is suspended at an operation without an answer
pub data Outcome : Type 0 where
  Done : (completion : Completion) (s : State) (left : List Answer) → Outcome
  Suspended : (progress : Progress) → Outcome

-- a part of a run: the outcome from a state and the answers that are left
abbrev pub Continuation : Type 0
Continuation = State → List Answer → Outcome

-- no iteration is passed yet
abbrev pub nothing_passed : Passed
nothing_passed = record { first = None; buffers = [] }

-- ---- parts of a run

-- completes at once
abbrev pub completes : Completion → Continuation
completes completion s ans = Done completion s ans

-- the first where the condition holds, else the second
abbrev pub if_else : Bool → Continuation → Continuation → Continuation
if_else true one other s ans = one s ans
if_else false one other s ans = other s ans

-- changes the state, and continues
abbrev pub update_then : (State → State) → Continuation → Continuation
update_then change go s ans = go (change s) ans

-- the stop of a client that has no unit left
abbrev pub out_of_units : ClientEnd
out_of_units = client.Stop why.Budget

-- takes one of n units, and continues; with none left the client stops
abbrev pub costs_unit_of : ℕ → Continuation → Continuation
costs_unit_of zero go s ans = Done (Stops out_of_units) s ans
costs_unit_of (suc n) go s ans = go (record s { units = n }) ans

-- costs one unit
abbrev pub costs_unit : Continuation → Continuation
costs_unit go s ans = costs_unit_of s.units go s ans

-- suspended at an operation until it is answered; after Blocked it is suspended at the same operation again. The answers that
-- stop a client are handled here, the others by `go`
abbrev pub awaits : Op → (Answer → Continuation) → State → List Answer → Outcome
awaits op go s [] = Suspended (record { written = s.written; wants = Ask op })
awaits op go s (answer.Blocked holders ∷ ans) = awaits op go s ans
awaits op go s (answer.NoMemory ∷ ans) = Done (Stops client.NoMemory) s ans
awaits op go s (answer.Closed ∷ ans) = Done (Stops (client.Stop why.Closed)) s ans
awaits op go s (answer.Deadlock cycle ∷ ans) = Done (Stops (client.Stop why.Deadlock)) s ans
awaits op go s (answer.TxFull ∷ ans) = Done (Stops (client.Stop why.TxFull)) s ans
awaits op go s (answer.TraceFull ∷ ans) = Done (Stops (client.Stop why.TraceFull)) s ans
awaits op go s (a ∷ ans) = go a s ans

-- asks for an operation, which costs one unit
abbrev pub asks : Op → (Answer → Continuation) → Continuation
asks op go = costs_unit (awaits op go)

-- continues after a normal completion, and propagates any other
abbrev pub if_normal : Completion → Continuation → Continuation
if_normal Normal next s ans = next s ans
if_normal completion next s ans = Done completion s ans

-- one part after another: the second runs if the first completed normally
abbrev pub and_then : Outcome → Continuation → Outcome
and_then (Done completion s ans) next = if_normal completion next s ans
and_then (Suspended d) next = Suspended d

-- the result of a part that asks for no operation: its completion and the new state
pub record Completed : Type 0 where
  pub completion : Completion
  pub state : State

-- this completion in this state
abbrev pub completed : Completion → State → Completed
completed completion s = record { completion = completion; state = s }

-- such a part
abbrev pub immediately : (State → Completed) → Continuation
immediately f s ans = Done (f s).completion (f s).state ans

-- fails with this complaint
abbrev pub has_fault : Complaint → Continuation
has_fault c s ans = Done (Faults (Some c)) s ans

-- ---- writing

-- the number of bytes that a piece writes
abbrev pub bytes_in : Piece → ℕ
bytes_in (Wrote section bytes) = length bytes
bytes_in (Opened output append) = 0

-- writes the piece, unless the output is full
abbrev pub written_if : Bool → Piece → State → Completed
written_if true piece s = completed (Stops (client.Stop why.OutputFull)) s
written_if false piece s = completed Normal (record s { written = s.written ++ piece ∷ []; size = s.size + bytes_in piece })

-- writes the piece as a whole, unless the output would then have more than 16 MiB
abbrev pub wrote : Piece → State → Completed
wrote piece s = written_if (nat_lt MAX_OUTPUT_BYTES (s.size + bytes_in piece)) piece s

-- such a part
abbrev pub writes : Piece → Continuation
writes piece = immediately (wrote piece)
