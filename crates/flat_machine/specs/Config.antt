-- What the machine is about to do, and what remains to be done: tasks, a stack, and what follows an answer.
use Rattle.std.specs.Prelude.{ℕ, List, Bool, Option}
use Rattle.abl_base.specs.declared.row.RowId.{RowId}
use Rattle.database_protocol.specs.declared.row_order.Cursor.{Cursor}
use Rattle.abl_base.specs.declared.value.Value.{Value}
use Rattle.database_protocol.specs.declared.operation.Op.{Op}
use Rattle.bound_tree.specs.declared.statement.FindWord.{FindWord}
use Rattle.bound_tree.specs.declared.statement.Target.{Target}
use Rattle.bound_tree.specs.Tree.{Header, Action, Reading, Fetch, Right, Assignment, Argument}
use Rattle.block_meaning.specs.State.{State, Copy, Turn, Passed, Content, Held, Completion}
use Rattle.block_meaning.specs.Buffers.{Place}
use Rattle.block_meaning.specs.Reads.{Search}
use Rattle.block_meaning.specs.Blocks.{Iteration}

-- what the machine is about to do
pub data Task : Type 0 where
  EntersOne : (place : Place) → Task
  Enters : (places : List Place) → Task
  Drops : (b : ℕ) → Task
  Releases : (bs : List ℕ) → Task
  EntersRest : (copy : Option Copy) → Task
  LeavesIf : (copy : Option Copy) (but : List ℕ) → Task
  LeavesNow : (but : List ℕ) → Task
  Closing : (b : Header) (o : Iteration) → Task
  GoesBack : (copy : Option Copy) (but : List ℕ) → Task
  UpdatesOne : (mark : ℕ) (place : Place) → Task
  Updates : (mark : ℕ) (but : List ℕ) (places : List Place) → Task
  AfterBack : (copy : Copy) (but : List ℕ) → Task
  Acts : (b : Header) (o : Iteration) (act : Action) (retry : Bool) → Task
  -- reading
  IsOnly : (k : Search) (c : Cursor) (values : List Value) → Task
  Seconds : (n : ℕ) (k : Search) (c : Cursor) (values : List Value) (from : Cursor) → Task
  TakesAs : (r : Reading) (wait retry : Bool) (row : RowId) → Task
  TakesAgain : (r : Reading) (retry : Bool) (row : RowId) → Task
  Takes : (k : Search) (c : Cursor) (values : List Value) → Task
  Looks : (n : ℕ) (k : Search) (from : Option Cursor) → Task
  Searches : (r : Reading) (forward only wait retry : Bool) (from : Option Cursor) → Task
  FetchesFrom : (again : Bool) (f : Fetch) (retry : Bool) (own : Option Cursor) → Task
  Fetches : (f : Fetch) (t : Turn) (retry : Bool) → Task
  FindsAs : (word : FindWord) (r : Reading) (wait retry : Bool) → Task
  Finds : (word : FindWord) (r : Reading) (wait retry : Bool) → Task
  FindsCurrent : (r : Reading) (wait : Bool) → Task
  -- changes
  AssignsOne : (t : Target) (x : Right) (retry : Bool) → Task
  AssignsEach : (xs : List Assignment) (retry : Bool) → Task
  LocksOne : (b : ℕ) → Task
  LocksAll : (bs : List ℕ) → Task
  SettlesOne : (b : ℕ) → Task
  SettlesAll : (olds : List Content) (bs : List ℕ) → Task
  Assigns : (xs : List Assignment) (retry : Bool) → Task
  Creates : (b : ℕ) → Task
  Deletes : (b : ℕ) → Task
  DeletesRow : (b t : ℕ) (row : RowId) → Task
  Begun : (b : ℕ) → Task
  -- completes so; empties buffers
  Completes : (completion : Completion) → Task
  Empties : (but : List ℕ) → Task
  -- ends of iterations
  Closes : (b : Header) (o : Iteration) (completion : Completion) → Task
  Passes : (b : Header) (ended_way left_way : Completion) → Task
  UndoComes : (b : Header) (o : Iteration) (target : ℕ) (act : Action) (retry : Bool) (passed : Passed) → Task
  ErrorComes : (b : Header) (o : Iteration) (passed : Passed) → Task
  EndKeyComes : (b : Header) (o : Iteration) (passed : Passed) → Task
  EndsWith : (b : Header) (o : Iteration) (completion : Completion) → Task
  -- blocks and statements
  -- executes the instructions from a place on
  RunsFrom : (body : ℕ) (d : ℕ) (retry : Bool) → Task
  Begins : (b : Header) (copy : Option Copy) (t : Turn) (retry : Bool) (body : ℕ) (d : ℕ) → Task
  EntersLevel : (b : Header) (t : Turn) (retry : Bool) (body : ℕ) (d : ℕ) → Task
  Turns : (n : ℕ) (b : Header) (outer : Bool) (body : ℕ) (d : ℕ) (t : Turn) → Task
  Iterates : (b : Header) (outer : Bool) (body : ℕ) (d : ℕ) (t : Turn) → Task
  Blocks : (b : Header) (outer : Bool) (body : ℕ) (d : ℕ) → Task
  Imports : (n : ℕ) (ts : List (Option Target)) (retry : Bool) → Task
  Calls : (d n : ℕ) (args : List Argument) (vs : List Value) → Task

-- an entry of the stack: what follows when the task above it has completed
pub data StackEntry : Type 0 where
  -- after a normal completion the task follows
  ThenDo : (task : Task) → StackEntry
  -- after a record that was found and lost, the task follows
  OrDo : (task : Task) → StackEntry
  FoundAs : (word : FindWord) (b : ℕ) → StackEntry
  AsBefore : (olds : List Content) (bs : List ℕ) → StackEntry
  AfterClosing : (b : Header) (o : Iteration) (completion : Completion) → StackEntry
  Quiet : (quiet : Bool) → StackEntry
  Handles : (quiet : Bool) → StackEntry
  -- the body of an iteration
  In : (b : Header) (o : Iteration) → StackEntry
  -- the record of a FOR
  FetchedAs : (b : Header) (copy : Option Copy) (t : Turn) (buffer : ℕ) (body : ℕ) (d : ℕ) (retry : Bool) → StackEntry
  -- an iteration, and the bound on further ones
  AndAgain : (n : ℕ) (b : Header) (outer : Bool) (body : ℕ) (d : ℕ) → StackEntry
  -- a procedure
  Called : (args : List Argument) (procedure : ℕ) → StackEntry

-- what follows an answer
pub data OnAnswer : Type 0 where
  WasInserted : (place : Place) (t : ℕ) (values : List Value) (made : ℕ) → OnAnswer
  WasDropped : OnAnswer
  WasLeft : OnAnswer
  WasBack : (copy : Copy) (but : List ℕ) → OnAnswer
  WasGot : (place : Place) (row : RowId) (held : Held) (made : Option ℕ) → OnAnswer
  WasSecond : (n : ℕ) (k : Search) (c : Cursor) (values : List Value) → OnAnswer
  WasNext : (n : ℕ) (k : Search) → OnAnswer
  WasGranted : (r : Reading) (retry : Bool) (row : RowId) → OnAnswer
  WasRead : (r : Reading) (retry : Bool) (row : RowId) (held : Held) → OnAnswer
  CurrentGranted : (r : Reading) (row : RowId) (made : Option ℕ) → OnAnswer
  WasCurrent : (r : Reading) (row : RowId) (made : Option ℕ) → OnAnswer
  WasCounted : (t : Target) → OnAnswer
  WasUpgraded : (b : ℕ) (row : RowId) (values : List Value) (made : Option ℕ) → OnAnswer
  WasPut : (b t : ℕ) → OnAnswer
  WasDeleted : (b : ℕ) → OnAnswer
  WasEntered : (b : Header) (t : Turn) (retry : Bool) (body : ℕ) (d : ℕ) → OnAnswer

pub data Mode : Type 0 where
  Execute : (task : Task) → Mode
  Unwind : (completion : Completion) → Mode
  Await : (op : Op) (asking : OnAnswer) → Mode

pub record Config : Type 0 where
  pub mode : Mode
  pub stack : List StackEntry
  pub state : State
