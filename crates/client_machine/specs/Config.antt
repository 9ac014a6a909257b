-- What the fields of a machine denote.
use Rattle.std.specs.Prelude.{ℕ, ◌-◌, ◌≤◌, ◌<◌, Bool, false, List, [], ◌∷◌, Option, Some, None, drop, map, reverse, length, slice_get, slice_index_or}
use Rattle.bound_tree.specs.Tree.{Header, Action, Argument, Assignment, Fetch, Given, Reading, Run, ThenRetry, ThenLeave, ThenNext, ThenReturn, ThenError}
use Rattle.database_protocol.specs.declared.ends.ClientEnd.TheVariants as client
use Rattle.block_meaning.specs.State as state
use Rattle.block_meaning.specs.State.{State, CallFrame, Copy, Passed}
use Rattle.block_meaning.specs.Blocks as blocks
use Rattle.block_meaning.specs.Reads.{Search}
use Rattle.flat_machine.specs.Flat as flat
use Rattle.abl_base.specs.declared.value.Value.TheVariants.{Unknown}
use Rattle.database_protocol.specs.declared.row_order.Cursor.{Cursor}
use Rattle.client_memory.specs.Buffers.{denoted_content, denoted_held, denoted_place}
use Rattle.record_rules.specs.lines.Complaints as complaints
use Rattle.client_memory.specs.Memory.{Remembered}
pub use Rattle.client_values.specs.Variables.{frames_out, AreEven}
use Rattle.block_code.specs.declared.code.Instr.{Instr}
use Rattle.block_code.specs.Code.{instr_of, header_in, body_in}
use Rattle.client_machine.specs.Actions.{returned_in}
use Rattle.client_machine.specs.Statements.{reading_in, fetch_in, find_word_in, wait_in, pairs_in, inserted_table, inserted_values}
use Rattle.client_machine.specs.declared.mode.TurnData.{TurnData}
use Rattle.client_machine.specs.declared.mode.IterationData.{IterationData}
use Rattle.client_machine.specs.declared.mode.AfterUndo.{AfterUndo}
use Rattle.client_machine.specs.declared.mode.AfterUndo.TheVariants as after_undo
use Rattle.client_machine.specs.declared.mode.PassedLevels.{PassedLevels}
use Rattle.block_meaning.specs.Lines.{Complaint, complaint_of}
use Rattle.client_machine.specs.declared.mode.LineFault.{LineFault}
use Rattle.client_machine.specs.declared.mode.LineFault.TheVariants as line_fault
use Rattle.client_machine.specs.declared.mode.Completion.{Completion}
use Rattle.client_machine.specs.declared.mode.Completion.TheVariants as completion
use Rattle.client_machine.specs.declared.mode.Task.{Task}
use Rattle.client_machine.specs.declared.mode.Task.TheVariants as task
use Rattle.client_machine.specs.declared.mode.StackEntry.{StackEntry}
use Rattle.client_machine.specs.declared.mode.StackEntry.TheVariants as stack
use Rattle.client_machine.specs.declared.mode.OnAnswer.{OnAnswer}
use Rattle.client_machine.specs.declared.mode.OnAnswer.TheVariants as on_answer
use Rattle.client_machine.specs.declared.mode.Mode.{Mode}
use Rattle.client_machine.specs.declared.mode.Mode.TheVariants as mode
use Rattle.client_machine.specs.declared.mode.ends.BufferList.{BufferList}
use Rattle.client_machine.specs.declared.mode.ends.BufferList.TheVariants as buffer_list
use Rattle.client_machine.specs.declared.mode.ends.EndTask.{EndTask}
use Rattle.client_machine.specs.declared.mode.ends.EndTask.TheVariants as end_task
use Rattle.client_machine.specs.declared.mode.ends.EndEntry.{EndEntry}
use Rattle.client_machine.specs.declared.mode.ends.EndEntry.TheVariants as end_entry
use Rattle.client_machine.specs.declared.mode.ends.EndAnswer.{EndAnswer}
use Rattle.client_machine.specs.declared.mode.ends.EndAnswer.TheVariants as end_answer
use Rattle.client_machine.specs.declared.mode.reads.SearchData.{SearchData}
use Rattle.client_machine.specs.declared.mode.reads.ReadTask.{ReadTask}
use Rattle.client_machine.specs.declared.mode.reads.ReadTask.TheVariants as read_task
use Rattle.client_machine.specs.declared.mode.reads.ReadEntry.{ReadEntry}
use Rattle.client_machine.specs.declared.mode.reads.ReadEntry.TheVariants as read_entry
use Rattle.client_machine.specs.declared.mode.reads.ReadAnswer.{ReadAnswer}
use Rattle.client_machine.specs.declared.mode.reads.ReadAnswer.TheVariants as read_answer
use Rattle.client_machine.specs.declared.mode.changes.GivenValue.{GivenValue}
use Rattle.client_machine.specs.declared.mode.changes.AssignmentList.{AssignmentList}
use Rattle.client_machine.specs.declared.mode.changes.AssignmentList.TheVariants as assignment_list
use Rattle.client_machine.specs.declared.mode.changes.ChangeTask.{ChangeTask}
use Rattle.client_machine.specs.declared.mode.changes.ChangeTask.TheVariants as change_task
use Rattle.client_machine.specs.declared.mode.changes.ChangeEntry.{ChangeEntry}
use Rattle.client_machine.specs.declared.mode.changes.ChangeEntry.TheVariants as change_entry
use Rattle.client_machine.specs.declared.mode.changes.ChangeAnswer.{ChangeAnswer}
use Rattle.client_machine.specs.declared.mode.changes.ChangeAnswer.TheVariants as change_answer
use Rattle.database_protocol.specs.declared.operation.Op.{Op}

-- ---- code

-- an instruction, and End where there is none
abbrev pub instr_or : Option Instr → flat.Instr
instr_or None = flat.Ends
instr_or (Some i) = instr_of i

-- at a place
abbrev pub instr_at : List Instr → ℕ → flat.Instr
instr_at code k = instr_or (slice_get code k)

-- the header of the block there, and the place of its body
abbrev pub header_at : List Instr → ℕ → Header
header_at code k = header_in (instr_at code k)

abbrev pub body_at : List Instr → ℕ → ℕ
body_at code k = body_in (instr_at code k)

-- the RUN at a place: its arguments, and the number of its procedure
abbrev pub run_arguments : flat.Instr → List Argument
run_arguments (flat.Plain (Run n args quiet) next) = args
run_arguments i = []

abbrev pub run_procedure : flat.Instr → ℕ
run_procedure (flat.Plain (Run n args quiet) next) = n
run_procedure i = 0

-- ---- levels

abbrev pub no_copy : Copy
no_copy = record { depth = 0; made = 0; frames = [] }

-- the copy of a level
abbrev pub copy_in : List Copy → Option ℕ → Option Copy
copy_in cs None = None
copy_in cs (Some d) = Some (slice_index_or cs (d - 1) no_copy)

-- ---- the stack

abbrev pub turn_of : TurnData → state.Turn
turn_of t = record { retry = t.retry; start = t.start; by = t.by; own = t.own }

-- an iteration whose level is left
abbrev pub iteration_without : TurnData → blocks.Iteration
iteration_without t = record { copy = None; turn = turn_of t }

abbrev pub iteration_of : List Copy → IterationData → blocks.Iteration
iteration_of cs o = record { copy = copy_in cs o.depth; turn = turn_of o.turn }

abbrev pub after_undo_of : List Instr → AfterUndo → Action
after_undo_of code after_undo.Retry = ThenRetry
after_undo_of code (after_undo.Leave l) = ThenLeave l
after_undo_of code (after_undo.Next l) = ThenNext l
after_undo_of code (after_undo.Return error k source) = ThenReturn error (returned_in source (instr_at code k))
after_undo_of code after_undo.Error = ThenError

-- the buffers of a list
abbrev pub buffers_of : List Instr → BufferList → List ℕ
buffers_of code buffer_list.None = []
buffers_of code (buffer_list.Scoped k) = (header_at code k).scoped
buffers_of code (buffer_list.These bs) = bs

abbrev pub passed_of : List Instr → List Copy → PassedLevels → Passed
passed_of code cs x = record { first = copy_in cs x.first; buffers = buffers_of code x.buffers }

-- the complaint about a fault
abbrev pub complaint_in : LineFault → Complaint
complaint_in (line_fault.Expression f) = complaint_of f
complaint_in (line_fault.Complaint c) = complaints.complaint_in c

-- the same, if there is one
abbrev pub complaint_if : Option LineFault → Option Complaint
complaint_if None = None
complaint_if (Some f) = Some (complaint_in f)

abbrev pub completion_of : List Instr → List Copy → Completion → state.Completion
completion_of code cs completion.Normal = state.Normal
completion_of code cs (completion.Again t) = state.Again (turn_of t)
completion_of code cs (completion.Leaves l) = state.Leaves l
completion_of code cs (completion.Nexts l) = state.Nexts l
completion_of code cs (completion.Undoes block a retry x) = state.Undoes block (after_undo_of code a) retry (passed_of code cs x)
completion_of code cs (completion.Faults f) = state.Faults (complaint_if f)
completion_of code cs (completion.Raises x) = state.Raises (passed_of code cs x)
completion_of code cs (completion.EndKeys x) = state.EndKeys (passed_of code cs x)
completion_of code cs (completion.Found c) = state.Found c
completion_of code cs completion.Lost = state.Lost
completion_of code cs completion.NotFound = state.NotFound
completion_of code cs (completion.Returns error) = state.Returns error
completion_of code cs (completion.Stops why) = state.Stops (client.Stop why)

-- the data of an iteration so far as the reading of a FOR takes them
abbrev pub turn_read : Bool → Option Cursor → state.Turn
turn_read again own = record { retry = again; start = None; by = Unknown; own = own }

-- ---- the ends of iterations

abbrev pub end_task_of : List Instr → List Copy → EndTask → flat.Task
end_task_of code cs (end_task.EntersOne at) = flat.EntersOne (denoted_place at)
end_task_of code cs (end_task.Enters places from) = flat.Enters (drop from (map denoted_place places))
end_task_of code cs (end_task.Drops b) = flat.Drops b
end_task_of code cs (end_task.Releases k from) = flat.Releases (drop from (header_at code k).scoped)
end_task_of code cs (end_task.EntersRest depth) = flat.EntersRest (copy_in cs depth)
end_task_of code cs (end_task.LeavesIf depth k) = flat.LeavesIf (copy_in cs depth) (header_at code k).scoped
end_task_of code cs (end_task.LeavesNow but) = flat.LeavesNow (buffers_of code but)
end_task_of code cs (end_task.Closing k depth) = flat.Closing (header_at code k) (record { copy = copy_in cs depth; turn = turn_read false None })
end_task_of code cs (end_task.GoesBack depth but) = flat.GoesBack (copy_in cs depth) (buffers_of code but)
end_task_of code cs (end_task.AfterBack depth but) = flat.AfterBack (slice_index_or cs (depth - 1) no_copy) (buffers_of code but)
end_task_of code cs (end_task.UpdatesOne made at) = flat.UpdatesOne made (denoted_place at)
end_task_of code cs (end_task.Updates made but places from) = flat.Updates made (buffers_of code but) (drop from (map denoted_place places))
end_task_of code cs (end_task.Empties but) = flat.Empties (buffers_of code but)
end_task_of code cs (end_task.Closes k t w) = flat.Closes (header_at code k) (iteration_without t) (completion_of code cs w)

abbrev pub end_entry_of : List Instr → List Copy → EndEntry → flat.StackEntry
end_entry_of code cs (end_entry.AfterClosing k o w) = flat.AfterClosing (header_at code k) (iteration_of cs o) (completion_of code cs w)

-- the operation has the row of an Insert
abbrev pub end_answer_of : List Instr → List Copy → Op → EndAnswer → flat.OnAnswer
end_answer_of code cs o (end_answer.WasInserted at made) = flat.WasInserted (denoted_place at) (inserted_table o) (inserted_values o) made
end_answer_of code cs o end_answer.WasDropped = flat.WasDropped
end_answer_of code cs o (end_answer.WasBack depth but) = flat.WasBack (slice_index_or cs (depth - 1) no_copy) (buffers_of code but)
end_answer_of code cs o (end_answer.WasGot at row held made) = flat.WasGot (denoted_place at) row (denoted_held held) made

-- ---- readings

-- that of the statement or header at a place
abbrev pub reading_at : List Instr → ℕ → Reading
reading_at code k = reading_in (instr_at code k)

-- that of a FOR
abbrev pub fetch_at : List Instr → ℕ → Fetch
fetch_at code k = fetch_in (header_at code k).fetch

abbrev pub search_of : List Instr → SearchData → Search
search_of code k = record { reading = reading_at code k.place; forward = k.forward; only = k.only; wait = k.wait; retry = k.retry; prefix = k.prefix }

abbrev pub read_task_of : List Instr → ReadTask → flat.Task
read_task_of code (read_task.TakesAs k wait retry row) = flat.TakesAs (reading_at code k) wait retry row
read_task_of code (read_task.Looks n k from) = flat.Looks n (search_of code k) from
read_task_of code (read_task.Searches k forward only wait retry from) = flat.Searches (reading_at code k) forward only wait retry from
read_task_of code (read_task.FetchesFrom k again retry own) = flat.FetchesFrom again (fetch_at code k) retry own
read_task_of code (read_task.Fetches k again retry own) = flat.Fetches (fetch_at code k) (turn_read again own) retry
read_task_of code (read_task.FindsAs k retry) = flat.FindsAs (find_word_in (instr_at code k)) (reading_at code k) (wait_in (instr_at code k)) retry
read_task_of code (read_task.Finds k retry) = flat.Finds (find_word_in (instr_at code k)) (reading_at code k) (wait_in (instr_at code k)) retry
read_task_of code (read_task.FindsCurrent k) = flat.FindsCurrent (reading_at code k) (wait_in (instr_at code k))

abbrev pub read_entry_of : List Instr → List Copy → ReadEntry → flat.StackEntry
read_entry_of code cs (read_entry.OrDo t) = flat.OrDo (read_task_of code t)
read_entry_of code cs (read_entry.FoundAs k) = flat.FoundAs (find_word_in (instr_at code k)) (reading_at code k).buffer
read_entry_of code cs (read_entry.FetchedAs k depth t retry d) = flat.FetchedAs (header_at code k) (copy_in cs depth) (turn_of t) (fetch_at code k).reading.buffer (body_at code k) d retry
read_entry_of code cs (read_entry.Quiet quiet) = flat.Quiet quiet

abbrev pub read_answer_of : List Instr → ReadAnswer → flat.OnAnswer
read_answer_of code (read_answer.WasNext n k) = flat.WasNext n (search_of code k)
read_answer_of code (read_answer.WasSecond n k c values) = flat.WasSecond n (search_of code k) c values
read_answer_of code (read_answer.WasGranted k retry row) = flat.WasGranted (reading_at code k) retry row
read_answer_of code (read_answer.WasRead k retry row held) = flat.WasRead (reading_at code k) retry row (denoted_held held)
read_answer_of code (read_answer.CurrentGranted k row made) = flat.CurrentGranted (reading_at code k) row made
read_answer_of code (read_answer.WasCurrent k row made) = flat.WasCurrent (reading_at code k) row made

-- ---- changes

-- a value that IMPORT has read
abbrev pub given_of : GivenValue → Assignment
given_of x = record { target = x.target; right = Given x.value }

-- the assignments that are left
abbrev pub assignments_of : List Instr → AssignmentList → List Assignment
assignments_of code (assignment_list.Statement k from) = drop from (pairs_in (instr_at code k))
assignments_of code (assignment_list.Given vs) = map given_of (reverse vs.items)

abbrev pub change_task_of : List Instr → ChangeTask → flat.Task
change_task_of code (change_task.Assigns pairs retry) = flat.Assigns (assignments_of code pairs) retry
change_task_of code (change_task.AssignsEach pairs retry) = flat.AssignsEach (assignments_of code pairs) retry
change_task_of code (change_task.LocksOne b) = flat.LocksOne b
change_task_of code (change_task.SettlesOne b) = flat.SettlesOne b
change_task_of code (change_task.Creates b) = flat.Creates b
change_task_of code (change_task.Begun b) = flat.Begun b
change_task_of code (change_task.Deletes b) = flat.Deletes b
change_task_of code (change_task.DeletesRow b t row) = flat.DeletesRow b t row

abbrev pub change_entry_of : ChangeEntry → flat.StackEntry
change_entry_of (change_entry.AsBefore b content) = flat.AsBefore (denoted_content content ∷ []) (b ∷ [])

abbrev pub change_answer_of : ChangeAnswer → flat.OnAnswer
change_answer_of (change_answer.WasCounted t) = flat.WasCounted t
change_answer_of (change_answer.WasUpgraded b row values made) = flat.WasUpgraded b row values made
change_answer_of (change_answer.WasPut b t) = flat.WasPut b t
change_answer_of (change_answer.WasDeleted b) = flat.WasDeleted b

-- ---- all of them

abbrev pub task_of : List Instr → List Copy → Task → flat.Task
task_of code cs (task.RunsFrom k d retry) = flat.RunsFrom k d retry
task_of code cs (task.Blocks k outer d) = flat.Blocks (header_at code k) outer (body_at code k) d
task_of code cs (task.Turns n k outer d t) = flat.Turns n (header_at code k) outer (body_at code k) d (turn_of t)
task_of code cs (task.EntersLevel k t retry d) = flat.EntersLevel (header_at code k) (turn_of t) retry (body_at code k) d
task_of code cs (task.Begins k depth t retry d) = flat.Begins (header_at code k) (copy_in cs depth) (turn_of t) retry (body_at code k) d
task_of code cs (task.Iterates k outer d t) = flat.Iterates (header_at code k) outer (body_at code k) d (turn_of t)
task_of code cs (task.UndoComes k o block a retry x) = flat.UndoComes (header_at code k) (iteration_of cs o) block (after_undo_of code a) retry (passed_of code cs x)
task_of code cs (task.GoesBack depth) = flat.GoesBack (copy_in cs depth) []
task_of code cs (task.Acts k t a retry) = flat.Acts (header_at code k) (iteration_without t) (after_undo_of code a) retry
task_of code cs task.LeavesNow = flat.LeavesNow []
task_of code cs (task.Completes w) = flat.Completes (completion_of code cs w)
task_of code cs (task.EndsWith k o w) = flat.EndsWith (header_at code k) (iteration_of cs o) (completion_of code cs w)
task_of code cs (task.Calls k d vs) = flat.Calls d (run_procedure (instr_at code k)) (run_arguments (instr_at code k)) vs
task_of code cs (task.End t) = end_task_of code cs t
task_of code cs (task.Read t) = read_task_of code t
task_of code cs (task.Change t) = change_task_of code t

abbrev pub entry_of : List Instr → List Copy → StackEntry → flat.StackEntry
entry_of code cs (stack.Then t) = flat.ThenDo (task_of code cs t)
entry_of code cs (stack.Handles quiet) = flat.Handles quiet
entry_of code cs (stack.In k o) = flat.In (header_at code k) (iteration_of cs o)
entry_of code cs (stack.AndAgain n k outer d) = flat.AndAgain n (header_at code k) outer (body_at code k) d
entry_of code cs (stack.Called k) = flat.Called (run_arguments (instr_at code k)) (run_procedure (instr_at code k))
entry_of code cs (stack.End e) = end_entry_of code cs e
entry_of code cs (stack.Read e) = read_entry_of code cs e
entry_of code cs (stack.Change e) = change_entry_of e

-- all of it, the innermost first
abbrev pub stack_of : List Instr → List Copy → List StackEntry → List flat.StackEntry
stack_of code cs ks = map (entry_of code cs) ks

-- what follows the answer to this operation
abbrev pub on_answer_of : List Instr → List Copy → Op → OnAnswer → flat.OnAnswer
on_answer_of code cs o (on_answer.WasEntered k t retry d) = flat.WasEntered (header_at code k) (turn_of t) retry (body_at code k) d
on_answer_of code cs o (on_answer.WasBack depth) = flat.WasBack (slice_index_or cs (depth - 1) no_copy) []
on_answer_of code cs o on_answer.WasLeft = flat.WasLeft
on_answer_of code cs o (on_answer.End k) = end_answer_of code cs o k
on_answer_of code cs o (on_answer.Read k) = read_answer_of code k
on_answer_of code cs o (on_answer.Change k) = change_answer_of k

abbrev pub mode_of : List Instr → List Copy → Mode → flat.Mode
mode_of code cs (mode.Execute t) = flat.Execute (task_of code cs t)
mode_of code cs (mode.Unwind w) = flat.Unwind (completion_of code cs w)
mode_of code cs (mode.Await o k) = flat.Await o (on_answer_of code cs o k)

-- ---- the state

-- the state; `rest` has the fields that the machine does not have
abbrev pub state_of : State → List ℕ → Remembered → ℕ → State
state_of rest ns m units = record rest { frames = reverse (frames_out ns m.undoable m.no_undo m.buffers); level = length m.copies; units = units }

-- ---- levels that entries name

-- the level is open
abbrev pub IsBelow : ℕ → Option ℕ → Type 0
IsBelow n None = Unit {0}
IsBelow n (Some d) = (0 < d) × (d ≤ n)

abbrev pub CompletionBelow : ℕ → Completion → Type 0
CompletionBelow n (completion.Undoes block a retry x) = IsBelow n x.first
CompletionBelow n (completion.Raises x) = IsBelow n x.first
CompletionBelow n (completion.EndKeys x) = IsBelow n x.first
CompletionBelow n other = Unit {0}

abbrev pub EndTaskBelow : ℕ → EndTask → Type 0
EndTaskBelow n (end_task.EntersRest depth) = IsBelow n depth
EndTaskBelow n (end_task.LeavesIf depth k) = IsBelow n depth
EndTaskBelow n (end_task.Closing k depth) = IsBelow n depth
EndTaskBelow n (end_task.GoesBack depth but) = IsBelow n depth
EndTaskBelow n (end_task.AfterBack depth but) = IsBelow n (Some depth)
EndTaskBelow n (end_task.Closes k t w) = CompletionBelow n w
EndTaskBelow n other = Unit {0}

abbrev pub TaskBelow : ℕ → Task → Type 0
TaskBelow n (task.Begins k depth t retry d) = IsBelow n depth
TaskBelow n (task.UndoComes k o block a retry x) = IsBelow n o.depth × IsBelow n x.first
TaskBelow n (task.GoesBack depth) = IsBelow n depth
TaskBelow n (task.Completes w) = CompletionBelow n w
TaskBelow n (task.EndsWith k o w) = IsBelow n o.depth × CompletionBelow n w
TaskBelow n (task.End t) = EndTaskBelow n t
TaskBelow n other = Unit {0}

abbrev pub ReadEntryBelow : ℕ → ReadEntry → Type 0
ReadEntryBelow n (read_entry.FetchedAs k depth t retry d) = IsBelow n depth
ReadEntryBelow n other = Unit {0}

abbrev pub OpenBelow : ℕ → StackEntry → Type 0
OpenBelow n (stack.Then t) = TaskBelow n t
OpenBelow n (stack.Handles quiet) = Unit {0}
OpenBelow n (stack.In k o) = IsBelow n o.depth
OpenBelow n (stack.AndAgain fuel k outer d) = Unit {0}
OpenBelow n (stack.Called k) = Unit {0}
OpenBelow n (stack.End (end_entry.AfterClosing k o w)) = IsBelow n o.depth × CompletionBelow n w
OpenBelow n (stack.Read e) = ReadEntryBelow n e
OpenBelow n (stack.Change e) = Unit {0}

abbrev pub AllBelow : ℕ → List StackEntry → Type 0
AllBelow n [] = Unit {0}
AllBelow n (k ∷ ks) = OpenBelow n k × AllBelow n ks
