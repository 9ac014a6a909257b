-- The levels that a mode and the stack name, each once: the innermost first, and each in the procedure in which it began.
use Rattle.std.specs.Prelude.{◌≡◌, ℕ, ◌+◌, ◌-◌, ◌<◌, ◌≤◌, List, [], ◌∷◌, Option, Some, None, length, map, take, slice_index_or}
use Rattle.block_meaning.specs.State.{Copy}
use Rattle.database_protocol.specs.declared.operation.Op.{Op}
use Rattle.database_protocol.specs.declared.operation.Op.TheVariants as op
use Rattle.client_memory.specs.Memory.{Remembered}
use Rattle.client_machine.specs.declared.mode.Completion.{Completion}
use Rattle.client_machine.specs.declared.mode.Completion.TheVariants as completion
use Rattle.client_machine.specs.declared.mode.Task.{Task}
use Rattle.client_machine.specs.declared.mode.Task.TheVariants as task
use Rattle.client_machine.specs.declared.mode.StackEntry.{StackEntry}
use Rattle.client_machine.specs.declared.mode.StackEntry.TheVariants as stack
use Rattle.client_machine.specs.declared.mode.OnAnswer.{OnAnswer}
use Rattle.client_machine.specs.declared.mode.OnAnswer.TheVariants as on_answer
use Rattle.client_machine.specs.declared.mode.Mode.{Mode}
use Rattle.client_machine.specs.declared.mode.Mode.TheVariants as mode
use Rattle.client_machine.specs.declared.mode.ends.EndTask.{EndTask}
use Rattle.client_machine.specs.declared.mode.ends.EndTask.TheVariants as end_task
use Rattle.client_machine.specs.declared.mode.ends.EndEntry.TheVariants as end_entry
use Rattle.client_machine.specs.declared.mode.ends.EndAnswer.{EndAnswer}
use Rattle.client_machine.specs.declared.mode.ends.EndAnswer.TheVariants as end_answer
use Rattle.client_machine.specs.declared.mode.reads.ReadEntry.TheVariants as read_entry

-- ---- what is open

-- the number of open procedures, and for each open level, the transaction's own first, the number that its copy has
pub record Nesting : Type 0 where
  pub procedures : ℕ
  pub levels : List ℕ

-- those of a memory
abbrev pub nesting_of : Remembered → Nesting
nesting_of m = record { procedures = length m.undoable; levels = map (λ c. length c.frames) m.copies }

-- the outer levels, up to this number
abbrev pub outside : ℕ → Nesting → Nesting
outside d n = record n { levels = take d n.levels }

-- the levels outside of one
abbrev pub under : Nesting → Option ℕ → Nesting
under n None = n
under n (Some d) = outside (d - 1) n

-- without the innermost level
abbrev pub left_in : Nesting → Nesting
left_in n = outside (length n.levels - 1) n

-- without the innermost procedure
abbrev pub returned_in : Nesting → Nesting
returned_in n = record n { procedures = n.procedures - 1 }

-- an open level, which began in the innermost procedure
abbrev pub IsOwn : Nesting → Option ℕ → Type 0
IsOwn n None = Unit {0}
IsOwn n (Some d) = (0 < d) × (d ≤ length n.levels) × (slice_index_or n.levels (d - 1) 0 ≡ n.procedures)

-- the innermost level
abbrev pub IsLast : Nesting → Option ℕ → Type 0
IsLast n None = Unit {0}
IsLast n (Some d) = d ≡ length n.levels

-- ---- the stack

-- the outer one of two
abbrev pub outer_of : Option ℕ → Option ℕ → Option ℕ
outer_of None inner = inner
outer_of (Some d) inner = Some d

-- the outermost level that an unwinding has passed
abbrev pub first_in : Completion → Option ℕ
first_in (completion.Undoes block a retry x) = x.first
first_in (completion.Raises x) = x.first
first_in (completion.EndKeys x) = x.first
first_in w = None

-- a completion that closes an iteration
abbrev pub ClosesIteration : Completion → Type 0
ClosesIteration completion.Normal = Unit {0}
ClosesIteration (completion.Again t) = Unit {0}
ClosesIteration (completion.Leaves l) = Unit {0}
ClosesIteration (completion.Nexts l) = Unit {0}
ClosesIteration (completion.Faults f) = Unit {0}
ClosesIteration (completion.Returns error) = Unit {0}
ClosesIteration (completion.Undoes block a retry x) = ⊥
ClosesIteration (completion.Raises x) = ⊥
ClosesIteration (completion.EndKeys x) = ⊥
ClosesIteration (completion.Found c) = ⊥
ClosesIteration completion.Lost = ⊥
ClosesIteration completion.NotFound = ⊥
ClosesIteration (completion.Stops why) = ⊥

-- a task that follows names no level
abbrev pub EndNamesNone : EndTask → Type 0
EndNamesNone (end_task.EntersOne at) = Unit {0}
EndNamesNone (end_task.Enters places from) = Unit {0}
EndNamesNone (end_task.Drops b) = Unit {0}
EndNamesNone (end_task.Releases k from) = Unit {0}
EndNamesNone (end_task.UpdatesOne made at) = Unit {0}
EndNamesNone (end_task.Updates made but places from) = Unit {0}
EndNamesNone (end_task.Empties but) = Unit {0}
EndNamesNone (end_task.Closes k t w) = first_in w ≡ None
EndNamesNone t = ⊥

abbrev pub NamesNone : Task → Type 0
NamesNone (task.RunsFrom k d retry) = Unit {0}
NamesNone (task.Completes w) = first_in w ≡ None
NamesNone (task.Acts k t a retry) = Unit {0}
NamesNone (task.End t) = EndNamesNone t
NamesNone (task.Read t) = Unit {0}
NamesNone (task.Change t) = Unit {0}
NamesNone t = ⊥

-- the innermost level, which began in the innermost procedure
abbrev pub IsInnermost : Nesting → Option ℕ → Type 0
IsInnermost n level = IsLast n level × IsOwn n level

-- the entry below is that of the iteration that is closed, where it has a level
abbrev pub IsAboveClosing : Option ℕ → List StackEntry → Type 0
IsAboveClosing None ks = Unit {0}
IsAboveClosing (Some d) (stack.End (end_entry.AfterClosing k o w) ∷ ks) = o.depth ≡ Some d
IsAboveClosing (Some d) ks = ⊥

-- a task follows, where the entries below are in order, and are so with the innermost level left. The level that an iteration
-- leaves as it closes is named by the entry of that iteration; the level that is left after Back is named by no entry
abbrev pub EndFollows : Nesting → EndTask → List StackEntry → Type 0 → Type 0 → Type 0
EndFollows n (end_task.EntersRest depth) ks in_order left = IsInnermost n depth × in_order
EndFollows n (end_task.LeavesIf depth k) ks in_order left = (IsInnermost n depth × IsAboveClosing depth ks) × in_order
EndFollows n (end_task.LeavesNow but) ks in_order left = IsOwn n (Some (length n.levels)) × left
EndFollows n t ks in_order left = EndNamesNone t × in_order

abbrev pub Follows : Nesting → Task → List StackEntry → Type 0 → Type 0 → Type 0
Follows n (task.End t) ks in_order left = EndFollows n t ks in_order left
Follows n t ks in_order left = NamesNone t × in_order

-- each level is named by one iteration, the innermost first, in the procedure in which it began
abbrev pub InOrder : Nesting → List StackEntry → Type 0
InOrder n [] = n.levels ≡ []
InOrder n (stack.Then t ∷ ks) = Follows n t ks (InOrder n ks) (InOrder (left_in n) ks)
InOrder n (stack.Handles quiet ∷ ks) = InOrder n ks
InOrder n (stack.In k o ∷ ks) = IsLast n o.depth × IsOwn n o.depth × InOrder (under n o.depth) ks
InOrder n (stack.AndAgain fuel k outer d ∷ ks) = InOrder n ks
InOrder n (stack.Called k ∷ ks) = (0 < n.procedures) × InOrder (returned_in n) ks
InOrder n (stack.End (end_entry.AfterClosing k o w) ∷ ks) = ClosesIteration w × (IsLast n o.depth × IsOwn n o.depth × InOrder (under n o.depth) ks)
InOrder n (stack.Read (read_entry.FetchedAs k depth t retry d) ∷ ks) = IsLast n depth × IsOwn n depth × InOrder (under n depth) ks
InOrder n (stack.Read e ∷ ks) = InOrder n ks
InOrder n (stack.Change e ∷ ks) = InOrder n ks

-- a completion that reaches a task that leaves a level is normal, or stops the client
abbrev pub IsNormalOrStop : Completion → Type 0
IsNormalOrStop completion.Normal = Unit {0}
IsNormalOrStop (completion.Stops why) = Unit {0}
IsNormalOrStop w = ⊥

abbrev pub CanReach : Task → Completion → Type 0
CanReach (task.End (end_task.LeavesNow but)) w = IsNormalOrStop w
CanReach t w = Unit {0}

-- an unwinding has passed the level, and those inside it
abbrev pub Named : Nesting → Option ℕ → List StackEntry → Type 0
Named n level ks = IsOwn n level × InOrder (under n level) ks

-- the innermost level is left next
abbrev pub LeavesInOrder : Nesting → List StackEntry → Type 0
LeavesInOrder n ks = (0 < length n.levels) × InOrder (left_in n) ks

-- ---- the mode

-- a stop leaves everything open
abbrev pub CompletesInOrder : Nesting → Completion → List StackEntry → Type 0
CompletesInOrder n (completion.Undoes block a retry x) ks = Named n x.first ks
CompletesInOrder n (completion.Raises x) ks = Named n x.first ks
CompletesInOrder n (completion.EndKeys x) ks = Named n x.first ks
CompletesInOrder n (completion.Stops why) ks = Unit {0}
CompletesInOrder n w ks = Named n None ks

abbrev pub EndTaskInOrder : Nesting → EndTask → List StackEntry → Type 0
EndTaskInOrder n (end_task.EntersRest depth) ks = IsInnermost n depth × InOrder n ks
EndTaskInOrder n (end_task.LeavesIf depth k) ks = (IsInnermost n depth × IsAboveClosing depth ks) × InOrder n ks
EndTaskInOrder n (end_task.LeavesNow but) ks = LeavesInOrder n ks
EndTaskInOrder n (end_task.Closing k depth) ks = (IsInnermost n depth × IsAboveClosing depth ks) × InOrder n ks
EndTaskInOrder n (end_task.GoesBack depth but) ks = Named n depth ks
EndTaskInOrder n (end_task.AfterBack depth but) ks = Named n (Some depth) ks
EndTaskInOrder n (end_task.Closes k t w) ks = (first_in w ≡ None) × InOrder n ks
EndTaskInOrder n t ks = Named n None ks

abbrev pub TaskInOrder : Nesting → Task → List StackEntry → Type 0
TaskInOrder n (task.Begins k depth t retry d) ks = InOrder n (stack.In k (record { depth = depth; turn = t }) ∷ ks)
TaskInOrder n (task.UndoComes k o block a retry x) ks = Named n x.first (stack.In k o ∷ ks)
TaskInOrder n (task.GoesBack depth) ks = Named n depth ks
TaskInOrder n task.LeavesNow ks = LeavesInOrder n ks
TaskInOrder n (task.Completes w) ks = CompletesInOrder n w ks
TaskInOrder n (task.EndsWith k o w) ks = CompletesInOrder n w (stack.In k o ∷ ks)
TaskInOrder n (task.End t) ks = EndTaskInOrder n t ks
TaskInOrder n t ks = Named n None ks

abbrev pub EndAnswerInOrder : Nesting → EndAnswer → List StackEntry → Type 0
EndAnswerInOrder n (end_answer.WasBack depth but) ks = Named n (Some depth) ks
EndAnswerInOrder n k ks = InOrder n ks

abbrev pub AskingInOrder : Nesting → OnAnswer → List StackEntry → Type 0
AskingInOrder n (on_answer.WasEntered k t retry d) ks = InOrder n ks
AskingInOrder n (on_answer.WasBack depth) ks = Named n (Some depth) ks
AskingInOrder n on_answer.WasLeft ks = LeavesInOrder n ks
AskingInOrder n (on_answer.End k) ks = EndAnswerInOrder n k ks
AskingInOrder n (on_answer.Read k) ks = InOrder n ks
AskingInOrder n (on_answer.Change k) ks = InOrder n ks

-- the answer follows this operation on levels, or one that is not on levels
abbrev pub IsNotOnLevels : Op → Type 0
IsNotOnLevels op.Enter = ⊥
IsNotOnLevels (op.Leave keep) = ⊥
IsNotOnLevels (op.Back depth) = ⊥
IsNotOnLevels op.End = ⊥
IsNotOnLevels other = Unit {0}

abbrev pub IsLeave : Op → Type 0
IsLeave (op.Leave keep) = Unit {0}
IsLeave other = ⊥

abbrev pub IsAskedFor : OnAnswer → Op → Type 0
IsAskedFor (on_answer.WasEntered k t retry d) o = o ≡ op.Enter
IsAskedFor (on_answer.WasBack depth) o = o ≡ op.Back depth
IsAskedFor on_answer.WasLeft o = IsLeave o
IsAskedFor (on_answer.End (end_answer.WasBack depth but)) o = o ≡ op.Back depth
IsAskedFor k o = IsNotOnLevels o

abbrev pub ModeInOrder : Nesting → Mode → List StackEntry → Type 0
ModeInOrder n (mode.Execute t) ks = TaskInOrder n t ks
ModeInOrder n (mode.Unwind w) ks = CompletesInOrder n w ks
ModeInOrder n (mode.Await o k) ks = IsAskedFor k o × AskingInOrder n k ks

-- each copy has its own depth
abbrev pub HaveDepths : ℕ → List Copy → Type 0
HaveDepths n [] = Unit {0}
HaveDepths n (c ∷ cs) = (c.depth ≡ n + 1) × HaveDepths (n + 1) cs

-- no fault
abbrev pub IsNoFault : Completion → Type 0
IsNoFault (completion.Faults f) = ⊥
IsNoFault w = Unit {0}
