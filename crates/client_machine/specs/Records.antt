-- How the statements on records begin.
use Rattle.std.specs.Prelude.{ℕ, Bool, List, ◌∷◌, Option, Some, None}
use Rattle.bound_tree.specs.Tree.{Stmt, Assign, Find, FindCurrent, Create, Remove, Release}
use Rattle.flat_machine.specs.Flat as flat
use Rattle.client_machine.specs.Statements.{reading_in, find_word_in, wait_in, pairs_in}
use Rattle.client_machine.specs.declared.statements.RecordStmt.{RecordStmt}
use Rattle.client_machine.specs.declared.statements.RecordStmt.TheVariants as record_stmt
use Rattle.client_machine.specs.declared.mode.Task.{Task}
use Rattle.client_machine.specs.declared.mode.Task.TheVariants as task
use Rattle.client_machine.specs.declared.mode.StackEntry.{StackEntry}
use Rattle.client_machine.specs.declared.mode.StackEntry.TheVariants as stack
use Rattle.client_machine.specs.declared.mode.ends.EndTask.TheVariants as end_task
use Rattle.client_machine.specs.declared.mode.reads.ReadTask.TheVariants as read_task
use Rattle.client_machine.specs.declared.mode.reads.ReadEntry.TheVariants as read_entry
use Rattle.client_machine.specs.declared.mode.changes.ChangeTask.TheVariants as change_task
use Rattle.client_machine.specs.declared.mode.changes.AssignmentList.TheVariants as assignment_list

-- the statement of an instruction of this kind
abbrev pub stmt_of_kind : RecordStmt → Bool → flat.Instr → Stmt
stmt_of_kind record_stmt.Find quiet i = Find (find_word_in i) (reading_in i) (wait_in i) quiet
stmt_of_kind record_stmt.FindCurrent quiet i = FindCurrent (reading_in i) (wait_in i) quiet
stmt_of_kind (record_stmt.Create b) quiet i = Create b quiet
stmt_of_kind (record_stmt.Delete b) quiet i = Remove b quiet
stmt_of_kind (record_stmt.Release b) quiet i = Release b quiet
stmt_of_kind record_stmt.Assign quiet i = Assign (pairs_in i) quiet

-- its first task, at a place
abbrev pub record_task_of : RecordStmt → ℕ → Bool → Task
record_task_of record_stmt.Find k retry = task.Read (read_task.Finds k retry)
record_task_of record_stmt.FindCurrent k retry = task.Read (read_task.FindsCurrent k)
record_task_of (record_stmt.Create b) k retry = task.Change (change_task.Creates b)
record_task_of (record_stmt.Delete b) k retry = task.Change (change_task.Deletes b)
record_task_of (record_stmt.Release b) k retry = task.End (end_task.EntersOne (record { out = 0; number = b }))
record_task_of record_stmt.Assign k retry = task.Change (change_task.Assigns (assignment_list.Statement k 0) retry)

-- the entry above the one that handles its fault, if there is one
abbrev pub record_entry_of : RecordStmt → Bool → Option StackEntry
record_entry_of record_stmt.Find quiet = Some (stack.Read (read_entry.Quiet quiet))
record_entry_of (record_stmt.Release b) quiet = Some (stack.Then (task.End (end_task.Drops b)))
record_entry_of other quiet = None

abbrev pub with_entry : Option StackEntry → List StackEntry → List StackEntry
with_entry None ks = ks
with_entry (Some k) ks = k ∷ ks

-- the stack while its first task is executed
abbrev pub entries_of_stmt : RecordStmt → Bool → ℕ → ℕ → Bool → List StackEntry → List StackEntry
entries_of_stmt stmt quiet next left retry ks = with_entry (record_entry_of stmt quiet) (stack.Handles quiet ∷ stack.Then (task.RunsFrom next left retry) ∷ ks)
