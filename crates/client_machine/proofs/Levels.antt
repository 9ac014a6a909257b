-- A level that begins: what is open keeps its copies, and the new one is the whole copy of the state.
use Rattle.std.proofs.Common.{◌≡◌, ℕ, ◌+◌, ◌-◌, List, [], ◌∷◌, ◌++◌, length, Bool, false, Option, Some, None, refl, ap, ◌∙◌, arith}
use Rattle.std.proofs.lemmas.List.{get_or_append_left, get_or_at, length-append}
use Rattle.block_meaning.specs.State as state
use Rattle.block_meaning.specs.State.{State, Copy}
use Rattle.block_meaning.specs.Frames.{copy_of}
use Rattle.block_meaning.specs.Blocks as blocks
use Rattle.flat_machine.specs.Flat as flat
use Rattle.bound_tree.specs.Tree.{Header}
use Rattle.client_memory.specs.Memory.{Remembered, copy_now, entered}
use Rattle.client_memory.proofs.LevelFrames.{copy_is}
use Rattle.block_code.specs.declared.code.Instr.{Instr}
use Rattle.client_machine.specs.declared.mode.IterationData.{IterationData}
use Rattle.client_machine.specs.declared.mode.PassedLevels.{PassedLevels}
use Rattle.client_machine.specs.declared.mode.Completion.{Completion}
use Rattle.client_machine.specs.declared.mode.Completion.TheVariants as completion
use Rattle.client_machine.specs.declared.mode.Task.{Task}
use Rattle.client_machine.specs.declared.mode.Task.TheVariants as task
use Rattle.client_machine.specs.declared.mode.StackEntry.{StackEntry}
use Rattle.client_machine.specs.declared.mode.StackEntry.TheVariants as stack
use Rattle.client_machine.specs.declared.mode.ends.EndTask.{EndTask}
use Rattle.client_machine.specs.declared.mode.ends.EndTask.TheVariants as end_task
use Rattle.client_machine.specs.declared.mode.ends.EndEntry.TheVariants as end_entry
use Rattle.client_machine.specs.declared.mode.reads.ReadEntry.TheVariants as read_entry
use Rattle.client_machine.specs.Config.{header_at, body_at, no_copy, copy_in, turn_of, turn_read, iteration_of, iteration_without, after_undo_of, buffers_of, fetch_at, passed_of, completion_of, end_task_of, task_of, entry_of, stack_of, state_of, IsBelow, CompletionBelow, EndTaskBelow, TaskBelow, OpenBelow, AllBelow, AreEven}

-- ---- one more copy

copy_same : (cs : List Copy) (c : Copy) (d : Option ℕ) → IsBelow (length cs) d → copy_in (cs ++ c ∷ []) d ≡ copy_in cs d
copy_same cs c None below = refl
copy_same cs c (Some d) below = ap (λ (x : Copy). Some x) (get_or_append_left cs (c ∷ []) no_copy (d - 1) (omega (arith, below.0, below.1)))

iteration_same : (cs : List Copy) (c : Copy) (o : IterationData) → IsBelow (length cs) o.depth → iteration_of (cs ++ c ∷ []) o ≡ iteration_of cs o
iteration_same cs c o below = ap (λ (x : Option Copy). let i : blocks.Iteration = record { copy = x; turn = turn_of o.turn } in i) (copy_same cs c o.depth below)

passed_same : (code : List Instr) (cs : List Copy) (c : Copy) (x : PassedLevels) → IsBelow (length cs) x.first → passed_of code (cs ++ c ∷ []) x ≡ passed_of code cs x
passed_same code cs c x below = ap (λ (k : Option Copy). let b : state.Passed = record { first = k; buffers = buffers_of code x.buffers } in b) (copy_same cs c x.first below)

completion_same : (code : List Instr) (cs : List Copy) (c : Copy) (w : Completion) → CompletionBelow (length cs) w → completion_of code (cs ++ c ∷ []) w ≡ completion_of code cs w
completion_same code cs c (completion.Undoes block a retry x) below = ap (state.Undoes block (after_undo_of code a) retry) (passed_same code cs c x below)
completion_same code cs c (completion.Raises x) below = ap state.Raises (passed_same code cs c x below)
completion_same code cs c (completion.EndKeys x) below = ap state.EndKeys (passed_same code cs c x below)
completion_same code cs c completion.Normal below = refl
completion_same code cs c (completion.Again t) below = refl
completion_same code cs c (completion.Leaves l) below = refl
completion_same code cs c (completion.Nexts l) below = refl
completion_same code cs c (completion.Faults f) below = refl
completion_same code cs c (completion.Returns error) below = refl
completion_same code cs c (completion.Found k) below = refl
completion_same code cs c completion.Lost below = refl
completion_same code cs c completion.NotFound below = refl
completion_same code cs c (completion.Stops why) below = refl

end_task_same : (code : List Instr) (cs : List Copy) (c : Copy) (t : EndTask) → EndTaskBelow (length cs) t → end_task_of code (cs ++ c ∷ []) t ≡ end_task_of code cs t
end_task_same code cs c (end_task.EntersOne at) below = refl
end_task_same code cs c (end_task.Enters places from) below = refl
end_task_same code cs c (end_task.Drops b) below = refl
end_task_same code cs c (end_task.Releases k from) below = refl
end_task_same code cs c (end_task.EntersRest depth) below = ap flat.EntersRest (copy_same cs c depth below)
end_task_same code cs c (end_task.LeavesIf depth k) below = ap (λ x. flat.LeavesIf x (header_at code k).scoped) (copy_same cs c depth below)
end_task_same code cs c (end_task.LeavesNow but) below = refl
end_task_same code cs c (end_task.Closing k depth) below = ap (λ x. flat.Closing (header_at code k) (record { copy = x; turn = turn_read false None })) (copy_same cs c depth below)
end_task_same code cs c (end_task.GoesBack depth but) below = ap (λ x. flat.GoesBack x (buffers_of code but)) (copy_same cs c depth below)
end_task_same code cs c (end_task.AfterBack depth but) below = ap (λ x. flat.AfterBack x (buffers_of code but)) (get_or_append_left cs (c ∷ []) no_copy (depth - 1) (omega (arith, below.0, below.1)))
end_task_same code cs c (end_task.UpdatesOne made at) below = refl
end_task_same code cs c (end_task.Updates made but places from) below = refl
end_task_same code cs c (end_task.Empties but) below = refl
end_task_same code cs c (end_task.Closes k t w) below = ap (flat.Closes (header_at code k) (iteration_without t)) (completion_same code cs c w below)

task_same : (code : List Instr) (cs : List Copy) (c : Copy) (t : Task) → TaskBelow (length cs) t → task_of code (cs ++ c ∷ []) t ≡ task_of code cs t
task_same code cs c (task.RunsFrom k d retry) below = refl
task_same code cs c (task.Blocks k outer d) below = refl
task_same code cs c (task.Turns n k outer d t) below = refl
task_same code cs c (task.EntersLevel k t retry d) below = refl
task_same code cs c (task.Begins k depth t retry d) below = ap (λ x. flat.Begins (header_at code k) x (turn_of t) retry (body_at code k) d) (copy_same cs c depth below)
task_same code cs c (task.Iterates k outer d t) below = refl
task_same code cs c (task.UndoComes k o block a retry x) below =
    ap (λ i. flat.UndoComes (header_at code k) i block (after_undo_of code a) retry (passed_of code (cs ++ c ∷ []) x)) (iteration_same cs c o below.0)
    ∙ ap (λ b. flat.UndoComes (header_at code k) (iteration_of cs o) block (after_undo_of code a) retry b) (passed_same code cs c x below.1)
task_same code cs c (task.GoesBack depth) below = ap (λ x. flat.GoesBack x []) (copy_same cs c depth below)
task_same code cs c (task.Acts k t a retry) below = refl
task_same code cs c task.LeavesNow below = refl
task_same code cs c (task.Calls k d vs) below = refl
task_same code cs c (task.End t) below = end_task_same code cs c t below
task_same code cs c (task.Read t) below = refl
task_same code cs c (task.Change t) below = refl
task_same code cs c (task.Completes w) below = ap flat.Completes (completion_same code cs c w below)
task_same code cs c (task.EndsWith k o w) below =
    ap (λ i. flat.EndsWith (header_at code k) i (completion_of code (cs ++ c ∷ []) w)) (iteration_same cs c o below.0)
    ∙ ap (λ x. flat.EndsWith (header_at code k) (iteration_of cs o) x) (completion_same code cs c w below.1)

open_same : (code : List Instr) (cs : List Copy) (c : Copy) (k : StackEntry) → OpenBelow (length cs) k → entry_of code (cs ++ c ∷ []) k ≡ entry_of code cs k
open_same code cs c (stack.Then t) below = ap flat.ThenDo (task_same code cs c t below)
open_same code cs c (stack.Handles quiet) below = refl
open_same code cs c (stack.In k o) below = ap (flat.In (header_at code k)) (iteration_same cs c o below)
open_same code cs c (stack.AndAgain n k outer d) below = refl
open_same code cs c (stack.Called k) below = refl
open_same code cs c (stack.End (end_entry.AfterClosing k o w)) below =
    ap (λ i. flat.AfterClosing (header_at code k) i (completion_of code (cs ++ c ∷ []) w)) (iteration_same cs c o below.0)
    ∙ ap (flat.AfterClosing (header_at code k) (iteration_of cs o)) (completion_same code cs c w below.1)
open_same code cs c (stack.Read (read_entry.OrDo t)) below = refl
open_same code cs c (stack.Read (read_entry.FoundAs k)) below = refl
open_same code cs c (stack.Read (read_entry.FetchedAs k depth t retry d)) below =
    ap (λ x. flat.FetchedAs (header_at code k) x (turn_of t) (fetch_at code k).reading.buffer (body_at code k) d retry) (copy_same cs c depth below)
open_same code cs c (stack.Read (read_entry.Quiet quiet)) below = refl
open_same code cs c (stack.Change e) below = refl

pub opens_same : (code : List Instr) (cs : List Copy) (c : Copy) (ks : List StackEntry) → AllBelow (length cs) ks → stack_of code (cs ++ c ∷ []) ks ≡ stack_of code cs ks
opens_same code cs c [] below = refl
opens_same code cs c (k ∷ ks) below =
    ap (λ x. x ∷ stack_of code (cs ++ c ∷ []) ks) (open_same code cs c k below.0)
    ∙ ap (λ xs. entry_of code cs k ∷ xs) (opens_same code cs c ks below.1)

-- ---- a level begins

-- a level begins
pub level_begins : (rest : State) (code : List Instr) (ks : List StackEntry) (ns : List ℕ) (m m' : Remembered) (units depth : ℕ) (b : Header) (body d : ℕ) (t : state.Turn) (retry : Bool) → m' ≡ entered rest.made m → AllBelow (length m.copies) ks → AreEven ns m → depth ≡ length m.copies + 1 →
    flat.config (flat.Execute (flat.Begins b (copy_in m'.copies (Some depth)) t retry body d)) (stack_of code m'.copies ks) (state_of rest ns m' units)
    ≡ flat.config (flat.Execute (flat.Begins b (Some (copy_of (state_of rest ns m units))) t retry body d)) (stack_of code m.copies ks) (blocks.deeper (state_of rest ns m units))
level_begins rest code ks ns m m' units depth b body d t retry is below even deep =
    let c = copy_now rest.made m in
    let found : copy_in (m.copies ++ c ∷ []) (Some depth) ≡ Some (copy_of (state_of rest ns m units)) =
    ap (λ (x : Copy). Some x) (get_or_at m.copies c [] no_copy (depth - 1) (omega (arith, deep)) ∙ copy_is (record rest { units = units }) ns m rest.made even refl) in
    ap (λ (x : Remembered). flat.config (flat.Execute (flat.Begins b (copy_in x.copies (Some depth)) t retry body d)) (stack_of code x.copies ks) (state_of rest ns x units)) is
    ∙ ap (λ x. flat.config (flat.Execute (flat.Begins b x t retry body d)) (stack_of code (m.copies ++ c ∷ []) ks) (state_of rest ns (entered rest.made m) units)) found
    ∙ ap (λ xs. flat.config (flat.Execute (flat.Begins b (Some (copy_of (state_of rest ns m units))) t retry body d)) xs (state_of rest ns (entered rest.made m) units)) (opens_same code m.copies c ks below)
    ∙ ap (λ n. flat.config (flat.Execute (flat.Begins b (Some (copy_of (state_of rest ns m units))) t retry body d)) (stack_of code m.copies ks) (record (state_of rest ns m units) { level = n })) (length-append m.copies (c ∷ []))
