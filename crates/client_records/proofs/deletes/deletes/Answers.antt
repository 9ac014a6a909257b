use Rattle.std.proofs.Common.{◌≡◌, ◌∷◌, List, Some, ap, refl, sym, subst, ◌∙◌}
use Rattle.std.specs.Prelude.{reverse}
use Rattle.flat_machine.specs.Flat as flat
use Rattle.block_meaning.specs.Frames.{content_of, table_of}
use Rattle.block_meaning.specs.Program.{Program}
use Rattle.block_meaning.specs.State.{State}
use Rattle.client_machine.specs.Machine.{stack_in, state_in}
use Rattle.client_machine.specs.Order.{InOrder, nesting_of}
use Rattle.client_machine.specs.declared.machine.Machine.{Machine}
use Rattle.client_machine.specs.declared.mode.Completion.TheVariants as completion
use Rattle.client_machine.specs.declared.mode.LineFault.TheVariants as line_fault
use Rattle.client_machine.specs.declared.mode.Mode.TheVariants as mode
use Rattle.client_machine.specs.declared.mode.StackEntry.{StackEntry}
use Rattle.client_machine.specs.declared.mode.StackEntry.TheVariants as stack
use Rattle.client_machine.specs.declared.mode.Task.TheVariants as task
use Rattle.client_machine.specs.declared.mode.changes.ChangeTask.TheVariants as change_task
use Rattle.record_rules.specs.declared.lines.complaint.Complaint.TheVariants as complaint
use Rattle.client_records.proofs.Kept.{after_kept, begun_mode, memory_kept, on_ok, reads_of, task_step_from}
use Rattle.client_records.proofs.Pushed.{pushed, same_stack}
use Rattle.client_records.proofs.deletes.deletes.Goals as goal

pub returns-in-NoRecord-clause-ok : goal.returns-in-NoRecord-clause-ok
returns-in-NoRecord-clause-ok c =
    let old = c.args.machine.now in
    let mid = c.begin_delete.new.machine in
    let b = c.args.buffer in
    let from = λ (p : Program) (s : State). flat.delete_step (content_of b s) (table_of b s) b (stack_in old) s in
    let goes = rw c.in-NoRecord.is at c.begin_delete.ensures.goes in
    task_step_from (change_task.Deletes b) from old c.complain.new.machine (λ p s. refl)
    (memory_kept from old mid c.complain.new.machine (mode.Unwind (completion.Faults (Some (line_fault.Complaint (complaint.NoRecord b))))) c.begin_delete.ensures.moved c.complain.ensures c.begin_delete.ensures.copies c.begin_delete.ensures.reads (λ o. o)
    (λ tree p rest is f ans. ap (λ d. flat.means tree p d ans) (goes p rest (reads_of p rest begun_mode old f) (stack_in old))))

pub returns-in-Dropped-clause-ok : goal.returns-in-Dropped-clause-ok
returns-in-Dropped-clause-ok c =
    let old = c.args.machine.now in
    let mid = c.begin_delete.new.machine in
    let b = c.args.buffer in
    let from = λ (p : Program) (s : State). flat.delete_step (content_of b s) (table_of b s) b (stack_in old) s in
    let goes = rw c.in-Dropped.is at c.begin_delete.ensures.goes in
    task_step_from (change_task.Deletes b) from old c.complete.new.machine (λ p s. refl)
    (memory_kept from old mid c.complete.new.machine (mode.Unwind completion.Normal) c.begin_delete.ensures.moved c.complete.ensures c.begin_delete.ensures.copies c.begin_delete.ensures.reads (λ o. o)
    (λ tree p rest is f ans. ap (λ d. flat.means tree p d ans) (goes p rest (reads_of p rest begun_mode old f) (stack_in old))))

pub returns-in_ok-push-in-Row-clause-ok : goal.returns-in_ok-push-in-Row-clause-ok
returns-in_ok-push-in-Row-clause-ok c =
    let old = c.args.machine.now in
    let emptied = c.begin_delete.new.machine in
    let b = c.args.buffer in
    let table = c.in-Row.table in
    let row = c.in-Row.row in
    let mid : Machine = record emptied { stack = c.push.new.self } in
    let from = λ (p : Program) (s : State). flat.delete_step (content_of b s) (table_of b s) b (stack_in old) s in
    let next = λ (m : Machine) (p : Program) (s : State). flat.lock_step (content_of b s) (table_of b s) b (stack_in m) s in
    let goes = rw c.in-Row.is at c.begin_delete.ensures.goes in
    let entry = stack.Then (task.Change (change_task.DeletesRow b table row)) in
    let top : reverse c.push.new.self.items ≡ entry ∷ reverse old.stack.items = pushed emptied.stack.items c.push.new.self.items entry c.in_ok-push-in-Row.ensures.items ∙ ap (λ (m : Machine). entry ∷ reverse m.stack.items) c.begin_delete.ensures.moved in
    on_ok c.lock.result (λ kept.
    task_step_from (change_task.Deletes b) from old c.lock.new.machine (λ p s. refl)
    (after_kept from next old mid c.lock.new.machine (ap (λ (m : Machine). record m { stack = c.push.new.self }) c.begin_delete.ensures.moved) c.begin_delete.ensures.copies
    (λ p rest r. let q = c.begin_delete.ensures.reads p rest r in record { forms = q.forms; even = q.even; status_is = q.status_is; returned_is = q.returned_is })
    (λ o. subst (λ (ks : List StackEntry). InOrder (nesting_of old.memory) ks) (sym top) (tt, o))
    (λ tree p rest is f ans.
    let g = goes p rest (reads_of p rest begun_mode old f) in
    ap (λ d. flat.means tree p d ans) (g.1 (stack_in old))
    ∙ ap (λ (s : State). flat.means tree p (flat.lock_step (content_of b s) (table_of b s) b (flat.ThenDo (flat.DeletesRow b table row) ∷ stack_in old) s) ans) (sym g.0)
    ∙ ap (λ (ks : List flat.StackEntry). flat.means tree p (flat.lock_step (content_of b (state_in rest emptied)) (table_of b (state_in rest emptied)) b ks (state_in rest emptied)) ans) (sym (same_stack old mid entry (ap (λ (m : Machine). m.code) c.begin_delete.ensures.moved) c.begin_delete.ensures.copies top))) kept)) c.lock.ensures.ok
