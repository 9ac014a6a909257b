use Rattle.std.proofs.Common.{◌∷◌, Some, refl}
use Rattle.flat_machine.specs.Flat as flat
use Rattle.block_meaning.specs.Lines.{complaint_of}
use Rattle.block_meaning.specs.State as state
use Rattle.block_meaning.specs.State.{State}
use Rattle.client_machine.specs.Config.{assignments_of}
use Rattle.client_machine.specs.Machine.{stack_in, state_in}
use Rattle.client_machine.specs.Step.{code_in}
use Rattle.client_machine.specs.declared.mode.Completion.TheVariants as completion
use Rattle.client_machine.specs.declared.mode.LineFault.TheVariants as line_fault
use Rattle.client_machine.specs.declared.mode.Mode.TheVariants as mode
use Rattle.client_machine.specs.declared.mode.changes.AssignmentList.TheVariants as assignment_list
use Rattle.client_machine.specs.declared.mode.changes.ChangeTask.TheVariants as change_task
use Rattle.client_records.specs.Rights.{right_step}
use Rattle.client_records.proofs.Assigned.{first_fails, first_goes, none_left}
use Rattle.client_records.proofs.Kept.{begun_mode, mode_kept, on_ok, reads_of, task_from}
use Rattle.client_records.proofs.assigns.assign_next.Goals as goal

pub returns-in-Ok-None-clause-ok : goal.returns-in-Ok-None-clause-ok
returns-in-Ok-None-clause-ok c =
    let old = c.args.machine.now in
    let xs = assignment_list.Statement c.args.place c.args.from in
    let is_next = rw c.in-Ok-None.field-0-is at c.in-Ok-None.ensures in
    task_from (change_task.AssignsEach xs c.args.retry) (λ p s. flat.config (flat.Unwind state.Normal) (stack_in old) s) old c.complete.new.machine
    (λ tree p rest is f ans. none_left (code_in old) tree p is (assignments_of old.code.instrs.items xs) c.args.retry (stack_in old) (state_in rest old) ans (is_next p rest (reads_of p rest begun_mode old f)))
    (mode_kept (λ p s. flat.config (flat.Unwind state.Normal) (stack_in old) s) old c.complete.new.machine (mode.Unwind completion.Normal) c.complete.ensures (λ o. o) (λ p rest f. refl))

pub returns-in-Ok-Some-clause-ok : goal.returns-in-Ok-Some-clause-ok
returns-in-Ok-Some-clause-ok c =
    let old = c.args.machine.now in
    let xs = assignment_list.Statement c.args.place c.args.from in
    let next = c.in-Ok-Some.next in
    let more = assignment_list.Statement c.args.place next.after in
    let is_next = rw c.in-Ok-Some.field-0-is at c.in-Ok-Some.ensures in
    on_ok c.assign_right.result (λ kept.
    task_from (change_task.AssignsEach xs c.args.retry) (λ p s. right_step next.right next.target (flat.ThenDo (flat.AssignsEach (assignments_of old.code.instrs.items more) c.args.retry) ∷ stack_in old) s) old c.assign_right.new.machine
    (λ tree p rest is f ans.
    let h = is_next p rest (reads_of p rest begun_mode old f) in
    first_goes (code_in old) tree p is (assignments_of old.code.instrs.items xs) (assignments_of old.code.instrs.items more) next.target h.0 next.right c.args.retry (stack_in old) (state_in rest old) ans h.1 h.2) kept) c.assign_right.ensures.ok

pub returns-in-Err-Fault-clause-ok : goal.returns-in-Err-Fault-clause-ok
returns-in-Err-Fault-clause-ok c =
    let old = c.args.machine.now in
    let xs = assignment_list.Statement c.args.place c.args.from in
    let fault = c.in-Err-Fault.fault in
    let is_next = rw c.in-Err-Fault.field-0-is at c.in-Err-Fault.ensures in
    task_from (change_task.AssignsEach xs c.args.retry) (λ p s. flat.config (flat.Unwind (state.Faults (Some (complaint_of fault)))) (stack_in old) s) old c.fail.new.machine
    (λ tree p rest is f ans.
    let h = is_next p rest (reads_of p rest begun_mode old f) in
    first_fails (code_in old) tree p is (assignments_of old.code.instrs.items xs) h.2 h.0 h.1 fault c.args.retry (stack_in old) (state_in rest old) ans h.3 h.4)
    (mode_kept (λ p s. flat.config (flat.Unwind (state.Faults (Some (complaint_of fault)))) (stack_in old) s) old c.fail.new.machine (mode.Unwind (completion.Faults (Some (line_fault.Expression fault)))) c.fail.ensures (λ o. o) (λ p rest f. refl))
