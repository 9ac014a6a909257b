use Rattle.std.proofs.Common.{◌∷◌, Some, ap}
use Rattle.flat_machine.specs.Flat as flat
use Rattle.block_meaning.specs.Changes.{stored}
use Rattle.block_meaning.specs.State.{Completed}
use Rattle.client_machine.specs.Config.{assignments_of}
use Rattle.client_machine.specs.Machine.{stack_in}
use Rattle.client_machine.specs.declared.mode.Completion.TheVariants as completion
use Rattle.client_machine.specs.declared.mode.LineFault.TheVariants as line_fault
use Rattle.client_machine.specs.declared.mode.Mode.TheVariants as mode
use Rattle.client_machine.specs.declared.mode.Task.TheVariants as task
use Rattle.client_machine.specs.declared.mode.changes.ChangeTask.TheVariants as change_task
use Rattle.client_records.proofs.Kept.{begun_mode, memory_kept, reads_of}
use Rattle.client_records.proofs.assigns.assign_then.Goals as goal

pub returns-in-Ok-clause-ok : goal.returns-in-Ok-clause-ok
returns-in-Ok-clause-ok c =
    let old = c.args.machine.now in
    let mid = c.assign.new.machine in
    let ks = flat.ThenDo (flat.AssignsEach (assignments_of old.code.instrs.items c.args.rest) c.args.retry) ∷ stack_in old in
    memory_kept (λ p s. flat.ends_as (stored c.args.target c.args.value s) ks) old mid c.set_mode.new.self (mode.Execute (task.Change (change_task.AssignsEach c.args.rest c.args.retry)))
    c.assign.ensures.moved c.set_mode.ensures c.assign.ensures.copies c.assign.ensures.reads (λ o. o)
    (λ tree p rest is f ans. ap (λ (d : Completed). flat.means tree p (flat.ends_as d ks) ans) (c.in-Ok.ensures.assigns p rest (reads_of p rest begun_mode old f)))

pub returns-in-Err-Fault-clause-ok : goal.returns-in-Err-Fault-clause-ok
returns-in-Err-Fault-clause-ok c =
    let old = c.args.machine.now in
    let mid = c.assign.new.machine in
    let ks = flat.ThenDo (flat.AssignsEach (assignments_of old.code.instrs.items c.args.rest) c.args.retry) ∷ stack_in old in
    let assigns = rw c.in-Err-Fault.field-0-is at c.in-Err-Fault.ensures.assigns in
    memory_kept (λ p s. flat.ends_as (stored c.args.target c.args.value s) ks) old mid c.fail.new.machine (mode.Unwind (completion.Faults (Some (line_fault.Expression c.in-Err-Fault.fault))))
    c.assign.ensures.moved c.fail.ensures c.assign.ensures.copies c.assign.ensures.reads (λ o. o)
    (λ tree p rest is f ans. ap (λ (d : Completed). flat.means tree p (flat.ends_as d ks) ans) (assigns p rest (reads_of p rest begun_mode old f)))
