use Rattle.std.proofs.Common.{sym, subst, refl}
use Rattle.client_machine.specs.Config.{header_at, body_at}
use Rattle.client_machine.specs.Machine.{stack_in}
use Rattle.client_machine.specs.Step.{KeepsTask}
use Rattle.client_machine.specs.declared.mode.Mode.TheVariants as mode
use Rattle.client_machine.specs.declared.mode.Task.TheVariants as task
use Rattle.client_machine.proofs.RunKept.{task_kept}
use Rattle.client_machine.proofs.MemoryKept.{reads_at}
use Rattle.client_machine.proofs.machine.Machine.open_header.Goals as goal

pub returns-in-Ok-clause-ok : goal.returns-in-Ok-clause-ok
returns-in-Ok-clause-ok c =
    let old = c.args.self.now in
    let t = task.Blocks c.args.place c.args.outer c.args.left in
    subst (KeepsTask t old) (sym c.begin_turns.ensures)
    (task_kept t old _ refl (λ o. o)
    (λ tree p rest f. sym (c.in-Ok.ensures p _ old.procedures.items (header_at old.code.instrs.items c.args.place) (body_at old.code.instrs.items c.args.place) c.args.left (stack_in old) (reads_at p rest (mode.Execute t) old f))))

pub returns-in-Err-Fault-clause-ok : goal.returns-in-Err-Fault-clause-ok
returns-in-Err-Fault-clause-ok c =
    let old = c.args.self.now in
    let t = task.Blocks c.args.place c.args.outer c.args.left in
    let fails = rw c.in-Err-Fault.field-0-is at c.in-Err-Fault.ensures in
    subst (KeepsTask t old) (sym c.fail_header.ensures)
    (task_kept t old _ refl (λ o. o)
    (λ tree p rest f. sym (fails p _ old.procedures.items (header_at old.code.instrs.items c.args.place) (body_at old.code.instrs.items c.args.place) c.args.left (stack_in old) (reads_at p rest (mode.Execute t) old f))))
