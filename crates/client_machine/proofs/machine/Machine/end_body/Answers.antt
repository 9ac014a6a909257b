use Rattle.std.proofs.Common.{sym, subst, ap, refl}
use Rattle.flat_machine.specs.Flat as flat
use Rattle.client_machine.specs.Machine.{stack_in, state_in}
use Rattle.client_machine.specs.declared.mode.Task.TheVariants as task
use Rattle.client_machine.specs.Step.{KeepsTask}
use Rattle.client_machine.proofs.RunKept.{task_kept}
use Rattle.client_machine.proofs.machine.Machine.end_body.Goals as goal

pub returns-clause-ok : goal.returns-clause-ok
returns-clause-ok c =
    let old = c.args.self.now in
    let t = task.RunsFrom c.args.place c.args.left c.args.retry in
    subst (KeepsTask t old) (sym c.set_mode.ensures)
    (task_kept t old _ refl (λ o. o) (λ tree p rest f. sym (ap (λ i. flat.instr_step p i c.args.left c.args.retry (stack_in old) (state_in rest old)) c.requires.ends)))
