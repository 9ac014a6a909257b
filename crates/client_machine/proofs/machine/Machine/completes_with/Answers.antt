use Rattle.std.proofs.Common.{sym, subst, refl}
use Rattle.client_machine.specs.declared.mode.Task.TheVariants as task
use Rattle.client_machine.specs.Step.{KeepsTask}
use Rattle.client_machine.proofs.RunKept.{task_kept}
use Rattle.client_machine.proofs.machine.Machine.completes_with.Goals as goal

pub returns-clause-ok : goal.returns-clause-ok
returns-clause-ok c =
    let t = task.Completes c.args.completion in
    subst (KeepsTask t c.args.self.now) (sym c.set_mode.ensures) (task_kept t c.args.self.now _ refl (λ o. o) (λ tree p rest f. refl))
