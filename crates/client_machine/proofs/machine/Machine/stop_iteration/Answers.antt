use Rattle.std.proofs.Common.{refl, sym, subst}
use Rattle.client_machine.specs.Step.{KeepsTask}
use Rattle.client_machine.specs.declared.mode.Completion.TheVariants as completion
use Rattle.client_machine.specs.declared.mode.Task.TheVariants as task
use Rattle.client_machine.proofs.RunKept.{task_kept}
use Rattle.client_machine.proofs.machine.Machine.stop_iteration.Goals as goal

pub returns-clause-ok : goal.returns-clause-ok
returns-clause-ok c =
    let old = c.args.self.now in
    let t = task.EndsWith c.args.place c.args.iteration (completion.Stops c.args.why) in
    subst (KeepsTask t old) (sym c.set_mode.ensures)
    (task_kept t old _ refl (λ o. tt) (λ tree p rest f. refl))
