use Rattle.std.proofs.Common.{sym, subst, refl}
use Rattle.std.specs.Prelude.{OnOk}
use Rattle.client_machine.specs.declared.mode.Completion.{Completion}
use Rattle.client_machine.specs.declared.mode.Task.TheVariants as task
use Rattle.client_machine.specs.Step.{KeepsTask}
use Rattle.client_machine.specs.declared.mode.Completion.TheVariants as completion
use Rattle.client_machine.proofs.RunKept.{task_kept}
use Rattle.client_machine.proofs.machine.Machine.ends_with.Goals as goal

pub returns-in-Raises-clause-ok : goal.returns-in-Raises-clause-ok
returns-in-Raises-clause-ok c = subst (λ (w : Completion). OnOk c.error_comes.result (KeepsTask (task.EndsWith c.args.place c.args.iteration w) c.args.self.now c.error_comes.new.self)) (sym c.in-Raises.is) c.error_comes.ensures.ok

pub returns-in-EndKeys-clause-ok : goal.returns-in-EndKeys-clause-ok
returns-in-EndKeys-clause-ok c = subst (λ (w : Completion). OnOk c.endkey_comes.result (KeepsTask (task.EndsWith c.args.place c.args.iteration w) c.args.self.now c.endkey_comes.new.self)) (sym c.in-EndKeys.is) c.endkey_comes.ensures.ok

pub returns-in-Undoes-clause-ok : goal.returns-in-Undoes-clause-ok
returns-in-Undoes-clause-ok c =
    let old = c.args.self.now in
    let t = task.EndsWith c.args.place c.args.iteration (completion.Undoes c.in-Undoes.block c.in-Undoes.after_undo c.in-Undoes.retry c.in-Undoes.passed) in
    subst (λ (w : Completion). KeepsTask (task.EndsWith c.args.place c.args.iteration w) old c.set_mode.new.self) (sym c.in-Undoes.is)
    (subst (KeepsTask t old) (sym c.set_mode.ensures) (task_kept t old _ refl (λ o. o) (λ tree p rest f. refl)))

pub returns-in-Stops-clause-ok : goal.returns-in-Stops-clause-ok
returns-in-Stops-clause-ok c = subst (λ (w : Completion). OnOk c.stop_iteration.result (KeepsTask (task.EndsWith c.args.place c.args.iteration w) c.args.self.now c.stop_iteration.new.self)) (sym c.in-Stops.is) c.stop_iteration.ensures.ok
