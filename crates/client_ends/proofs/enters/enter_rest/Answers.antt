use Rattle.std.proofs.Common.{ℕ, Option, None, refl, sym, subst}
use Rattle.std.specs.Prelude.{OnOk}
use Rattle.client_machine.specs.declared.mode.Completion.TheVariants as completion
use Rattle.client_machine.specs.declared.mode.Mode.TheVariants as mode
use Rattle.client_machine.specs.declared.mode.Task.TheVariants as task
use Rattle.client_machine.specs.declared.mode.ends.EndTask.TheVariants as end_task
use Rattle.client_machine.specs.Step.{KeepsTask}
use Rattle.client_ends.proofs.Moved.{mode_moved}
use Rattle.client_ends.proofs.enters.enter_rest.Goals as goal

pub returns-in-None-clause-ok : goal.returns-in-None-clause-ok
returns-in-None-clause-ok c =
    let old = c.args.machine.now in
    subst (λ (d : Option ℕ). KeepsTask (task.End (end_task.EntersRest d)) old c.set_mode.new.self) (sym c.in-None.is)
    (mode_moved (task.End (end_task.EntersRest None)) old c.set_mode.new.self (mode.Unwind completion.Normal) c.set_mode.ensures (λ o. (tt, o.1)) (λ p rest f. refl))

pub returns-in-Some-clause-ok : goal.returns-in-Some-clause-ok
returns-in-Some-clause-ok c = subst (λ (d : Option ℕ). OnOk c.enter_rest_at.result (KeepsTask (task.End (end_task.EntersRest d)) c.args.machine.now c.enter_rest_at.new.machine)) (sym c.in-Some.is) c.enter_rest_at.ensures.ok
