use Rattle.std.proofs.Common.{sym, refl}
use Rattle.client_machine.specs.declared.mode.Task.TheVariants as task
use Rattle.client_machine.proofs.RunKept.{on_ok, execute_keeps}
use Rattle.client_core.proofs.Still.{same_run}
use Rattle.client_core.proofs.steps.step.Goals as goal

pub returns-in-Instruction-clause-ok : goal.returns-in-Instruction-clause-ok
returns-in-Instruction-clause-ok c =
    let i = c.in-Instruction in
    on_ok c.run_from.result (execute_keeps (task.RunsFrom i.place i.left i.retry) c.args.machine.now.mode c.args.machine.now c.run_from.new.machine (sym (c.step_kind.ensures i.place i.left i.retry i.is))) c.run_from.ensures.ok

pub returns-in-Nothing-clause-ok : goal.returns-in-Nothing-clause-ok
returns-in-Nothing-clause-ok c = same_run c.args.machine.now c.args.machine.now refl
