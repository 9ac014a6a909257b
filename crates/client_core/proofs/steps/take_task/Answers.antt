use Rattle.std.proofs.Common.{sym, ap, ◌∙◌}
use Rattle.client_machine.specs.declared.machine.Machine.{Machine}
use Rattle.client_machine.specs.declared.mode.Mode.{Mode}
use Rattle.client_machine.proofs.RunKept.{on_ok, execute_keeps}
use Rattle.client_core.proofs.Still.{same_run}
use Rattle.client_core.proofs.steps.take_task.Goals as goal

pub returns-in-Execute-clause-ok : goal.returns-in-Execute-clause-ok
returns-in-Execute-clause-ok c = on_ok c.execute.result (execute_keeps c.in-Execute.task _ c.args.machine.now c.execute.new.machine (sym c.in-Execute.is ∙ c.replace.ensures.value)) c.execute.ensures.ok

pub returns-in_default-clause-ok : goal.returns-in_default-clause-ok
returns-in_default-clause-ok c =
    let old = c.args.machine.now in
    same_run old c.set_mode.new.self (c.set_mode.ensures ∙ ap (λ (m : Mode). let x : Machine = record old { mode = m } in x) c.replace.ensures.value)
