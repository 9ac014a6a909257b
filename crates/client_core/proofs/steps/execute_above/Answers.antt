use Rattle.std.proofs.Common.{sym, subst}
use Rattle.std.specs.Prelude.{OnOk}
use Rattle.client_machine.specs.declared.mode.Task.{Task}
use Rattle.client_machine.specs.Step.{KeepsTask}
use Rattle.client_core.proofs.steps.execute_above.Goals as goal

pub returns-in-RunsFrom-clause-ok : goal.returns-in-RunsFrom-clause-ok
returns-in-RunsFrom-clause-ok c = subst (λ (t : Task). OnOk c.run_from.result (KeepsTask t c.args.machine.now c.run_from.new.machine)) (sym c.in-RunsFrom.is) c.run_from.ensures.ok

pub returns-in-Calls-clause-ok : goal.returns-in-Calls-clause-ok
returns-in-Calls-clause-ok c = subst (λ (t : Task). OnOk c.call.result (KeepsTask t c.args.machine.now c.call.new.machine)) (sym c.in-Calls.is) c.call.ensures.ok

pub returns-in-End-clause-ok : goal.returns-in-End-clause-ok
returns-in-End-clause-ok c = subst (λ (t : Task). OnOk c.execute.result (KeepsTask t c.args.machine.now c.execute.new.machine)) (sym c.in-End.is) c.execute.ensures.ok

pub returns-in-Read-clause-ok : goal.returns-in-Read-clause-ok
returns-in-Read-clause-ok c = subst (λ (t : Task). OnOk c.execute-in-Read.result (KeepsTask t c.args.machine.now c.execute-in-Read.new.machine)) (sym c.in-Read.is) c.execute-in-Read.ensures.ok

pub returns-in-Change-clause-ok : goal.returns-in-Change-clause-ok
returns-in-Change-clause-ok c = subst (λ (t : Task). OnOk c.execute-in-Change.result (KeepsTask t c.args.machine.now c.execute-in-Change.new.machine)) (sym c.in-Change.is) c.execute-in-Change.ensures.ok
