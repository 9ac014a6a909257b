use Rattle.std.proofs.Common.{sym, subst}
use Rattle.std.specs.Prelude.{OnOk}
use Rattle.client_machine.specs.Step.{KeepsTask}
use Rattle.client_machine.specs.declared.mode.Task.TheVariants as task
use Rattle.client_machine.specs.declared.mode.changes.ChangeTask.{ChangeTask}
use Rattle.client_records.proofs.steps.execute.Goals as goal

pub returns-in-Assigns-clause-ok : goal.returns-in-Assigns-clause-ok
returns-in-Assigns-clause-ok c = subst (λ (t : ChangeTask). OnOk c.assigns.result (KeepsTask (task.Change t) c.args.machine.now c.assigns.new.machine)) (sym c.in-Assigns.is) c.assigns.ensures.ok

pub returns-in-AssignsEach-clause-ok : goal.returns-in-AssignsEach-clause-ok
returns-in-AssignsEach-clause-ok c = subst (λ (t : ChangeTask). OnOk c.assigns_each.result (KeepsTask (task.Change t) c.args.machine.now c.assigns_each.new.machine)) (sym c.in-AssignsEach.is) c.assigns_each.ensures.ok

pub returns-in-LocksOne-clause-ok : goal.returns-in-LocksOne-clause-ok
returns-in-LocksOne-clause-ok c = subst (λ (t : ChangeTask). OnOk c.locks_one.result (KeepsTask (task.Change t) c.args.machine.now c.locks_one.new.machine)) (sym c.in-LocksOne.is) c.locks_one.ensures.ok

pub returns-in-SettlesOne-clause-ok : goal.returns-in-SettlesOne-clause-ok
returns-in-SettlesOne-clause-ok c = subst (λ (t : ChangeTask). OnOk c.settles_one.result (KeepsTask (task.Change t) c.args.machine.now c.settles_one.new.machine)) (sym c.in-SettlesOne.is) c.settles_one.ensures.ok

pub returns-in-Creates-clause-ok : goal.returns-in-Creates-clause-ok
returns-in-Creates-clause-ok c = subst (λ (t : ChangeTask). OnOk c.creates.result (KeepsTask (task.Change t) c.args.machine.now c.creates.new.machine)) (sym c.in-Creates.is) c.creates.ensures.ok

pub returns-in-Begun-clause-ok : goal.returns-in-Begun-clause-ok
returns-in-Begun-clause-ok c = subst (λ (t : ChangeTask). OnOk c.begun.result (KeepsTask (task.Change t) c.args.machine.now c.begun.new.machine)) (sym c.in-Begun.is) c.begun.ensures.ok

pub returns-in-Deletes-clause-ok : goal.returns-in-Deletes-clause-ok
returns-in-Deletes-clause-ok c = subst (λ (t : ChangeTask). OnOk c.deletes.result (KeepsTask (task.Change t) c.args.machine.now c.deletes.new.machine)) (sym c.in-Deletes.is) c.deletes.ensures.ok

pub returns-in-DeletesRow-clause-ok : goal.returns-in-DeletesRow-clause-ok
returns-in-DeletesRow-clause-ok c = subst (λ (t : ChangeTask). OnOk c.deletes_row.result (KeepsTask (task.Change t) c.args.machine.now c.deletes_row.new.machine)) (sym c.in-DeletesRow.is) c.deletes_row.ensures.ok
