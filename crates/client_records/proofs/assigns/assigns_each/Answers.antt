use Rattle.std.proofs.Common.{sym, subst}
use Rattle.std.specs.Prelude.{OnOk}
use Rattle.client_machine.specs.Step.{KeepsTask}
use Rattle.client_machine.specs.declared.mode.Task.TheVariants as task
use Rattle.client_machine.specs.declared.mode.changes.AssignmentList.{AssignmentList}
use Rattle.client_machine.specs.declared.mode.changes.ChangeTask.TheVariants as change_task
use Rattle.client_records.proofs.assigns.assigns_each.Goals as goal

pub returns-in-Statement-clause-ok : goal.returns-in-Statement-clause-ok
returns-in-Statement-clause-ok c = subst (λ (xs : AssignmentList). OnOk c.assign_next.result (KeepsTask (task.Change (change_task.AssignsEach xs c.args.retry)) c.args.machine.now c.assign_next.new.machine)) (sym c.in-Statement.is) c.assign_next.ensures.ok

pub returns-in-Given-clause-ok : goal.returns-in-Given-clause-ok
returns-in-Given-clause-ok c = subst (λ (xs : AssignmentList). OnOk c.give_next.result (KeepsTask (task.Change (change_task.AssignsEach xs c.args.retry)) c.args.machine.now c.give_next.new.machine)) (sym c.in-Given.is) c.give_next.ensures.ok
