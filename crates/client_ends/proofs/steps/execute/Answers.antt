use Rattle.std.proofs.Common.{sym, subst}
use Rattle.std.specs.Prelude.{OnOk}
use Rattle.client_machine.specs.declared.mode.Task.TheVariants as task
use Rattle.client_machine.specs.declared.mode.ends.EndTask.{EndTask}
use Rattle.client_machine.specs.Step.{KeepsTask}
use Rattle.client_ends.proofs.steps.execute.Goals as goal

pub returns-in-EntersOne-clause-ok : goal.returns-in-EntersOne-clause-ok
returns-in-EntersOne-clause-ok c =
    subst (λ (t : EndTask). OnOk c.enter_one.result (KeepsTask (task.End t) c.args.machine.now c.enter_one.new.machine)) (sym c.in-EntersOne.is) c.enter_one.ensures.ok

pub returns-in-Enters-clause-ok : goal.returns-in-Enters-clause-ok
returns-in-Enters-clause-ok c =
    subst (λ (t : EndTask). OnOk c.enter_from.result (KeepsTask (task.End t) c.args.machine.now c.enter_from.new.machine)) (sym c.in-Enters.is) c.enter_from.ensures.ok

pub returns-in-Drops-clause-ok : goal.returns-in-Drops-clause-ok
returns-in-Drops-clause-ok c =
    subst (λ (t : EndTask). OnOk c.drop_record.result (KeepsTask (task.End t) c.args.machine.now c.drop_record.new.machine)) (sym c.in-Drops.is) c.drop_record.ensures.ok

pub returns-in-Releases-clause-ok : goal.returns-in-Releases-clause-ok
returns-in-Releases-clause-ok c =
    subst (λ (t : EndTask). OnOk c.release_from.result (KeepsTask (task.End t) c.args.machine.now c.release_from.new.machine)) (sym c.in-Releases.is) c.release_from.ensures.ok

pub returns-in-EntersRest-clause-ok : goal.returns-in-EntersRest-clause-ok
returns-in-EntersRest-clause-ok c =
    subst (λ (t : EndTask). OnOk c.enter_rest.result (KeepsTask (task.End t) c.args.machine.now c.enter_rest.new.machine)) (sym c.in-EntersRest.is) c.enter_rest.ensures.ok

pub returns-in-LeavesIf-clause-ok : goal.returns-in-LeavesIf-clause-ok
returns-in-LeavesIf-clause-ok c =
    subst (λ (t : EndTask). OnOk c.leave_if.result (KeepsTask (task.End t) c.args.machine.now c.leave_if.new.machine)) (sym c.in-LeavesIf.is) c.leave_if.ensures.ok

pub returns-in-LeavesNow-clause-ok : goal.returns-in-LeavesNow-clause-ok
returns-in-LeavesNow-clause-ok c =
    subst (λ (t : EndTask). OnOk c.leave_now.result (KeepsTask (task.End t) c.args.machine.now c.leave_now.new.machine)) (sym c.in-LeavesNow.is) c.leave_now.ensures.ok

pub returns-in-Closing-clause-ok : goal.returns-in-Closing-clause-ok
returns-in-Closing-clause-ok c =
    subst (λ (t : EndTask). OnOk c.close.result (KeepsTask (task.End t) c.args.machine.now c.close.new.machine)) (sym c.in-Closing.is) c.close.ensures.ok

pub returns-in-GoesBack-clause-ok : goal.returns-in-GoesBack-clause-ok
returns-in-GoesBack-clause-ok c =
    subst (λ (t : EndTask). OnOk c.go_back.result (KeepsTask (task.End t) c.args.machine.now c.go_back.new.machine)) (sym c.in-GoesBack.is) c.go_back.ensures.ok

pub returns-in-AfterBack-clause-ok : goal.returns-in-AfterBack-clause-ok
returns-in-AfterBack-clause-ok c =
    subst (λ (t : EndTask). OnOk c.restore.result (KeepsTask (task.End t) c.args.machine.now c.restore.new.machine)) (sym c.in-AfterBack.is) c.restore.ensures.ok

pub returns-in-UpdatesOne-clause-ok : goal.returns-in-UpdatesOne-clause-ok
returns-in-UpdatesOne-clause-ok c =
    subst (λ (t : EndTask). OnOk c.update_one.result (KeepsTask (task.End t) c.args.machine.now c.update_one.new.machine)) (sym c.in-UpdatesOne.is) c.update_one.ensures.ok

pub returns-in-Updates-clause-ok : goal.returns-in-Updates-clause-ok
returns-in-Updates-clause-ok c =
    subst (λ (t : EndTask). OnOk c.update_from.result (KeepsTask (task.End t) c.args.machine.now c.update_from.new.machine)) (sym c.in-Updates.is) c.update_from.ensures.ok

pub returns-in-Empties-clause-ok : goal.returns-in-Empties-clause-ok
returns-in-Empties-clause-ok c =
    subst (λ (t : EndTask). OnOk c.empty_all.result (KeepsTask (task.End t) c.args.machine.now c.empty_all.new.machine)) (sym c.in-Empties.is) c.empty_all.ensures.ok

pub returns-in-Closes-clause-ok : goal.returns-in-Closes-clause-ok
returns-in-Closes-clause-ok c =
    subst (λ (t : EndTask). OnOk c.close_undone.result (KeepsTask (task.End t) c.args.machine.now c.close_undone.new.machine)) (sym c.in-Closes.is) c.close_undone.ensures.ok
