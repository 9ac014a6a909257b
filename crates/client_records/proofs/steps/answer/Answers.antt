use Rattle.std.proofs.Common.{sym, subst}
use Rattle.std.specs.Prelude.{OnOk}
use Rattle.client_machine.specs.AnswerClass.{KeepsAnswer}
use Rattle.client_machine.specs.declared.mode.OnAnswer.TheVariants as on_answer
use Rattle.client_machine.specs.declared.mode.changes.ChangeAnswer.{ChangeAnswer}
use Rattle.client_records.proofs.steps.answer.Goals as goal

pub returns-in-WasCounted-clause-ok : goal.returns-in-WasCounted-clause-ok
returns-in-WasCounted-clause-ok c = subst (λ (k : ChangeAnswer). OnOk c.was_counted.result (KeepsAnswer c.args.op (on_answer.Change k) c.args.answer c.args.machine.now c.was_counted.new.machine)) (sym c.in-WasCounted.is) c.was_counted.ensures.ok

pub returns-in-WasUpgraded-clause-ok : goal.returns-in-WasUpgraded-clause-ok
returns-in-WasUpgraded-clause-ok c = subst (λ (k : ChangeAnswer). OnOk c.was_upgraded.result (KeepsAnswer c.args.op (on_answer.Change k) c.args.answer c.args.machine.now c.was_upgraded.new.machine)) (sym c.in-WasUpgraded.is) c.was_upgraded.ensures.ok

pub returns-in-WasPut-clause-ok : goal.returns-in-WasPut-clause-ok
returns-in-WasPut-clause-ok c = subst (λ (k : ChangeAnswer). OnOk c.was_put.result (KeepsAnswer c.args.op (on_answer.Change k) c.args.answer c.args.machine.now c.was_put.new.machine)) (sym c.in-WasPut.is) c.was_put.ensures.ok

pub returns-in-WasDeleted-clause-ok : goal.returns-in-WasDeleted-clause-ok
returns-in-WasDeleted-clause-ok c = subst (λ (k : ChangeAnswer). OnOk c.was_deleted.result (KeepsAnswer c.args.op (on_answer.Change k) c.args.answer c.args.machine.now c.was_deleted.new.machine)) (sym c.in-WasDeleted.is) c.was_deleted.ensures.ok
