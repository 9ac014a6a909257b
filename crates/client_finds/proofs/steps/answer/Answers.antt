use Rattle.std.proofs.Common.{sym, subst}
use Rattle.std.specs.Prelude.{OnOk}
use Rattle.client_machine.specs.declared.mode.OnAnswer.TheVariants as on_answer
use Rattle.client_machine.specs.declared.mode.reads.ReadAnswer.{ReadAnswer}
use Rattle.client_machine.specs.AnswerClass.{KeepsAnswer}
use Rattle.client_finds.proofs.steps.answer.Goals as goal

pub returns-in-WasNext-clause-ok : goal.returns-in-WasNext-clause-ok
returns-in-WasNext-clause-ok c = subst (λ (k : ReadAnswer). OnOk c.hear_next.result (KeepsAnswer c.args.op (on_answer.Read k) c.args.answer c.args.machine.now c.hear_next.new.machine)) (sym c.in-WasNext.is) c.hear_next.ensures.ok

pub returns-in-WasSecond-clause-ok : goal.returns-in-WasSecond-clause-ok
returns-in-WasSecond-clause-ok c = subst (λ (k : ReadAnswer). OnOk c.hear_second.result (KeepsAnswer c.args.op (on_answer.Read k) c.args.answer c.args.machine.now c.hear_second.new.machine)) (sym c.in-WasSecond.is) c.hear_second.ensures.ok

pub returns-in-WasGranted-clause-ok : goal.returns-in-WasGranted-clause-ok
returns-in-WasGranted-clause-ok c = subst (λ (k : ReadAnswer). OnOk c.hear_grant.result (KeepsAnswer c.args.op (on_answer.Read k) c.args.answer c.args.machine.now c.hear_grant.new.machine)) (sym c.in-WasGranted.is) c.hear_grant.ensures.ok

pub returns-in-WasRead-clause-ok : goal.returns-in-WasRead-clause-ok
returns-in-WasRead-clause-ok c = subst (λ (k : ReadAnswer). OnOk c.hear_read.result (KeepsAnswer c.args.op (on_answer.Read k) c.args.answer c.args.machine.now c.hear_read.new.machine)) (sym c.in-WasRead.is) c.hear_read.ensures.ok

pub returns-in-CurrentGranted-clause-ok : goal.returns-in-CurrentGranted-clause-ok
returns-in-CurrentGranted-clause-ok c = subst (λ (k : ReadAnswer). OnOk c.hear_current_grant.result (KeepsAnswer c.args.op (on_answer.Read k) c.args.answer c.args.machine.now c.hear_current_grant.new.machine)) (sym c.in-CurrentGranted.is) c.hear_current_grant.ensures.ok

pub returns-in-WasCurrent-clause-ok : goal.returns-in-WasCurrent-clause-ok
returns-in-WasCurrent-clause-ok c = subst (λ (k : ReadAnswer). OnOk c.hear_current.result (KeepsAnswer c.args.op (on_answer.Read k) c.args.answer c.args.machine.now c.hear_current.new.machine)) (sym c.in-WasCurrent.is) c.hear_current.ensures.ok
