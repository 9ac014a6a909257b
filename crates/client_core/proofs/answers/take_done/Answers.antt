use Rattle.std.proofs.Common.{sym, subst}
use Rattle.std.specs.Prelude.{OnOk}
use Rattle.client_machine.specs.declared.mode.OnAnswer.{OnAnswer}
use Rattle.client_machine.specs.AnswerClass.{KeepsAnswer}
use Rattle.client_core.proofs.answers.take_done.Goals as goal

pub returns-in-WasEntered-clause-ok : goal.returns-in-WasEntered-clause-ok
returns-in-WasEntered-clause-ok c = subst (λ (k : OnAnswer). OnOk c.on_entered.result (KeepsAnswer c.args.op k c.args.answer c.args.machine.now c.on_entered.new.self)) (sym c.in-WasEntered.is) c.on_entered.ensures.ok

pub returns-in-WasBack-clause-ok : goal.returns-in-WasBack-clause-ok
returns-in-WasBack-clause-ok c = subst (λ (k : OnAnswer). OnOk c.on_back.result (KeepsAnswer c.args.op k c.args.answer c.args.machine.now c.on_back.new.self)) (sym c.in-WasBack.is) c.on_back.ensures.ok

pub returns-in-WasLeft-clause-ok : goal.returns-in-WasLeft-clause-ok
returns-in-WasLeft-clause-ok c = subst (λ (k : OnAnswer). OnOk c.on_left.result (KeepsAnswer c.args.op k c.args.answer c.args.machine.now c.on_left.new.self)) (sym c.in-WasLeft.is) c.on_left.ensures.ok

pub returns-in-End-clause-ok : goal.returns-in-End-clause-ok
returns-in-End-clause-ok c = subst (λ (k : OnAnswer). OnOk c.answer.result (KeepsAnswer c.args.op k c.args.answer c.args.machine.now c.answer.new.machine)) (sym c.in-End.is) c.answer.ensures.ok

pub returns-in-Read-clause-ok : goal.returns-in-Read-clause-ok
returns-in-Read-clause-ok c = subst (λ (k : OnAnswer). OnOk c.answer-in-Read.result (KeepsAnswer c.args.op k c.args.answer c.args.machine.now c.answer-in-Read.new.machine)) (sym c.in-Read.is) c.answer-in-Read.ensures.ok

pub returns-in-Change-clause-ok : goal.returns-in-Change-clause-ok
returns-in-Change-clause-ok c = subst (λ (k : OnAnswer). OnOk c.answer-in-Change.result (KeepsAnswer c.args.op k c.args.answer c.args.machine.now c.answer-in-Change.new.machine)) (sym c.in-Change.is) c.answer-in-Change.ensures.ok
