use Rattle.std.proofs.Common.{sym, subst}
use Rattle.std.specs.Prelude.{OnOk}
use Rattle.client_machine.specs.declared.mode.OnAnswer.{OnAnswer}
use Rattle.client_machine.specs.AnswerClass.{KeepsAnswer}
use Rattle.client_machine.proofs.machine.Machine.answered.Goals as goal

pub returns-in-WasEntered-clause-ok : goal.returns-in-WasEntered-clause-ok
returns-in-WasEntered-clause-ok c = subst (λ (k : OnAnswer). OnOk c.on_entered.result (KeepsAnswer c.args.op k c.args.answer c.args.self.now c.on_entered.new.self)) (sym c.in-WasEntered.is) c.on_entered.ensures.ok

pub returns-in-WasLeft-clause-ok : goal.returns-in-WasLeft-clause-ok
returns-in-WasLeft-clause-ok c = subst (λ (k : OnAnswer). OnOk c.on_left.result (KeepsAnswer c.args.op k c.args.answer c.args.self.now c.on_left.new.self)) (sym c.in-WasLeft.is) c.on_left.ensures.ok

pub returns-in-WasBack-clause-ok : goal.returns-in-WasBack-clause-ok
returns-in-WasBack-clause-ok c = subst (λ (k : OnAnswer). OnOk c.on_back.result (KeepsAnswer c.args.op k c.args.answer c.args.self.now c.on_back.new.self)) (sym c.in-WasBack.is) c.on_back.ensures.ok
