use Rattle.std.proofs.Common.{sym, subst}
use Rattle.std.specs.Prelude.{OnOk}
use Rattle.client_machine.specs.declared.mode.OnAnswer.TheVariants as on_answer
use Rattle.client_machine.specs.declared.mode.ends.EndAnswer.{EndAnswer}
use Rattle.client_machine.specs.AnswerClass.{KeepsAnswer}
use Rattle.client_ends.proofs.steps.answer.Goals as goal

pub returns-in-WasInserted-clause-ok : goal.returns-in-WasInserted-clause-ok
returns-in-WasInserted-clause-ok c =
    subst (λ (k : EndAnswer). OnOk c.was_inserted.result (KeepsAnswer c.args.op (on_answer.End k) c.args.answer c.args.machine.now c.was_inserted.new.machine)) (sym c.in-WasInserted.is) c.was_inserted.ensures.ok

pub returns-in-WasDropped-clause-ok : goal.returns-in-WasDropped-clause-ok
returns-in-WasDropped-clause-ok c =
    subst (λ (k : EndAnswer). OnOk c.was_dropped.result (KeepsAnswer c.args.op (on_answer.End k) c.args.answer c.args.machine.now c.was_dropped.new.machine)) (sym c.in-WasDropped.is) c.was_dropped.ensures.ok

pub returns-in-WasBack-clause-ok : goal.returns-in-WasBack-clause-ok
returns-in-WasBack-clause-ok c =
    subst (λ (k : EndAnswer). OnOk c.was_back.result (KeepsAnswer c.args.op (on_answer.End k) c.args.answer c.args.machine.now c.was_back.new.machine)) (sym c.in-WasBack.is) c.was_back.ensures.ok

pub returns-in-WasGot-clause-ok : goal.returns-in-WasGot-clause-ok
returns-in-WasGot-clause-ok c =
    subst (λ (k : EndAnswer). OnOk c.was_got.result (KeepsAnswer c.args.op (on_answer.End k) c.args.answer c.args.machine.now c.was_got.new.machine)) (sym c.in-WasGot.is) c.was_got.ensures.ok
