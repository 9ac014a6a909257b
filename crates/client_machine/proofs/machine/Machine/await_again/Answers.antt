use Rattle.std.proofs.Common.{sym, subst, refl}
use Rattle.client_machine.specs.declared.mode.Mode.TheVariants as mode
use Rattle.client_machine.specs.AnswerClass.{KeepsAnswer}
use Rattle.client_machine.proofs.Answered.{answered_by}
use Rattle.client_machine.proofs.machine.Machine.await_again.Goals as goal

pub returns-clause-ok : goal.returns-clause-ok
returns-clause-ok c =
    let old = c.args.self.now in
    subst (KeepsAnswer c.args.op c.args.on_answer c.args.answer old) (sym c.set_mode.ensures)
    (answered_by c.args.op c.args.on_answer c.args.answer old _ (mode.Await c.args.op c.args.on_answer) old.memory refl (λ even. even) (λ p rest f. (f.whole, f.order)) (λ p rest f. sym (c.requires p _ _ _ _)))
