use Rattle.std.proofs.Common.{◌≡◌, sym, subst, refl}
use Rattle.client_memory.specs.Memory.{Remembered, IsWhole, restored}
use Rattle.client_machine.specs.declared.mode.OnAnswer.TheVariants as on_answer
use Rattle.client_machine.specs.AnswerClass.{KeepsAnswer}
use Rattle.client_machine.specs.declared.mode.Mode.TheVariants as mode
use Rattle.client_machine.specs.declared.mode.Task.TheVariants as task
use Rattle.client_machine.specs.declared.mode.ends.EndTask.TheVariants as end_task
use Rattle.client_machine.specs.declared.mode.ends.BufferList.TheVariants as buffer_list
use Rattle.client_machine.proofs.Answered.{answered_by}
use Rattle.client_machine.proofs.Backs.{back_keeps}
use Rattle.client_machine.proofs.machine.Machine.on_back.Goals as goal

pub returns-then-has_buffers-clause-ok : goal.returns-then-has_buffers-clause-ok
returns-then-has_buffers-clause-ok c =
    let old = c.args.self.now in
    let m = mode.Execute (task.End (end_task.AfterBack c.args.depth buffer_list.None)) in
    subst (KeepsAnswer c.args.op (on_answer.WasBack c.args.depth) c.args.answer old) (sym c.set_mode.ensures)
    (answered_by c.args.op (on_answer.WasBack c.args.depth) c.args.answer old _ m old.memory refl (λ even. even) (λ p rest f. (f.whole, f.order.1)) (λ p rest f. sym (c.requires p _ _ _ _)))

pub returns-clause-ok : goal.returns-clause-ok
returns-clause-ok c =
    let old = c.args.self.now in
    let left = c.leave_to.new.self in
    subst (KeepsAnswer c.args.op (on_answer.WasBack c.args.depth) c.args.answer old) (sym c.set_mode-2.ensures)
    (back_keeps c.args.op c.args.answer c.args.depth old _ c.back.new.self refl
    (subst (λ (m : Remembered). IsWhole m → c.back.new.self ≡ restored m) c.leave_to.ensures c.in_ok-back.ensures.ok)
    (c.has_buffers.ensures.none c.if-has_buffers.false)
    c.requires)
