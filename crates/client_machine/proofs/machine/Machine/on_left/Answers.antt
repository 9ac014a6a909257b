use Rattle.std.proofs.Common.{sym, ◌∙◌}
use Rattle.std.specs.Prelude.{reverse}
use Rattle.client_memory.specs.Memory.{left}
use Rattle.client_memory.proofs.LevelFrames.{even_left}
use Rattle.client_machine.specs.declared.mode.OnAnswer.TheVariants as on_answer
use Rattle.client_machine.specs.declared.mode.Mode.TheVariants as mode
use Rattle.client_machine.specs.declared.mode.Completion.TheVariants as completion
use Rattle.client_machine.proofs.Answered.{answered_by}
use Rattle.client_machine.proofs.Nestings.{depths_left, left_order, some_level, all_outside}
use Rattle.client_machine.proofs.machine.Machine.on_left.Goals as goal

pub returns-clause-ok : goal.returns-clause-ok
returns-clause-ok c =
    let old = c.args.self.now in
    let ks = reverse old.stack.items in
    answered_by c.args.op on_answer.WasLeft c.args.answer old c.was_left.new.self (mode.Unwind completion.Normal) (left old.memory) c.was_left.ensures.moved (even_left old.procedures.items old.memory)
    (λ p rest f. (depths_left 0 old.memory.copies f.whole, (tt, left_order old.memory ks f.order.1)))
    (λ p rest f. c.was_left.ensures.answered (some_level old.memory ks f.order.1) (all_outside old.memory ks f.order.1) rest p c.args.answer ∙ sym (c.requires p _ _ _ _))
