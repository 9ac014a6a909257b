use Rattle.std.proofs.Common.{sym, refl, length, ◌∙◌, ◌+◌, Some}
use Rattle.std.specs.Prelude.{reverse}
use Rattle.client_memory.specs.Memory.{entered}
use Rattle.client_machine.specs.declared.mode.OnAnswer.TheVariants as on_answer
use Rattle.client_machine.specs.declared.mode.Mode.TheVariants as mode
use Rattle.client_machine.specs.declared.mode.Task.TheVariants as task
use Rattle.client_machine.proofs.RunKept.{on_two}
use Rattle.client_machine.proofs.Answered.{answered_by}
use Rattle.client_machine.proofs.Nestings.{depths_entered, begins_order, all_open}
use Rattle.client_machine.proofs.machine.Machine.on_entered.Goals as goal

pub returns-clause-ok : goal.returns-clause-ok
returns-clause-ok c =
    let old = c.args.self.now in
    let n = length old.memory.copies in
    let ks = reverse old.stack.items in
    let k = on_answer.WasEntered c.args.place c.args.turn c.args.retry c.args.left in
    on_two c.entered.result (λ moved ok.
    answered_by c.args.op k c.args.answer old c.entered.new.self (mode.Execute (task.Begins c.args.place (Some (n + 1)) c.args.turn c.args.retry c.args.left)) (entered old.made old.memory) moved (λ even. even)
    (λ p rest f. (depths_entered old.made old.memory f.whole, begins_order old.made old.memory c.args.place (record { depth = Some (n + 1); turn = c.args.turn }) ks refl (sym f.even.0 ∙ f.even.2) f.order.1))
    (λ p rest f. ok (all_open old.memory ks f.order.1) f.even rest p c.args.op c.args.answer f.state.made_is ∙ sym (c.requires p _ _ _ _))) c.entered.ensures.moved c.entered.ensures.ok
