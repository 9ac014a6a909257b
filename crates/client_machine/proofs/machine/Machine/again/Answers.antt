use Rattle.std.specs.Prelude.{reverse}
use Rattle.client_machine.specs.declared.mode.StackEntry.TheVariants as stack
use Rattle.client_machine.specs.Machine.{stack_in, state_in}
use Rattle.client_machine.specs.Order.{nesting_of}
use Rattle.client_machine.proofs.Entries.{entry_kept}
use Rattle.client_machine.proofs.machine.Machine.again.Goals as goal

pub returns-clause-ok : goal.returns-clause-ok
returns-clause-ok c =
    let old = c.args.self.now in
    entry_kept (stack.AndAgain c.args.fuel c.args.place c.args.outer c.args.left) c.args.completion old c.set_mode.new.self c.mode_again-mode.result c.set_mode.ensures
    (c.mode_again-mode.ensures.order (nesting_of old.memory) (reverse old.stack.items))
    (λ p rest. c.mode_again-mode.ensures.same old.code.instrs.items old.memory.copies (stack_in old) (state_in rest old))
