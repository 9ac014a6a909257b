use Rattle.std.proofs.Common.{refl}
use Rattle.std.specs.Prelude.{reverse}
use Rattle.client_machine.specs.declared.mode.StackEntry.TheVariants as stack
use Rattle.client_machine.specs.Machine.{stack_in, state_in}
use Rattle.client_machine.specs.Order.{nesting_of}
use Rattle.client_machine.proofs.Entries.{entry_kept}
use Rattle.client_machine.proofs.machine.Machine.then_executes.Goals as goal

pub returns-clause-ok : goal.returns-clause-ok
returns-clause-ok c =
    let old = c.args.self.now in
    entry_kept (stack.Then c.args.task) c.args.completion old c.set_mode.new.self c.mode_then-mode.result c.set_mode.ensures
    (c.mode_then-mode.ensures.order (nesting_of old.memory) (reverse old.stack.items) (c.if-not-can_reach.ensures refl))
    (λ p rest. c.mode_then-mode.ensures.same old.code.instrs.items old.memory.copies (stack_in old) (state_in rest old))
