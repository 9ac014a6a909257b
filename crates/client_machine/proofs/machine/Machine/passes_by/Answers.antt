use Rattle.std.specs.Prelude.{reverse}
use Rattle.client_machine.specs.declared.mode.StackEntry.TheVariants as stack
use Rattle.client_machine.specs.declared.mode.Mode.TheVariants as mode
use Rattle.client_machine.specs.Order.{nesting_of}
use Rattle.client_machine.proofs.Orders.{handles_passed}
use Rattle.client_machine.proofs.Entries.{entry_kept, passes}
use Rattle.client_machine.proofs.machine.Machine.passes_by.Goals as goal

pub returns-clause-ok : goal.returns-clause-ok
returns-clause-ok c =
    let old = c.args.self.now in
    entry_kept (stack.Handles c.args.quiet) c.args.completion old c.set_mode.new.self (mode.Unwind c.args.completion) c.set_mode.ensures (handles_passed (nesting_of old.memory) c.args.completion c.args.quiet (reverse old.stack.items)) (λ p rest. passes c.args.quiet c.args.completion old p rest c.requires.other)
