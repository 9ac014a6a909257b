use Rattle.std.proofs.Common.{sym}
use Rattle.std.specs.Prelude.{reverse}
use Rattle.client_machine.specs.declared.mode.StackEntry.TheVariants as stack
use Rattle.client_machine.specs.declared.mode.reads.ReadEntry.TheVariants as read_entry
use Rattle.client_machine.specs.Machine.{stack_in, state_in}
use Rattle.client_machine.specs.Order.{nesting_of}
use Rattle.client_finds.specs.Steps.{instrs_in}
use Rattle.client_finds.proofs.Found.{entry_moved}
use Rattle.client_finds.proofs.find.quiet.Goals as goal

pub returns-clause-ok : goal.returns-clause-ok
returns-clause-ok c =
    let old = c.args.machine.now in
    entry_moved (stack.Read (read_entry.Quiet c.args.no_error)) c.args.completion old c.set_mode.new.self c.in-Some.mode c.set_mode.ensures
    (c.in-Some.ensures.order (nesting_of old.memory) (reverse old.stack.items))
    (λ p rest. sym (c.in-Some.ensures.same (instrs_in old) old.memory.copies (stack_in old) (state_in rest old)))
