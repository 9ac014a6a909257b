use Rattle.std.proofs.Common.{ap}
use Rattle.std.specs.Prelude.{reverse}
use Rattle.flat_machine.specs.Flat as flat
use Rattle.client_machine.specs.declared.mode.Completion.TheVariants as completion
use Rattle.client_machine.specs.declared.mode.Mode.TheVariants as mode
use Rattle.client_machine.specs.declared.mode.StackEntry.TheVariants as stack
use Rattle.client_machine.specs.declared.mode.ends.EndEntry.TheVariants as end_entry
use Rattle.client_machine.specs.Config.{copy_in}
use Rattle.client_machine.specs.Machine.{stack_in, state_in}
use Rattle.client_machine.specs.Order.{nesting_of}
use Rattle.client_machine.proofs.End.{closing_names}
use Rattle.client_machine.proofs.Entries.{entry_kept}
use Rattle.client_machine.proofs.Orders.{closes_plainly}
use Rattle.client_ends.proofs.closes.closed_normally.Goals as goal

pub returns-in-None-clause-ok : goal.returns-in-None-clause-ok
returns-in-None-clause-ok c =
    let old = c.args.machine.now in
    let code = old.code.instrs.items in
    let cs = old.memory.copies in
    let it = c.args.iteration in
    let w = c.completion_after-completion.result in
    entry_kept (stack.End (end_entry.AfterClosing c.args.place it c.args.completion)) completion.Normal old c.set_mode.new.self (mode.Unwind w) c.set_mode.ensures
    (λ o. closes_plainly (nesting_of old.memory) c.args.place it completion.Normal w (reverse old.stack.items) c.in-None.is tt (c.completion_after-completion.ensures.plain (closing_names c.args.completion o.1.0)) (tt, o.1.1))
    (λ p rest. ap (λ v. flat.config (flat.Unwind v) (stack_in old) (state_in rest old)) (c.completion_after-completion.ensures.same code cs (copy_in cs it.depth)))
