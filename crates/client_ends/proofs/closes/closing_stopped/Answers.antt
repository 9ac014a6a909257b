use Rattle.std.proofs.Common.{refl}
use Rattle.client_machine.specs.declared.mode.Completion.TheVariants as completion
use Rattle.client_machine.specs.declared.mode.Mode.TheVariants as mode
use Rattle.client_machine.specs.declared.mode.StackEntry.TheVariants as stack
use Rattle.client_machine.specs.declared.mode.ends.EndEntry.TheVariants as end_entry
use Rattle.client_machine.proofs.Entries.{entry_kept}
use Rattle.client_ends.proofs.closes.closing_stopped.Goals as goal

pub returns-clause-ok : goal.returns-clause-ok
returns-clause-ok c =
    entry_kept (stack.End (end_entry.AfterClosing c.args.place c.args.iteration c.args.completion)) (completion.Stops c.args.why) c.args.machine.now c.set_mode.new.self (mode.Unwind (completion.Stops c.args.why)) c.set_mode.ensures (λ o. tt) (λ p rest. refl)
