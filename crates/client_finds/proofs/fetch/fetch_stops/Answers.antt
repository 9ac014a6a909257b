use Rattle.std.proofs.Common.{refl}
use Rattle.client_machine.specs.declared.mode.Completion.TheVariants as completion
use Rattle.client_machine.specs.declared.mode.Mode.TheVariants as mode
use Rattle.client_machine.specs.declared.mode.StackEntry.TheVariants as stack
use Rattle.client_machine.specs.declared.mode.reads.ReadEntry.TheVariants as read_entry
use Rattle.client_finds.proofs.Found.{entry_moved}
use Rattle.client_finds.proofs.fetch.fetch_stops.Goals as goal

pub returns-clause-ok : goal.returns-clause-ok
returns-clause-ok c =
    entry_moved (stack.Read (read_entry.FetchedAs c.args.place c.args.depth c.args.turn c.args.retry c.args.left)) (completion.Stops c.args.why) c.args.machine.now c.set_mode.new.self (mode.Unwind (completion.Stops c.args.why)) c.set_mode.ensures (λ o. tt) (λ p rest. refl)
