use Rattle.std.proofs.Common.{refl}
use Rattle.client_machine.specs.declared.mode.StackEntry.TheVariants as stack
use Rattle.client_machine.specs.declared.mode.Mode.TheVariants as mode
use Rattle.client_machine.specs.declared.mode.Task.TheVariants as task
use Rattle.client_machine.proofs.Entries.{entry_kept}
use Rattle.client_machine.proofs.machine.Machine.ends_iteration.Goals as goal

pub returns-clause-ok : goal.returns-clause-ok
returns-clause-ok c =
    entry_kept (stack.In c.args.place c.args.iteration) c.args.completion c.args.self.now c.set_mode.new.self (mode.Execute (task.EndsWith c.args.place c.args.iteration c.args.completion)) c.set_mode.ensures (λ o. o) (λ p rest. refl)
