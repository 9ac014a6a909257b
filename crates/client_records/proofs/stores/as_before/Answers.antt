use Rattle.std.proofs.Common.{sym, subst}
use Rattle.std.specs.Prelude.{OnOk}
use Rattle.client_machine.specs.Step.{KeepsEntry}
use Rattle.client_machine.specs.declared.mode.Completion.{Completion}
use Rattle.client_machine.specs.declared.mode.StackEntry.TheVariants as stack
use Rattle.client_machine.specs.declared.mode.changes.ChangeEntry.TheVariants as change_entry
use Rattle.client_records.proofs.stores.as_before.Goals as goal

pub returns-in-Faults-clause-ok : goal.returns-in-Faults-clause-ok
returns-in-Faults-clause-ok c = subst (λ (w : Completion). OnOk c.restores.result (KeepsEntry (stack.Change (change_entry.AsBefore c.args.buffer c.args.content)) w c.args.machine.now c.restores.new.machine)) (sym c.in-Faults.is) c.restores.ensures.ok
