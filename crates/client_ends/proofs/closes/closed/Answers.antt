use Rattle.std.proofs.Common.{sym, subst}
use Rattle.std.specs.Prelude.{OnOk}
use Rattle.client_machine.specs.declared.mode.Completion.{Completion}
use Rattle.client_machine.specs.declared.mode.StackEntry.TheVariants as stack
use Rattle.client_machine.specs.declared.mode.ends.EndEntry.TheVariants as end_entry
use Rattle.client_machine.specs.Step.{KeepsEntry}
use Rattle.client_ends.proofs.closes.closed.Goals as goal

pub returns-in-Normal-clause-ok : goal.returns-in-Normal-clause-ok
returns-in-Normal-clause-ok c =
    subst (λ (w : Completion). OnOk c.closed_normally.result (KeepsEntry (stack.End (end_entry.AfterClosing c.args.place c.args.iteration c.args.completion)) w c.args.machine.now c.closed_normally.new.machine)) (sym c.in-Normal.is) c.closed_normally.ensures.ok

pub returns-in-Faults-clause-ok : goal.returns-in-Faults-clause-ok
returns-in-Faults-clause-ok c =
    subst (λ (w : Completion). OnOk c.closing_failed.result (KeepsEntry (stack.End (end_entry.AfterClosing c.args.place c.args.iteration c.args.completion)) w c.args.machine.now c.closing_failed.new.machine)) (sym c.in-Faults.is) c.closing_failed.ensures.ok

pub returns-in-Stops-clause-ok : goal.returns-in-Stops-clause-ok
returns-in-Stops-clause-ok c =
    subst (λ (w : Completion). OnOk c.closing_stopped.result (KeepsEntry (stack.End (end_entry.AfterClosing c.args.place c.args.iteration c.args.completion)) w c.args.machine.now c.closing_stopped.new.machine)) (sym c.in-Stops.is) c.closing_stopped.ensures.ok
