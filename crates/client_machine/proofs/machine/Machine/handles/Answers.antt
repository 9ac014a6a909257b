use Rattle.std.proofs.Common.{sym, subst}
use Rattle.std.specs.Prelude.{OnOk}
use Rattle.client_machine.specs.declared.mode.Completion.{Completion}
use Rattle.client_machine.specs.declared.mode.StackEntry.TheVariants as stack
use Rattle.client_machine.specs.Step.{KeepsEntry}
use Rattle.client_machine.proofs.machine.Machine.handles.Goals as goal

pub returns-in-Faults-clause-ok : goal.returns-in-Faults-clause-ok
returns-in-Faults-clause-ok c = subst (λ (w : Completion). OnOk c.handles_fault.result (KeepsEntry (stack.Handles c.args.quiet) w c.args.self.now c.handles_fault.new.self)) (sym c.in-Faults.is) c.handles_fault.ensures.ok
