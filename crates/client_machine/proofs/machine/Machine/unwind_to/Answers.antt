use Rattle.std.proofs.Common.{sym, subst}
use Rattle.std.specs.Prelude.{OnOk}
use Rattle.client_machine.specs.declared.mode.StackEntry.{StackEntry}
use Rattle.client_machine.specs.Step.{KeepsEntry}
use Rattle.client_machine.proofs.machine.Machine.unwind_to.Goals as goal

pub returns-in-Then-clause-ok : goal.returns-in-Then-clause-ok
returns-in-Then-clause-ok c = subst (λ (k : StackEntry). OnOk c.then_executes.result (KeepsEntry k c.args.completion c.args.self.now c.then_executes.new.self)) (sym c.in-Then.is) c.then_executes.ensures.ok

pub returns-in-Handles-clause-ok : goal.returns-in-Handles-clause-ok
returns-in-Handles-clause-ok c = subst (λ (k : StackEntry). OnOk c.handles.result (KeepsEntry k c.args.completion c.args.self.now c.handles.new.self)) (sym c.in-Handles.is) c.handles.ensures.ok

pub returns-in-In-clause-ok : goal.returns-in-In-clause-ok
returns-in-In-clause-ok c = subst (λ (k : StackEntry). OnOk c.ends_iteration.result (KeepsEntry k c.args.completion c.args.self.now c.ends_iteration.new.self)) (sym c.in-In.is) c.ends_iteration.ensures.ok

pub returns-in-AndAgain-clause-ok : goal.returns-in-AndAgain-clause-ok
returns-in-AndAgain-clause-ok c = subst (λ (k : StackEntry). OnOk c.again.result (KeepsEntry k c.args.completion c.args.self.now c.again.new.self)) (sym c.in-AndAgain.is) c.again.ensures.ok
