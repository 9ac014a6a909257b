use Rattle.std.proofs.Common.{sym, subst}
use Rattle.std.specs.Prelude.{OnOk}
use Rattle.client_machine.specs.declared.mode.Completion.{Completion}
use Rattle.client_machine.specs.declared.mode.StackEntry.TheVariants as stack
use Rattle.client_machine.specs.Step.{KeepsEntry}
use Rattle.client_calls.proofs.steps.called.Goals as goal

pub returns-in-Normal-clause-ok : goal.returns-in-Normal-clause-ok
returns-in-Normal-clause-ok c = subst (λ (w : Completion). OnOk c.return_normally.result (KeepsEntry (stack.Called c.args.place) w c.args.machine.now c.return_normally.new.machine)) (sym c.in-Normal.is) c.return_normally.ensures.ok

pub returns-in-Returns-clause-ok : goal.returns-in-Returns-clause-ok
returns-in-Returns-clause-ok c = subst (λ (w : Completion). OnOk c.return_with.result (KeepsEntry (stack.Called c.args.place) w c.args.machine.now c.return_with.new.machine)) (sym c.in-Returns.is) c.return_with.ensures.ok

pub returns-in-Stops-clause-ok : goal.returns-in-Stops-clause-ok
returns-in-Stops-clause-ok c = subst (λ (w : Completion). OnOk c.stop_called.result (KeepsEntry (stack.Called c.args.place) w c.args.machine.now c.stop_called.new.machine)) (sym c.in-Stops.is) c.stop_called.ensures.ok
