use Rattle.std.proofs.Common.{Bool, sym, subst}
use Rattle.std.specs.Prelude.{OnOk}
use Rattle.client_machine.specs.declared.mode.Completion.TheVariants as completion
use Rattle.client_machine.specs.declared.mode.StackEntry.TheVariants as stack
use Rattle.client_machine.specs.Step.{KeepsEntry}
use Rattle.client_calls.proofs.steps.return_with.Goals as goal

pub returns-then-error-clause-ok : goal.returns-then-error-clause-ok
returns-then-error-clause-ok c = subst (λ (b : Bool). OnOk c.return_error.result (KeepsEntry (stack.Called c.args.place) (completion.Returns b) c.args.machine.now c.return_error.new.machine)) (sym c.if-error.true) c.return_error.ensures.ok

pub returns-else-error-clause-ok : goal.returns-else-error-clause-ok
returns-else-error-clause-ok c = subst (λ (b : Bool). OnOk c.return_plainly.result (KeepsEntry (stack.Called c.args.place) (completion.Returns b) c.args.machine.now c.return_plainly.new.machine)) (sym c.if-error.false) c.return_plainly.ensures.ok
