use Rattle.std.proofs.Common.{subst}
use Rattle.std.specs.Prelude.{OnOk}
use Rattle.client_machine.specs.declared.mode.StackEntry.TheVariants as stack
use Rattle.client_machine.specs.declared.mode.ends.EndEntry.{EndEntry}
use Rattle.client_machine.specs.Step.{KeepsEntry}
use Rattle.client_ends.proofs.steps.unwind_to.Goals as goal

pub returns-clause-ok : goal.returns-clause-ok
returns-clause-ok c =
    subst (λ (e : EndEntry). OnOk c.closed.result (KeepsEntry (stack.End e) c.args.completion c.args.machine.now c.closed.new.machine)) c.closing_of-place.ensures c.closed.ensures.ok
