use Rattle.std.proofs.Common.{subst}
use Rattle.std.specs.Prelude.{OnOk}
use Rattle.client_machine.specs.Step.{KeepsEntry}
use Rattle.client_machine.specs.declared.mode.StackEntry.TheVariants as stack
use Rattle.client_machine.specs.declared.mode.changes.ChangeEntry.{ChangeEntry}
use Rattle.client_records.proofs.steps.unwind_to.Goals as goal

pub returns-clause-ok : goal.returns-clause-ok
returns-clause-ok c = subst (λ (e : ChangeEntry). OnOk c.as_before.result (KeepsEntry (stack.Change e) c.args.completion c.args.machine.now c.as_before.new.machine)) c.before_in-buffer.ensures c.as_before.ensures.ok
