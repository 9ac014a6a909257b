use Rattle.std.proofs.Common.{sym, subst}
use Rattle.std.specs.Prelude.{OnOk}
use Rattle.client_machine.specs.declared.mode.StackEntry.{StackEntry}
use Rattle.client_machine.specs.Step.{KeepsEntry}
use Rattle.client_core.proofs.steps.unwind_to_above.Goals as goal

pub returns-in-Called-clause-ok : goal.returns-in-Called-clause-ok
returns-in-Called-clause-ok c = subst (λ (k : StackEntry). OnOk c.called.result (KeepsEntry k c.args.completion c.args.machine.now c.called.new.machine)) (sym c.in-Called.is) c.called.ensures.ok

pub returns-in-End-clause-ok : goal.returns-in-End-clause-ok
returns-in-End-clause-ok c = subst (λ (k : StackEntry). OnOk c.unwind_to.result (KeepsEntry k c.args.completion c.args.machine.now c.unwind_to.new.machine)) (sym c.in-End.is) c.unwind_to.ensures.ok

pub returns-in-Read-clause-ok : goal.returns-in-Read-clause-ok
returns-in-Read-clause-ok c = subst (λ (k : StackEntry). OnOk c.unwind_to-in-Read.result (KeepsEntry k c.args.completion c.args.machine.now c.unwind_to-in-Read.new.machine)) (sym c.in-Read.is) c.unwind_to-in-Read.ensures.ok

pub returns-in-Change-clause-ok : goal.returns-in-Change-clause-ok
returns-in-Change-clause-ok c = subst (λ (k : StackEntry). OnOk c.unwind_to-in-Change.result (KeepsEntry k c.args.completion c.args.machine.now c.unwind_to-in-Change.new.machine)) (sym c.in-Change.is) c.unwind_to-in-Change.ensures.ok
