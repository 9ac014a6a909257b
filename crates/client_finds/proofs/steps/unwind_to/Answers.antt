use Rattle.std.proofs.Common.{sym, subst}
use Rattle.std.specs.Prelude.{OnOk}
use Rattle.client_machine.specs.declared.mode.StackEntry.TheVariants as stack
use Rattle.client_machine.specs.declared.mode.reads.ReadEntry.{ReadEntry}
use Rattle.client_machine.specs.Step.{KeepsEntry}
use Rattle.client_finds.proofs.steps.unwind_to.Goals as goal

pub returns-in-OrDo-clause-ok : goal.returns-in-OrDo-clause-ok
returns-in-OrDo-clause-ok c = subst (λ (e : ReadEntry). OnOk c.or_do.result (KeepsEntry (stack.Read e) c.args.completion c.args.machine.now c.or_do.new.machine)) (sym c.in-OrDo.is) c.or_do.ensures.ok

pub returns-in-FoundAs-clause-ok : goal.returns-in-FoundAs-clause-ok
returns-in-FoundAs-clause-ok c = subst (λ (e : ReadEntry). OnOk c.found_as.result (KeepsEntry (stack.Read e) c.args.completion c.args.machine.now c.found_as.new.machine)) (sym c.in-FoundAs.is) c.found_as.ensures.ok

pub returns-in-FetchedAs-clause-ok : goal.returns-in-FetchedAs-clause-ok
returns-in-FetchedAs-clause-ok c = subst (λ (e : ReadEntry). OnOk c.fetched_as.result (KeepsEntry (stack.Read e) c.args.completion c.args.machine.now c.fetched_as.new.machine)) (sym c.in-FetchedAs.is) c.fetched_as.ensures.ok

pub returns-in-Quiet-clause-ok : goal.returns-in-Quiet-clause-ok
returns-in-Quiet-clause-ok c = subst (λ (e : ReadEntry). OnOk c.quiet.result (KeepsEntry (stack.Read e) c.args.completion c.args.machine.now c.quiet.new.machine)) (sym c.in-Quiet.is) c.quiet.ensures.ok
