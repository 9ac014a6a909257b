use Rattle.std.proofs.Common.{sym, subst}
use Rattle.std.specs.Prelude.{OnOk}
use Rattle.client_machine.specs.declared.mode.Completion.{Completion}
use Rattle.client_machine.specs.declared.mode.StackEntry.TheVariants as stack
use Rattle.client_machine.specs.declared.mode.reads.ReadEntry.TheVariants as read_entry
use Rattle.client_machine.specs.Step.{KeepsEntry}
use Rattle.client_finds.proofs.fetch.fetched_as.Goals as goal

pub returns-in-Found-clause-ok : goal.returns-in-Found-clause-ok
returns-in-Found-clause-ok c = subst (λ (w : Completion). OnOk c.fetched.result (KeepsEntry (stack.Read (read_entry.FetchedAs c.args.place c.args.depth c.args.turn c.args.retry c.args.left)) w c.args.machine.now c.fetched.new.machine)) (sym c.in-Found.is) c.fetched.ensures.ok

pub returns-in-NotFound-clause-ok : goal.returns-in-NotFound-clause-ok
returns-in-NotFound-clause-ok c = subst (λ (w : Completion). OnOk c.fetched_none.result (KeepsEntry (stack.Read (read_entry.FetchedAs c.args.place c.args.depth c.args.turn c.args.retry c.args.left)) w c.args.machine.now c.fetched_none.new.machine)) (sym c.in-NotFound.is) c.fetched_none.ensures.ok

pub returns-in-Faults-clause-ok : goal.returns-in-Faults-clause-ok
returns-in-Faults-clause-ok c = subst (λ (w : Completion). OnOk c.fetch_fails.result (KeepsEntry (stack.Read (read_entry.FetchedAs c.args.place c.args.depth c.args.turn c.args.retry c.args.left)) w c.args.machine.now c.fetch_fails.new.machine)) (sym c.in-Faults.is) c.fetch_fails.ensures.ok

pub returns-in-Stops-clause-ok : goal.returns-in-Stops-clause-ok
returns-in-Stops-clause-ok c = subst (λ (w : Completion). OnOk c.fetch_stops.result (KeepsEntry (stack.Read (read_entry.FetchedAs c.args.place c.args.depth c.args.turn c.args.retry c.args.left)) w c.args.machine.now c.fetch_stops.new.machine)) (sym c.in-Stops.is) c.fetch_stops.ensures.ok
