use Rattle.std.proofs.Common.{refl}
use Rattle.client_machine.specs.declared.mode.Completion.TheVariants as completion
use Rattle.client_machine.specs.declared.mode.Mode.TheVariants as mode
use Rattle.client_machine.specs.declared.mode.StackEntry.TheVariants as stack
use Rattle.client_machine.specs.declared.mode.Task.TheVariants as task
use Rattle.client_machine.specs.declared.mode.ends.BufferList.TheVariants as buffer_list
use Rattle.client_machine.specs.declared.mode.ends.EndTask.TheVariants as end_task
use Rattle.client_machine.specs.declared.mode.reads.ReadEntry.TheVariants as read_entry
use Rattle.client_finds.proofs.Found.{entry_pushed}
use Rattle.client_finds.proofs.fetch.fetch_fails.Goals as goal

pub returns-clause-ok : goal.returns-clause-ok
returns-clause-ok c =
    let old = c.args.machine.now in
    let m = mode.Execute (task.End (end_task.GoesBack c.args.depth (buffer_list.Scoped c.args.place))) in
    entry_pushed (stack.Read (read_entry.FetchedAs c.args.place c.args.depth c.args.turn c.args.retry c.args.left)) (completion.Faults c.args.fault) old c.push.new.machine c.set_mode.new.self m (stack.Then (task.Completes (completion.Faults c.args.fault)))
    c.in_ok-push.ensures.moved c.in_ok-push.ensures.top c.set_mode.ensures (λ o. (o.1.1, (refl, o.1.2)))
    (λ p rest. refl)
