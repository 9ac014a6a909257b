use Rattle.std.proofs.Common.{◌≡◌, ap, ◌∙◌, subst, map}
use Rattle.client_memory.specs.Buffers.{denoted_place}
use Rattle.client_machine.specs.declared.mode.StackEntry.TheVariants as stack
use Rattle.client_machine.specs.declared.mode.Task.TheVariants as task
use Rattle.client_machine.specs.declared.mode.ends.EndTask.TheVariants as end_task
use Rattle.client_memory.specs.Memory.{Remembered, IsWhole, restored}
use Rattle.client_ends.proofs.Dropped.{pushed_two}
use Rattle.client_ends.proofs.Undone.{restores}
use Rattle.client_ends.proofs.backs.restore.Goals as goal

pub returns-clause-ok : goal.returns-clause-ok
returns-clause-ok c =
    let old = c.args.machine.now in
    let one = stack.Then (task.End (end_task.Empties c.in_ok-emptied.emptied)) in
    let two = stack.Then (task.End (end_task.LeavesNow c.in_ok-released.released)) in
    restores c.args.depth c.made_before-made.result c.args.but c.in_ok-released.released c.in_ok-emptied.emptied c.from_vec.result old c.set_mode.new.self c.push-2.new.self c.back.new.self c.set_mode.ensures
    (pushed_two old.stack.items c.push.new.self.items c.push-2.new.self.items one two c.in_ok-push.ensures.items c.in_ok-push-2.ensures.items)
    c.in_ok-released.ensures c.in_ok-emptied.ensures
    (subst (λ (m : Remembered). IsWhole m → c.back.new.self ≡ restored m) c.leave_to.ensures c.in_ok-back.ensures.ok)
    c.made_before-made.ensures (ap (map denoted_place) c.from_vec.ensures ∙ c.in_ok-places.ensures)
