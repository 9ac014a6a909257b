use Rattle.std.proofs.Common.{[], ◌∷◌, None, ap}
use Rattle.flat_machine.specs.Flat as flat
use Rattle.client_machine.specs.declared.mode.Mode.TheVariants as mode
use Rattle.client_machine.specs.declared.mode.StackEntry.TheVariants as stack
use Rattle.client_machine.specs.declared.mode.Task.TheVariants as task
use Rattle.client_machine.specs.declared.mode.ends.EndTask.TheVariants as end_task
use Rattle.client_machine.specs.Config.{header_at}
use Rattle.client_machine.specs.Machine.{stack_in, state_in}
use Rattle.client_ends.proofs.Dropped.{pushed_one}
use Rattle.client_ends.proofs.Moved.{entries_moved}
use Rattle.client_ends.proofs.closes.close_undone.Goals as goal

pub returns-clause-ok : goal.returns-clause-ok
returns-clause-ok c =
    let old = c.args.machine.now in
    let k = c.args.place in
    let code = old.code.instrs.items in
    let cs = old.memory.copies in
    let w = c.completion_after-completion.result in
    entries_moved (task.End (end_task.Closes k c.args.turn c.args.completion)) old c.set_mode.new.self (mode.Execute (task.End (end_task.Releases k 0))) c.push.new.self (stack.Then (task.Completes w) ∷ []) c.set_mode.ensures
    (pushed_one old.stack.items c.push.new.self.items _ c.in_ok-push.ensures.items)
    (λ o. (tt, (c.completion_after-completion.ensures.plain o.0, o.1)))
    (λ p rest f. ap (λ v. flat.config (flat.Execute (flat.Releases (header_at code k).scoped)) (flat.ThenDo (flat.Completes v) ∷ stack_in old) (state_in rest old)) (c.completion_after-completion.ensures.same code cs None))
