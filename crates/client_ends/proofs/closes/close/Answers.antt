use Rattle.std.proofs.Common.{◌≡◌, List, [], ◌∷◌, ap, ◌∙◌, map}
use Rattle.flat_machine.specs.Flat as flat
use Rattle.client_memory.specs.Buffers.{denoted_place}
use Rattle.client_machine.specs.declared.mode.Mode.TheVariants as mode
use Rattle.client_machine.specs.declared.mode.StackEntry.TheVariants as stack
use Rattle.client_machine.specs.declared.mode.Task.TheVariants as task
use Rattle.client_machine.specs.declared.mode.ends.EndTask.TheVariants as end_task
use Rattle.client_machine.specs.Config.{header_at, copy_in}
use Rattle.client_machine.specs.Machine.{stack_in, state_in}
use Rattle.block_meaning.specs.Buffers.{Place, own}
use Rattle.client_ends.proofs.Dropped.{pushed_three}
use Rattle.client_ends.proofs.Moved.{entries_moved}
use Rattle.client_ends.proofs.closes.close.Goals as goal

pub returns-clause-ok : goal.returns-clause-ok
returns-clause-ok c =
    let old = c.args.machine.now in
    let k = c.args.place in
    let d = c.args.depth in
    let code = old.code.instrs.items in
    let bs = (header_at code k).scoped in
    let copy = copy_in old.memory.copies d in
    let places = c.in_ok-places.places in
    let one = stack.Then (task.End (end_task.LeavesIf d k)) in
    let two = stack.Then (task.End (end_task.EntersRest d)) in
    let three = stack.Then (task.End (end_task.Releases k 0)) in
    let e : map denoted_place places ≡ map own bs = c.in_ok-places.ensures ∙ ap (map own) c.scoped_at.ensures in
    entries_moved (task.End (end_task.Closing k d)) old c.set_mode.new.self (mode.Execute (task.End (end_task.Enters places 0))) c.push-3.new.self (three ∷ two ∷ one ∷ []) c.set_mode.ensures
    (pushed_three old.stack.items c.push.new.self.items c.push-2.new.self.items c.push-3.new.self.items one two three c.in_ok-push.ensures.items c.in_ok-push-2.ensures.items c.in_ok-push-3.ensures.items)
    (λ o. (tt, (tt, (o.0.0, o))))
    (λ p rest f. ap (λ (ps : List Place). flat.config (flat.Execute (flat.Enters ps)) (flat.ThenDo (flat.Releases bs) ∷ flat.ThenDo (flat.EntersRest copy) ∷ flat.ThenDo (flat.LeavesIf copy bs) ∷ stack_in old) (state_in rest old)) e)
