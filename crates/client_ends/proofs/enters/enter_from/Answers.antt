use Rattle.std.proofs.Common.{◌≡◌, [], ◌∷◌, refl, sym, ap, ◌∙◌, drop, map, ◌+◌}
use Rattle.flat_machine.specs.Flat as flat
use Rattle.client_memory.specs.Buffers.{denoted_place}
use Rattle.client_machine.specs.declared.mode.Completion.TheVariants as completion
use Rattle.client_machine.specs.declared.mode.Mode.TheVariants as mode
use Rattle.client_machine.specs.declared.mode.StackEntry.TheVariants as stack
use Rattle.client_machine.specs.declared.mode.Task.TheVariants as task
use Rattle.client_machine.specs.declared.mode.ends.EndTask.TheVariants as end_task
use Rattle.client_machine.specs.Machine.{stack_in, state_in}
use Rattle.client_machine.specs.Step.{code_in}
use Rattle.client_ends.proofs.Dropped.{drop_map, next_mapped, pushed_one}
use Rattle.client_ends.proofs.Moved.{mode_moved, entries_moved}
use Rattle.client_ends.proofs.enters.enter_from.Goals as goal

pub returns-in_default-clause-ok : goal.returns-in_default-clause-ok
returns-in_default-clause-ok c =
    let old = c.args.machine.now in
    let e : drop c.args.from (map denoted_place c.args.places) ≡ [] = drop_map denoted_place c.args.from c.args.places ∙ ap (λ ps. map denoted_place (drop c.args.from ps)) (sym c.as_slice.ensures) ∙ ap (map denoted_place) c.in_default.ensures in
    mode_moved (task.End (end_task.Enters c.args.places c.args.from)) old c.set_mode.new.self (mode.Unwind completion.Normal) c.set_mode.ensures (λ o. o)
    (λ p rest f. ap (λ ps. flat.task_step (code_in old) p (flat.Enters ps) (stack_in old) (state_in rest old)) (sym e))

pub returns-clause-ok : goal.returns-clause-ok
returns-clause-ok c =
    let old = c.args.machine.now in
    let at = c.in-Some.place in
    let next = c.args.from + 1 in
    let e : drop c.args.from (map denoted_place c.args.places) ≡ denoted_place at ∷ drop next (map denoted_place c.args.places) =
    next_mapped denoted_place c.args.from next at c.args.places (ap (drop c.args.from) (sym c.as_slice.ensures) ∙ c.in-Some.ensures.1 next refl ∙ ap (λ ps. at ∷ drop next ps) c.as_slice.ensures) in
    entries_moved (task.End (end_task.Enters c.args.places c.args.from)) old c.set_mode-2.new.self (mode.Execute (task.End (end_task.EntersOne at))) c.push.new.self (stack.Then (task.End (end_task.Enters c.args.places next)) ∷ []) c.set_mode-2.ensures
    (pushed_one old.stack.items c.push.new.self.items _ c.in_ok-push.ensures.items) (λ o. (tt, (tt, o.1)))
    (λ p rest f. ap (λ ps. flat.task_step (code_in old) p (flat.Enters ps) (stack_in old) (state_in rest old)) (sym e))
