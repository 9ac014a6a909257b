use Rattle.std.proofs.Common.{◌≡◌, List, [], ◌∷◌, true, false, refl, sym, ap, ◌∙◌, drop, map, ◌+◌}
use Rattle.flat_machine.specs.Flat as flat
use Rattle.client_memory.specs.Buffers.{denoted_place}
use Rattle.client_machine.specs.declared.mode.Completion.TheVariants as completion
use Rattle.client_machine.specs.declared.mode.Mode.TheVariants as mode
use Rattle.client_machine.specs.declared.mode.StackEntry.TheVariants as stack
use Rattle.client_machine.specs.declared.mode.Task.TheVariants as task
use Rattle.client_machine.specs.declared.mode.ends.EndTask.TheVariants as end_task
use Rattle.client_machine.specs.Config.{buffers_of}
use Rattle.client_machine.specs.Machine.{stack_in, state_in}
use Rattle.client_machine.specs.Step.{code_in}
use Rattle.block_meaning.specs.State.{Normal}
use Rattle.block_meaning.specs.Buffers.{Place, is_left_out}
use Rattle.client_ends.proofs.Dropped.{drop_map, next_mapped, pushed_one}
use Rattle.client_ends.proofs.Moved.{mode_moved, entries_moved}
use Rattle.client_ends.proofs.backs.update_from.Goals as goal

pub returns-in_default-clause-ok : goal.returns-in_default-clause-ok
returns-in_default-clause-ok c =
    let old = c.args.machine.now in
    let bs = buffers_of old.code.instrs.items c.args.but in
    let e : drop c.args.from (map denoted_place c.args.places) ≡ [] = drop_map denoted_place c.args.from c.args.places ∙ ap (λ ps. map denoted_place (drop c.args.from ps)) (sym c.as_slice.ensures) ∙ ap (map denoted_place) c.in_default.ensures in
    mode_moved (task.End (end_task.Updates c.args.made c.args.but c.args.places c.args.from)) old c.set_mode.new.self (mode.Unwind completion.Normal) c.set_mode.ensures (λ o. o)
    (λ p rest f. ap (λ (ps : List Place). flat.task_step (code_in old) p (flat.Updates c.args.made bs ps) (stack_in old) (state_in rest old)) (sym e))

pub returns-then-skipped-clause-ok : goal.returns-then-skipped-clause-ok
returns-then-skipped-clause-ok c =
    let old = c.args.machine.now in
    let at = c.in-Some.place in
    let next = c.args.from + 1 in
    let bs = buffers_of old.code.instrs.items c.args.but in
    let more = drop next (map denoted_place c.args.places) in
    let e : drop c.args.from (map denoted_place c.args.places) ≡ denoted_place at ∷ more =
    next_mapped denoted_place c.args.from next at c.args.places (ap (drop c.args.from) (sym c.as_slice.ensures) ∙ c.in-Some.ensures.1 next refl ∙ ap (λ ps. at ∷ drop next ps) c.as_slice.ensures) in
    let out : is_left_out bs (denoted_place at) ≡ true = ap (λ xs. is_left_out xs (denoted_place at)) (sym c.buffers_in.ensures) ∙ sym c.is_skipped-skipped.ensures ∙ c.if-skipped.true in
    entries_moved (task.End (end_task.Updates c.args.made c.args.but c.args.places c.args.from)) old c.set_mode-then-skipped.new.self (mode.Unwind completion.Normal) c.push.new.self (stack.Then (task.End (end_task.Updates c.args.made c.args.but c.args.places next)) ∷ []) c.set_mode-then-skipped.ensures
    (pushed_one old.stack.items c.push.new.self.items _ c.in_ok-push.ensures.items) (λ o. (tt, (tt, o.1)))
    (λ p rest f.
    let ks = flat.ThenDo (flat.Updates c.args.made bs more) ∷ stack_in old in
    let s = state_in rest old in
    sym (ap (λ (ps : List Place). flat.task_step (code_in old) p (flat.Updates c.args.made bs ps) (stack_in old) s) e
    ∙ ap (λ b. flat.config_if b (flat.config (flat.Unwind Normal) ks s) (flat.config (flat.Execute (flat.UpdatesOne c.args.made (denoted_place at))) ks s)) out))

pub returns-clause-ok : goal.returns-clause-ok
returns-clause-ok c =
    let old = c.args.machine.now in
    let at = c.in-Some.place in
    let next = c.args.from + 1 in
    let bs = buffers_of old.code.instrs.items c.args.but in
    let more = drop next (map denoted_place c.args.places) in
    let e : drop c.args.from (map denoted_place c.args.places) ≡ denoted_place at ∷ more =
    next_mapped denoted_place c.args.from next at c.args.places (ap (drop c.args.from) (sym c.as_slice.ensures) ∙ c.in-Some.ensures.1 next refl ∙ ap (λ ps. at ∷ drop next ps) c.as_slice.ensures) in
    let out : is_left_out bs (denoted_place at) ≡ false = ap (λ xs. is_left_out xs (denoted_place at)) (sym c.buffers_in.ensures) ∙ sym c.is_skipped-skipped.ensures ∙ c.if-skipped.false in
    entries_moved (task.End (end_task.Updates c.args.made c.args.but c.args.places c.args.from)) old c.set_mode-2.new.self (mode.Execute (task.End (end_task.UpdatesOne c.args.made at))) c.push.new.self (stack.Then (task.End (end_task.Updates c.args.made c.args.but c.args.places next)) ∷ []) c.set_mode-2.ensures
    (pushed_one old.stack.items c.push.new.self.items _ c.in_ok-push.ensures.items) (λ o. (tt, (tt, o.1)))
    (λ p rest f.
    let ks = flat.ThenDo (flat.Updates c.args.made bs more) ∷ stack_in old in
    let s = state_in rest old in
    sym (ap (λ (ps : List Place). flat.task_step (code_in old) p (flat.Updates c.args.made bs ps) (stack_in old) s) e
    ∙ ap (λ b. flat.config_if b (flat.config (flat.Unwind Normal) ks s) (flat.config (flat.Execute (flat.UpdatesOne c.args.made (denoted_place at))) ks s)) out))
