use Rattle.std.proofs.Common.{◌≡◌, ℕ, List, [], ◌∷◌, refl, sym, ap, ◌∙◌, drop, ◌+◌}
use Rattle.flat_machine.specs.Flat as flat
use Rattle.client_memory.specs.Buffers.{denoted_place}
use Rattle.client_machine.specs.declared.mode.Completion.TheVariants as completion
use Rattle.client_machine.specs.declared.mode.Mode.TheVariants as mode
use Rattle.client_machine.specs.declared.mode.StackEntry.TheVariants as stack
use Rattle.client_machine.specs.declared.mode.Task.TheVariants as task
use Rattle.client_machine.specs.declared.mode.ends.EndTask.TheVariants as end_task
use Rattle.client_machine.specs.Config.{header_at}
use Rattle.client_machine.specs.Machine.{stack_in, state_in}
use Rattle.client_machine.specs.Step.{code_in}
use Rattle.client_memory.specs.declared.buffer.Place.{Place}
use Rattle.client_ends.proofs.Dropped.{pushed_two}
use Rattle.client_ends.proofs.Moved.{mode_moved, entries_moved}
use Rattle.client_ends.proofs.releases.release_from.Goals as goal

pub returns-in_default-clause-ok : goal.returns-in_default-clause-ok
returns-in_default-clause-ok c =
    let old = c.args.machine.now in
    let e : drop c.args.from (header_at old.code.instrs.items c.args.place).scoped ≡ [] = ap (drop c.args.from) (sym c.scoped_at.ensures) ∙ c.in_default.ensures in
    mode_moved (task.End (end_task.Releases c.args.place c.args.from)) old c.set_mode.new.self (mode.Unwind completion.Normal) c.set_mode.ensures (λ o. o)
    (λ p rest f. ap (λ (bs : List ℕ). flat.task_step (code_in old) p (flat.Releases bs) (stack_in old) (state_in rest old)) (sym e))

pub returns-clause-ok : goal.returns-clause-ok
returns-clause-ok c =
    let old = c.args.machine.now in
    let b = c.in-Some.buffer in
    let next = c.args.from + 1 in
    let bs = (header_at old.code.instrs.items c.args.place).scoped in
    let e : drop c.args.from bs ≡ b ∷ drop next bs = ap (drop c.args.from) (sym c.scoped_at.ensures) ∙ c.in-Some.ensures.1 next refl ∙ ap (λ xs. b ∷ drop next xs) c.scoped_at.ensures in
    let one = stack.Then (task.End (end_task.Releases c.args.place next)) in
    let two = stack.Then (task.End (end_task.Drops b)) in
    entries_moved (task.End (end_task.Releases c.args.place c.args.from)) old c.set_mode-2.new.self (mode.Execute (task.End (end_task.EntersOne c.own.result))) c.push-2.new.self (two ∷ one ∷ []) c.set_mode-2.ensures
    (pushed_two old.stack.items c.push.new.self.items c.push-2.new.self.items one two c.in_ok-push.ensures.items c.in_ok-push-2.ensures.items) (λ o. (tt, (tt, (tt, o.1))))
    (λ p rest f.
    ap (λ (x : Place). flat.config (flat.Execute (flat.EntersOne (denoted_place x))) (flat.ThenDo (flat.Drops b) ∷ flat.ThenDo (flat.Releases (drop next bs)) ∷ stack_in old) (state_in rest old)) c.own.ensures
    ∙ ap (λ (xs : List ℕ). flat.task_step (code_in old) p (flat.Releases xs) (stack_in old) (state_in rest old)) (sym e))
