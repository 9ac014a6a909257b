use Rattle.std.proofs.Common.{◌≡◌, [], ◌∷◌, sym, ap, ◌∙◌, refl, subst}
use Rattle.std.specs.Prelude.{reverse}
use Rattle.flat_machine.specs.Flat as flat
use Rattle.client_machine.specs.Config.{header_at, iteration_of, copy_in, completion_of, stack_of}
use Rattle.client_machine.specs.Machine.{stack_in, state_in}
use Rattle.client_machine.specs.Order.{nesting_of, TaskInOrder}
use Rattle.client_machine.specs.Step.{KeepsTask}
use Rattle.client_machine.specs.declared.mode.Task.TheVariants as task
use Rattle.client_machine.specs.declared.mode.StackEntry.TheVariants as stack
use Rattle.client_machine.proofs.RunKept.{task_kept_same, pushed}
use Rattle.client_machine.proofs.Orders.{closes_plainly, closes_level}
use Rattle.client_machine.proofs.End.{level_ends, plain_iteration_ends, closing_ends, closing_names, no_places}
use Rattle.client_machine.proofs.machine.Machine.closes.Goals as goal

pub returns-in-None-clause-ok : goal.returns-in-None-clause-ok
returns-in-None-clause-ok c =
    let old = c.args.self.now in
    let cs = old.memory.copies in
    let b = header_at old.code.instrs.items c.args.place in
    let ks = reverse old.stack.items in
    let o = iteration_of cs c.args.iteration in
    let w = c.completion_after-completion.result in
    let t = task.EndsWith c.args.place c.args.iteration c.args.completion in
    let plain = c.if-not-is_bufferless.ensures refl in
    let named = closing_names c.args.completion c.requires.plain in
    subst (KeepsTask t old) (sym c.set_mode.ensures)
    (task_kept_same t old _ refl
    (closes_plainly (nesting_of old.memory) c.args.place c.args.iteration c.args.completion w ks c.in-None.is c.requires.plain (c.completion_after-completion.ensures.plain named))
    (λ tree p rest is f ans.
    plain_iteration_ends tree p b o (completion_of old.code.instrs.items cs c.args.completion) (stack_in old) (state_in rest old) ans (closing_ends p b o old.code.instrs.items cs c.args.completion c.requires.plain) plain (no_places rest old.procedures.items old.memory old.units f.even (c.has_buffers.ensures.none c.if-has_buffers.false)) (ap (copy_in cs) c.in-None.is)
    ∙ ap (λ x. flat.means tree p (flat.config (flat.Unwind x) (stack_in old) (state_in rest old)) ans) (sym (c.completion_after-completion.ensures.same old.code.instrs.items cs (copy_in cs c.args.iteration.depth)))))

pub returns-in_ok-push-in-Some-clause-ok : goal.returns-in_ok-push-in-Some-clause-ok
returns-in_ok-push-in-Some-clause-ok c =
    let old = c.args.self.now in
    let cs = old.memory.copies in
    let b = header_at old.code.instrs.items c.args.place in
    let ks = reverse old.stack.items in
    let o = iteration_of cs c.args.iteration in
    let w = c.completion_after-completion.result in
    let t = task.EndsWith c.args.place c.args.iteration c.args.completion in
    let plain = c.if-not-is_bufferless.ensures refl in
    let named = closing_names c.args.completion c.requires.plain in
    let more : reverse c.push.new.self.items ≡ stack.Then (task.Completes w) ∷ ks = pushed old.stack.items c.push.new.self.items (stack.Then (task.Completes w)) c.in_ok-push-in-Some.ensures.items in
    subst (KeepsTask t old) (sym c.set_mode-in-Some.ensures)
    (task_kept_same t old _ refl
    (λ x. subst (λ os. TaskInOrder (nesting_of old.memory) task.LeavesNow os) (sym more) (closes_level (nesting_of old.memory) c.args.place c.in-Some.field-0 c.args.iteration c.args.completion w ks c.in-Some.is c.requires.plain (c.completion_after-completion.ensures.plain named) x))
    (λ tree p rest is f ans.
    level_ends tree p b o (completion_of old.code.instrs.items cs c.args.completion) _ (stack_in old) (state_in rest old) ans (closing_ends p b o old.code.instrs.items cs c.args.completion c.requires.plain) plain (no_places rest old.procedures.items old.memory old.units f.even (c.has_buffers.ensures.none c.if-has_buffers.false)) (ap (copy_in cs) c.in-Some.is)
    ∙ ap (λ x. flat.means tree p (flat.config (flat.Execute (flat.LeavesNow [])) (flat.ThenDo (flat.Completes x) ∷ stack_in old) (state_in rest old)) ans) (sym (c.completion_after-completion.ensures.same old.code.instrs.items cs (copy_in cs c.args.iteration.depth)))
    ∙ ap (λ os. flat.means tree p (flat.config (flat.Execute (flat.LeavesNow [])) (stack_of old.code.instrs.items cs os) (state_in rest old)) ans) (sym more)))
