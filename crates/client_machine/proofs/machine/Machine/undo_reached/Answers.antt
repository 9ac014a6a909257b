use Rattle.std.proofs.Common.{◌≡◌, ◌∷◌, sym, ap, ◌∙◌, refl, subst}
use Rattle.std.specs.Prelude.{reverse}
use Rattle.std.proofs.lemmas.Bool.{eq-eqb}
use Rattle.flat_machine.specs.Flat as flat
use Rattle.client_machine.specs.Config.{header_at, iteration_of, passed_of, after_undo_of, stack_of, task_of}
use Rattle.client_machine.specs.Machine.{stack_in, state_in}
use Rattle.client_machine.specs.Order.{nesting_of, TaskInOrder}
use Rattle.client_machine.specs.Step.{KeepsTask}
use Rattle.client_machine.specs.declared.mode.Task.TheVariants as task
use Rattle.client_machine.specs.declared.mode.StackEntry.TheVariants as stack
use Rattle.client_machine.proofs.RunKept.{task_kept_same, pushed}
use Rattle.client_machine.proofs.Returned.{undo_reaches}
use Rattle.client_machine.proofs.End.{passed_is}
use Rattle.client_machine.proofs.Passes.{outer_named}
use Rattle.client_machine.proofs.machine.Machine.undo_reached.Goals as goal

pub returns-clause-ok : goal.returns-clause-ok
returns-clause-ok c =
    let old = c.args.self.now in
    let cs = old.memory.copies in
    let code = old.code.instrs.items in
    let b = header_at code c.args.place in
    let y = c.in_ok-passed.passed in
    let a = task.Acts c.args.place c.args.iteration.turn c.args.after_undo c.args.retry in
    let ks = reverse old.stack.items in
    let more : reverse c.push.new.self.items ≡ stack.Then a ∷ ks = pushed old.stack.items c.push.new.self.items (stack.Then a) c.in_ok-push.ensures.items in
    let t = task.UndoComes c.args.place c.args.iteration c.args.block c.args.after_undo c.args.retry c.args.passed in
    let back = c.back_task-task.result in
    subst (KeepsTask t old) (sym c.set_mode.ensures)
    (task_kept_same t old _ refl
    (λ o. let o' = outer_named (nesting_of old.memory) c.args.place c.args.iteration y.first c.args.passed.first ks c.in_ok-passed.ensures.first o in
    subst (λ os. TaskInOrder (nesting_of old.memory) back os) (sym more) (c.back_task-task.ensures.order (nesting_of old.memory) (stack.Then a ∷ ks) (o'.0, (tt, o'.1))))
    (λ tree p rest is f ans.
    undo_reaches tree p b (iteration_of cs c.args.iteration) c.args.block (after_undo_of code c.args.after_undo) c.args.retry (passed_of code cs c.args.passed) (passed_of code cs y) (stack_in old) (state_in rest old) ans
    (eq-eqb c.args.block b.number c.requires.reached) (passed_is code cs b c.args.iteration y c.args.passed c.in_ok-passed.ensures.first c.in_ok-passed.ensures.buffers)
    ∙ ap (λ x. flat.means tree p (flat.config (flat.Execute x) (flat.ThenDo (task_of code cs a) ∷ stack_in old) (state_in rest old)) ans) (sym (c.back_task-task.ensures.same code cs))
    ∙ ap (λ os. flat.means tree p (flat.config (flat.Execute (task_of code cs back)) (stack_of code cs os) (state_in rest old)) ans) (sym more)))
