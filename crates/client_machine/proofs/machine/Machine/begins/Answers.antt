use Rattle.std.proofs.Common.{◌≡◌, ◌∷◌, sym, ap, ◌∙◌, subst, refl}
use Rattle.std.specs.Prelude.{reverse}
use Rattle.flat_machine.specs.Flat as flat
use Rattle.client_machine.specs.Config.{header_at, body_at, copy_in, turn_of, stack_of}
use Rattle.client_machine.specs.Machine.{stack_in, state_in}
use Rattle.client_machine.specs.Order.{nesting_of, TaskInOrder}
use Rattle.client_machine.specs.declared.mode.Task.TheVariants as task
use Rattle.client_machine.specs.declared.mode.StackEntry.TheVariants as stack
use Rattle.client_machine.specs.Step.{KeepsTask}
use Rattle.client_machine.proofs.RunKept.{task_kept, pushed}
use Rattle.client_machine.proofs.machine.Machine.begins.Goals as goal

pub returns-clause-ok : goal.returns-clause-ok
returns-clause-ok c =
    let old = c.args.self.now in
    let code = old.code.instrs.items in
    let cs = old.memory.copies in
    let b = header_at code c.args.place in
    let t = task.Begins c.args.place c.args.depth c.args.turn c.args.retry c.args.left in
    let run = task.RunsFrom c.body_at-body.result c.args.left c.args.retry in
    let entry = stack.In c.args.place (record { depth = c.args.depth; turn = c.args.turn }) in
    let top : reverse c.push.new.self.items ≡ entry ∷ reverse old.stack.items = pushed old.stack.items c.push.new.self.items entry c.in_ok-push.ensures.items in
    subst (KeepsTask t old) (sym c.set_mode.ensures)
    (task_kept t old _ refl
    (λ o. subst (λ os. TaskInOrder (nesting_of old.memory) run os) (sym top) (tt, o))
    (λ tree p rest f.
    ap (λ os. flat.config (flat.Execute (flat.RunsFrom c.body_at-body.result c.args.left c.args.retry)) (stack_of code cs os) (state_in rest old)) top
    ∙ ap (λ k. flat.config (flat.Execute (flat.RunsFrom k c.args.left c.args.retry)) (stack_of code cs (entry ∷ reverse old.stack.items)) (state_in rest old)) c.body_at-body.ensures
    ∙ sym (ap (λ x. flat.begins_step x b (copy_in cs c.args.depth) (turn_of c.args.turn) c.args.retry (body_at code c.args.place) c.args.left (stack_in old) (state_in rest old)) (c.if-not-has_no_fetch.ensures.none refl))))
