use Rattle.std.proofs.Common.{◌≡◌, ◌∷◌, None, false, sym, ap, ◌∙◌, refl, subst}
use Rattle.std.specs.Prelude.{reverse}
use Rattle.flat_machine.specs.Flat as flat
use Rattle.client_machine.specs.Config.{header_at, iteration_of, completion_of, stack_of, task_of, turn_read}
use Rattle.client_machine.specs.Machine.{stack_in, state_in}
use Rattle.client_machine.specs.Order.{nesting_of, TaskInOrder}
use Rattle.client_machine.specs.Step.{KeepsTask}
use Rattle.client_machine.specs.declared.mode.Task.TheVariants as task
use Rattle.client_machine.specs.declared.mode.StackEntry.TheVariants as stack
use Rattle.client_machine.specs.declared.mode.ends.EndTask.TheVariants as end_task
use Rattle.client_machine.specs.declared.mode.ends.EndEntry.TheVariants as end_entry
use Rattle.client_machine.proofs.RunKept.{task_kept_same, pushed}
use Rattle.client_machine.proofs.Orders.{closes_records}
use Rattle.client_machine.proofs.End.{closing_begins, closing_ends}
use Rattle.client_machine.proofs.machine.Machine.closes_records.Goals as goal

pub returns-clause-ok : goal.returns-clause-ok
returns-clause-ok c =
    let old = c.args.self.now in
    let code = old.code.instrs.items in
    let cs = old.memory.copies in
    let b = header_at code c.args.place in
    let ks = reverse old.stack.items in
    let o = iteration_of cs c.args.iteration in
    let w = completion_of code cs c.args.completion in
    let t = task.EndsWith c.args.place c.args.iteration c.args.completion in
    let closing = task.End (end_task.Closing c.args.place c.args.iteration.depth) in
    let entry = stack.End (end_entry.AfterClosing c.args.place c.args.iteration c.args.completion) in
    let more : reverse c.push.new.self.items ≡ entry ∷ ks = pushed old.stack.items c.push.new.self.items entry c.in_ok-push.ensures.items in
    subst (KeepsTask t old) (sym c.set_mode.ensures)
    (task_kept_same t old _ refl
    (λ x. subst (λ os. TaskInOrder (nesting_of old.memory) closing os) (sym more) (closes_records (nesting_of old.memory) c.args.place c.args.iteration c.args.completion ks c.requires.plain x))
    (λ tree p rest is f ans.
    closing_begins tree p b o w (turn_read false None) (stack_in old) (state_in rest old) ans (closing_ends p b o code cs c.args.completion c.requires.plain)
    ∙ ap (λ os. flat.means tree p (flat.config (flat.Execute (task_of code cs closing)) (stack_of code cs os) (state_in rest old)) ans) (sym more)))
