use Rattle.std.proofs.Common.{◌≡◌, ◌∷◌, None, sym, ap, ◌∙◌, refl, subst}
use Rattle.std.specs.Prelude.{reverse}
use Rattle.flat_machine.specs.Flat as flat
use Rattle.client_machine.specs.Config.{header_at, body_at, fetch_at, copy_in, turn_of, stack_of, task_of}
use Rattle.client_machine.specs.Machine.{stack_in, state_in}
use Rattle.client_machine.specs.Order.{nesting_of, TaskInOrder}
use Rattle.client_machine.specs.Step.{KeepsTask}
use Rattle.client_machine.specs.declared.mode.TurnData.{TurnData}
use Rattle.client_machine.specs.declared.mode.Task.TheVariants as task
use Rattle.client_machine.specs.declared.mode.StackEntry.TheVariants as stack
use Rattle.client_machine.specs.declared.mode.reads.ReadTask.TheVariants as read_task
use Rattle.client_machine.specs.declared.mode.reads.ReadEntry.TheVariants as read_entry
use Rattle.client_machine.proofs.RunKept.{task_kept_same, pushed}
use Rattle.client_machine.proofs.RecordsKept.{fetch_begins}
use Rattle.client_machine.proofs.machine.Machine.begins_fetch.Goals as goal

pub returns-clause-ok : goal.returns-clause-ok
returns-clause-ok c =
    let old = c.args.self.now in
    let code = old.code.instrs.items in
    let cs = old.memory.copies in
    let ks = reverse old.stack.items in
    let turn = c.args.turn in
    let t = task.Begins c.args.place c.args.depth turn c.args.retry c.args.left in
    let reads = task.Read (read_task.Fetches c.args.place turn.retry c.args.retry turn.own) in
    let read : TurnData = record turn { own = None } in
    let entry = stack.Read (read_entry.FetchedAs c.args.place c.args.depth read c.args.retry c.args.left) in
    let more : reverse c.push.new.self.items ≡ entry ∷ ks = pushed old.stack.items c.push.new.self.items entry c.in_ok-push.ensures.items in
    subst (KeepsTask t old) (sym c.set_mode.ensures)
    (task_kept_same t old _ refl
    (λ x. subst (λ os. TaskInOrder (nesting_of old.memory) reads os) (sym more) (tt, x))
    (λ tree p rest is f ans.
    fetch_begins tree p (header_at code c.args.place) (fetch_at code c.args.place) (copy_in cs c.args.depth) (turn_of turn) c.args.retry (body_at code c.args.place) c.args.left (stack_in old) (state_in rest old) ans c.requires.reads
    ∙ ap (λ os. flat.means tree p (flat.config (flat.Execute (task_of code cs reads)) (stack_of code cs os) (state_in rest old)) ans) (sym more)))
