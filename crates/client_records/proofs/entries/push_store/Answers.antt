use Rattle.std.proofs.Common.{◌∷◌, [], ap, subst, sym, List, ◌∙◌}
use Rattle.std.specs.Prelude.{reverse}
use Rattle.flat_machine.specs.Flat as flat
use Rattle.block_meaning.specs.State.{Content}
use Rattle.client_machine.specs.Config.{stack_of}
use Rattle.client_machine.specs.Order.{InOrder}
use Rattle.client_machine.specs.declared.mode.StackEntry.{StackEntry}
use Rattle.client_machine.specs.declared.mode.StackEntry.TheVariants as stack
use Rattle.client_machine.specs.declared.mode.Task.TheVariants as task
use Rattle.client_machine.specs.declared.mode.changes.ChangeEntry.TheVariants as change_entry
use Rattle.client_machine.specs.declared.mode.changes.ChangeTask.TheVariants as change_task
use Rattle.client_records.proofs.Pushed.{pushed_two}
use Rattle.client_records.proofs.entries.push_store.Goals as goal

pub returns-clause-pushed : goal.returns-clause-pushed
returns-clause-pushed c = λ code cs.
    let b = c.args.buffer in
    let old = c.args.stack.now.items in
    ap (stack_of code cs) (pushed_two old c.push.new.self.items c.push-2.new.self.items (stack.Change (change_entry.AsBefore b c.in_ok-content.content)) (stack.Then (task.Change (change_task.SettlesOne b))) c.in_ok-push.ensures.items c.in_ok-push-2.ensures.items)
    ∙ ap (λ (x : Content). flat.ThenDo (flat.SettlesOne b) ∷ flat.AsBefore (x ∷ []) (b ∷ []) ∷ stack_of code cs (reverse old)) c.in_ok-content.ensures

pub returns-clause-order : goal.returns-clause-order
returns-clause-order c = λ n o.
    let b = c.args.buffer in
    subst (λ (ks : List StackEntry). InOrder n ks)
    (sym (pushed_two c.args.stack.now.items c.push.new.self.items c.push-2.new.self.items (stack.Change (change_entry.AsBefore b c.in_ok-content.content)) (stack.Then (task.Change (change_task.SettlesOne b))) c.in_ok-push.ensures.items c.in_ok-push-2.ensures.items)) (tt, o)
