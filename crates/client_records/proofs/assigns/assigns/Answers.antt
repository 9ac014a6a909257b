use Rattle.std.proofs.Common.{◌≡◌, ap, sym, ◌∙◌, refl, ℕ, List}
use Rattle.std.specs.Prelude.{reverse}
use Rattle.flat_machine.specs.Flat as flat
use Rattle.block_meaning.specs.Changes.{buffers_in}
use Rattle.client_machine.specs.Config.{assignments_of, stack_of}
use Rattle.client_machine.specs.Machine.{stack_in, state_in}
use Rattle.client_machine.specs.Order.{nesting_of}
use Rattle.client_machine.specs.declared.mode.Mode.TheVariants as mode
use Rattle.client_machine.specs.declared.mode.Task.TheVariants as task
use Rattle.client_machine.specs.declared.mode.changes.ChangeTask.TheVariants as change_task
use Rattle.client_records.specs.Entries.{content_at, lock_entries, store_entries}
use Rattle.client_records.proofs.Kept.{task_from}
use Rattle.client_records.proofs.OneByOne.{assigns_one_by_one}
use Rattle.client_records.proofs.Pushed.{stack_kept, same_contents}
use Rattle.client_records.proofs.assigns.assigns.Goals as goal

pub returns-clause-ok : goal.returns-clause-ok
returns-clause-ok c =
    let old = c.args.machine.now in
    let code = old.code.instrs.items in
    let cs = old.memory.copies in
    let xs = assignments_of code c.args.pairs in
    let x = mode.Execute (task.Change (change_task.AssignsEach c.args.pairs c.args.retry)) in
    let more = c.push_locks.new.stack in
    let bs = buffers_in xs in
    let named : c.as_slice.result.now ≡ bs = c.as_slice.ensures.value ∙ c.in_ok-buffers.ensures in
    let named-2 : c.as_slice-2.result.now ≡ bs = c.as_slice-2.ensures.value ∙ c.in_ok-buffers.ensures in
    let top : stack_of code cs (reverse more.items) ≡ lock_entries bs (store_entries (content_at old.memory) bs (stack_in old)) =
    c.in_ok-push_locks.ensures.pushed code cs
    ∙ ap (λ (ys : List ℕ). lock_entries ys (stack_of code cs (reverse c.push_stores.new.stack.items))) named-2
    ∙ ap (λ (ks : List flat.StackEntry). lock_entries bs ks) (c.in_ok-push_stores.ensures.pushed code cs ∙ ap (λ (ys : List ℕ). store_entries (content_at old.memory) ys (stack_in old)) named) in
    task_from (change_task.Assigns c.args.pairs c.args.retry) (λ p s. flat.config (flat.Execute (flat.Assigns xs c.args.retry)) (stack_in old) s) old c.set_mode.new.self (λ tree p rest is f ans. refl)
    (stack_kept (λ p s. flat.config (flat.Execute (flat.Assigns xs c.args.retry)) (stack_in old) s) old c.set_mode.new.self x more c.set_mode.ensures
    (λ o. (tt, c.in_ok-push_locks.ensures.order (nesting_of old.memory) (c.in_ok-push_stores.ensures.order (nesting_of old.memory) o)))
    (λ tree p rest f ans.
    assigns_one_by_one tree p xs c.args.retry (stack_in old) (state_in rest old) ans
    ∙ ap (λ (ks : List flat.StackEntry). flat.means tree p (flat.config (flat.Execute (flat.AssignsEach xs c.args.retry)) (lock_entries bs ks) (state_in rest old)) ans) (same_contents old rest bs (stack_in old) f.even)
    ∙ ap (λ (ks : List flat.StackEntry). flat.means tree p (flat.config (flat.Execute (flat.AssignsEach xs c.args.retry)) ks (state_in rest old)) ans) (sym top)))
