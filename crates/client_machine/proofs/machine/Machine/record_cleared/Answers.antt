use Rattle.std.proofs.Common.{◌≡◌, sym, ap, ◌∙◌, subst}
use Rattle.std.specs.Prelude.{reverse}
use Rattle.flat_machine.specs.Flat as flat
use Rattle.client_values.proofs.Assigned.{same_shape}
use Rattle.client_machine.specs.Config.{task_of, stack_of}
use Rattle.client_machine.specs.KeepsFrom.{KeepsFrom}
use Rattle.client_machine.specs.Records.{record_task_of, entries_of_stmt}
use Rattle.client_machine.specs.Machine.{state_in}
use Rattle.client_machine.specs.Order.{nesting_of, TaskInOrder}
use Rattle.client_machine.specs.declared.machine.Machine.{Machine}
use Rattle.client_machine.specs.declared.mode.Mode.TheVariants as mode
use Rattle.client_machine.proofs.MemoryKept.{memory_kept}
use Rattle.client_machine.proofs.RecordsKept.{record_order}
use Rattle.client_machine.proofs.machine.Machine.record_cleared.Goals as goal

pub returns-clause-ok : goal.returns-clause-ok
returns-clause-ok c =
    let old = c.args.self.now in
    let code = old.code.instrs.items in
    let cs = old.memory.copies in
    let t = record_task_of c.args.stmt c.args.place c.args.retry in
    let ks = entries_of_stmt c.args.stmt c.args.no_error c.args.next c.args.left c.args.retry (reverse old.stack.items) in
    let more = c.push_record.new.self.stack in
    let pushed : reverse more.items ≡ ks = c.in_ok-push_record.ensures.pushed in
    subst (λ (m : Machine). KeepsFrom (λ p s. flat.config (flat.Execute (task_of code cs t)) (stack_of code cs ks) s) old m)
    (sym (c.set_mode.ensures ∙ ap (λ x. record c.push_record.new.self { mode = mode.Execute x }) c.record_task.ensures ∙ ap (λ (m : Machine). record m { mode = mode.Execute t }) c.in_ok-push_record.ensures.moved))
    (memory_kept (λ p s. flat.config (flat.Execute (task_of code cs t)) (stack_of code cs ks) s) old (mode.Execute t) more old.memory (same_shape old.memory)
    (λ o. subst (λ os. TaskInOrder (nesting_of old.memory) t os) (sym pushed) (record_order c.args.stmt (nesting_of old.memory) c.args.place c.args.no_error c.args.next c.args.left c.args.retry (reverse old.stack.items) o.1))
    (λ tree p rest is f ans. ap (λ os. flat.means tree p (flat.config (flat.Execute (task_of code cs t)) (stack_of code cs os) (state_in rest old)) ans) (sym pushed)))
