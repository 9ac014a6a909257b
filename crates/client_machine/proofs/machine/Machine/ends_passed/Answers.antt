use Rattle.std.proofs.Common.{◌≡◌, List, ◌∷◌, sym, ap, ◌∙◌, subst}
use Rattle.std.specs.Prelude.{reverse}
use Rattle.flat_machine.specs.Flat as flat
use Rattle.client_machine.specs.Config.{header_at, completion_of, stack_of}
use Rattle.client_machine.specs.Machine.{config_of, stack_in, state_in}
use Rattle.client_machine.specs.Order.{ModeInOrder}
use Rattle.client_machine.specs.declared.machine.Machine.{Machine}
use Rattle.client_machine.specs.declared.mode.Mode.TheVariants as mode
use Rattle.client_machine.specs.declared.mode.StackEntry.{StackEntry}
use Rattle.client_machine.specs.declared.mode.ends.EndTask.TheVariants as end_task
use Rattle.client_machine.specs.declared.mode.Task.TheVariants as task
use Rattle.client_machine.specs.declared.mode.StackEntry.TheVariants as stack
use Rattle.client_machine.proofs.RunKept.{pushed}
use Rattle.client_machine.proofs.Orders.{completes_order}
use Rattle.client_machine.proofs.machine.Machine.ends_passed.Goals as goal

pub returns-then-is_bufferless-clause-order : goal.returns-then-is_bufferless-clause-order
returns-then-is_bufferless-clause-order c = λ n none o.
    subst (λ (m : Machine). ModeInOrder n m.mode (reverse m.stack.items)) (sym c.set_mode.ensures) (completes_order n c.args.completion (reverse c.args.self.now.stack.items) none o)

pub returns-then-is_bufferless-clause-same : goal.returns-then-is_bufferless-clause-same
returns-then-is_bufferless-clause-same c = λ tree p rest ans.
    let old = c.args.self.now in
    ap (λ (m : Machine). flat.means tree p (config_of rest m) ans) c.set_mode.ensures
    ∙ ap (λ bs. flat.means tree p (flat.config (flat.Execute (flat.Releases bs)) (flat.ThenDo (flat.Completes (completion_of old.code.instrs.items old.memory.copies c.args.completion)) ∷ stack_in old) (state_in rest old)) ans) (sym (c.is_bufferless.ensures c.if-is_bufferless.true))

pub returns-clause-order : goal.returns-clause-order
returns-clause-order c = λ n none o.
    let old = c.args.self.now in
    let entry = stack.Then (task.Completes c.args.completion) in
    let more : reverse c.push.new.self.items ≡ entry ∷ reverse old.stack.items = pushed old.stack.items c.push.new.self.items entry c.in_ok-push.ensures.items in
    subst (λ (m : Machine). ModeInOrder n m.mode (reverse m.stack.items)) (sym c.set_mode-2.ensures)
    (subst (λ (os : List StackEntry). ModeInOrder n (mode.Execute (task.End (end_task.Releases c.args.place 0))) os) (sym more) (tt, (none, o)))

pub returns-clause-same : goal.returns-clause-same
returns-clause-same c = λ tree p rest ans.
    let old = c.args.self.now in
    let entry = stack.Then (task.Completes c.args.completion) in
    let more : reverse c.push.new.self.items ≡ entry ∷ reverse old.stack.items = pushed old.stack.items c.push.new.self.items entry c.in_ok-push.ensures.items in
    ap (λ (m : Machine). flat.means tree p (config_of rest m) ans) c.set_mode-2.ensures
    ∙ ap (λ os. flat.means tree p (flat.config (flat.Execute (flat.Releases (header_at old.code.instrs.items c.args.place).scoped)) (stack_of old.code.instrs.items old.memory.copies os) (state_in rest old)) ans) more
