use Rattle.std.proofs.Common.{◌∷◌, ap, refl, sym, subst}
use Rattle.flat_machine.specs.Flat as flat
use Rattle.client_machine.specs.Config.{assignments_of, stack_of}
use Rattle.client_machine.specs.Machine.{stack_in, state_in}
use Rattle.client_machine.specs.Order.{InOrder, nesting_of}
use Rattle.client_machine.specs.declared.mode.StackEntry.{StackEntry}
use Rattle.client_machine.specs.declared.mode.StackEntry.TheVariants as stack
use Rattle.client_machine.specs.declared.mode.Task.TheVariants as task
use Rattle.client_machine.specs.declared.mode.changes.ChangeAnswer.TheVariants as change_answer
use Rattle.client_machine.specs.declared.mode.changes.ChangeTask.TheVariants as change_task
use Rattle.client_machine.specs.declared.machine.Machine.{Machine}
use Rattle.std.specs.Prelude.{List}
use Rattle.client_records.proofs.Kept.{ask_after}
use Rattle.client_records.proofs.Pushed.{pushed}
use Rattle.client_records.proofs.assigns.count_then.Goals as goal

pub returns-clause-ok : goal.returns-clause-ok
returns-clause-ok c =
    let old = c.args.machine.now in
    let mid : Machine = record old { stack = c.push.new.self } in
    let entry = stack.Then (task.Change (change_task.AssignsEach c.args.rest c.args.retry)) in
    let top = pushed old.stack.items c.push.new.self.items entry c.in_ok-push.ensures.items in
    let ks = flat.ThenDo (flat.AssignsEach (assignments_of old.code.instrs.items c.args.rest) c.args.retry) ∷ stack_in old in
    ask_after (λ p s. flat.ask c.args.op (flat.WasCounted c.args.target) ks s) old mid c.ask.new.self c.args.op (change_answer.WasCounted c.args.target) refl c.ask.ensures.moved c.ask.ensures.mode c.ask.ensures.asks
    (λ o. subst (λ (xs : List StackEntry). InOrder (nesting_of old.memory) xs) (sym top) (tt, o)) (λ p rest f. c.requires.sequence)
    (λ p rest f. ap (λ (xs : List StackEntry). flat.ask c.args.op (flat.WasCounted c.args.target) (stack_of old.code.instrs.items old.memory.copies xs) (state_in rest old)) (sym top))
