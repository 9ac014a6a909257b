use Rattle.std.proofs.Common.{◌∷◌, ap, refl, sym, subst, ◌∙◌}
use Rattle.std.specs.Prelude.{reverse}
use Rattle.flat_machine.specs.Flat as flat
use Rattle.block_meaning.specs.Buffers.{own}
use Rattle.block_meaning.specs.Program.{Program}
use Rattle.block_meaning.specs.State.{State}
use Rattle.client_machine.specs.Config.{stack_of}
use Rattle.client_machine.specs.Machine.{stack_in, state_in}
use Rattle.client_machine.specs.Order.{ModeInOrder, nesting_of}
use Rattle.client_machine.specs.declared.mode.Mode.TheVariants as mode
use Rattle.client_machine.specs.declared.mode.StackEntry.{StackEntry}
use Rattle.client_machine.specs.declared.mode.StackEntry.TheVariants as stack
use Rattle.client_machine.specs.declared.mode.Task.TheVariants as task
use Rattle.client_machine.specs.declared.mode.changes.ChangeTask.TheVariants as change_task
use Rattle.client_machine.specs.declared.mode.ends.EndTask.TheVariants as end_task
use Rattle.client_memory.specs.declared.buffer.Place.{Place}
use Rattle.std.specs.Prelude.{List}
use Rattle.client_records.proofs.Kept.{task_step_from}
use Rattle.client_records.proofs.Pushed.{pushed_two, stack_kept}
use Rattle.client_records.proofs.creates.creates.Goals as goal

pub returns-clause-ok : goal.returns-clause-ok
returns-clause-ok c =
    let old = c.args.machine.now in
    let b = c.args.buffer in
    let begun = stack.Then (task.Change (change_task.Begun b)) in
    let drops = stack.Then (task.End (end_task.Drops b)) in
    let more = c.push-2.new.self in
    let top = pushed_two old.stack.items c.push.new.self.items more.items begun drops c.in_ok-push.ensures.items c.in_ok-push-2.ensures.items in
    let x = mode.Execute (task.End (end_task.EntersOne c.own.result)) in
    let from = λ (p : Program) (s : State). flat.config (flat.Execute (flat.EntersOne (own b))) (flat.ThenDo (flat.Drops b) ∷ flat.ThenDo (flat.Begun b) ∷ stack_in old) s in
    task_step_from (change_task.Creates b) from old c.set_mode.new.self (λ p s. refl)
    (stack_kept from old c.set_mode.new.self x more c.set_mode.ensures
    (λ o. subst (λ (ks : List StackEntry). ModeInOrder (nesting_of old.memory) x ks) (sym top) (tt, (tt, (tt, o))))
    (λ tree p rest f ans.
    ap (λ (ks : List StackEntry). flat.means tree p (flat.config (flat.Execute (flat.EntersOne (own b))) (stack_of old.code.instrs.items old.memory.copies ks) (state_in rest old)) ans) (sym top)
    ∙ ap (λ (at : Place). flat.means tree p (flat.config (flat.Execute (flat.EntersOne (record { out = at.out; number = at.number }))) (stack_of old.code.instrs.items old.memory.copies (reverse more.items)) (state_in rest old)) ans) (sym c.own.ensures)))
