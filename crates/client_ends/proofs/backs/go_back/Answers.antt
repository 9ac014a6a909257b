use Rattle.std.proofs.Common.{ℕ, Option, Some, None, refl, sym, ap, subst, ◌-◌}
use Rattle.flat_machine.specs.Flat as flat
use Rattle.client_machine.specs.declared.mode.Completion.TheVariants as completion
use Rattle.client_machine.specs.declared.mode.Mode.TheVariants as mode
use Rattle.client_machine.specs.declared.mode.OnAnswer.TheVariants as on_answer
use Rattle.client_machine.specs.declared.mode.Task.TheVariants as task
use Rattle.client_machine.specs.declared.mode.ends.EndAnswer.TheVariants as end_answer
use Rattle.client_machine.specs.declared.mode.ends.EndTask.TheVariants as end_task
use Rattle.client_machine.specs.Config.{buffers_of, no_copy}
use Rattle.client_machine.specs.Machine.{stack_in, state_in}
use Rattle.client_machine.specs.Step.{KeepsTask}
use Rattle.database_protocol.specs.declared.operation.Op.TheVariants as op
use Rattle.std.specs.Prelude.{slice_index_or}
use Rattle.client_ends.proofs.Closing.{level_depth}
use Rattle.client_ends.proofs.Moved.{mode_moved, asks_kept}
use Rattle.client_ends.proofs.backs.go_back.Goals as goal

pub returns-in-None-clause-ok : goal.returns-in-None-clause-ok
returns-in-None-clause-ok c =
    let old = c.args.machine.now in
    subst (λ (d : Option ℕ). KeepsTask (task.End (end_task.GoesBack d c.args.but)) old c.set_mode.new.self) (sym c.in-None.is)
    (mode_moved (task.End (end_task.GoesBack None c.args.but)) old c.set_mode.new.self (mode.Unwind completion.Normal) c.set_mode.ensures (λ o. o) (λ p rest f. refl))

pub returns-in-Some-clause-ok : goal.returns-in-Some-clause-ok
returns-in-Some-clause-ok c =
    let old = c.args.machine.now in
    let d = c.in-Some.depth in
    let bs = buffers_of old.code.instrs.items c.args.but in
    let copy = slice_index_or old.memory.copies (d - 1) no_copy in
    subst (λ (x : Option ℕ). KeepsTask (task.End (end_task.GoesBack x c.args.but)) old c.ask.new.self) (sym c.in-Some.is)
    (asks_kept (task.End (end_task.GoesBack (Some d) c.args.but)) (op.Back d) (on_answer.End (end_answer.WasBack d c.args.but)) old c.ask.new.self c.ask.ensures.moved c.ask.ensures.mode (λ o. (refl, o)) c.ask.ensures.asks
    (λ p rest f. ap (λ k. flat.ask (op.Back k) (flat.WasBack copy bs) (stack_in old) (state_in rest old)) (sym (level_depth old.memory d f.whole f.order.0))))
