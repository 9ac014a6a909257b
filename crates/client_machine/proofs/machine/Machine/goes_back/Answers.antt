use Rattle.std.proofs.Common.{◌-◌, [], None, Some, sym, ap, ◌∙◌, subst, refl, slice_index_or}
use Rattle.database_protocol.specs.declared.operation.Op.TheVariants as op
use Rattle.flat_machine.specs.Flat as flat
use Rattle.client_machine.specs.Config.{no_copy}
use Rattle.client_machine.specs.Machine.{stack_in, state_in}
use Rattle.client_machine.proofs.Nestings.{depth_is}
use Rattle.client_machine.specs.declared.mode.Task.TheVariants as task
use Rattle.client_machine.specs.declared.mode.OnAnswer.TheVariants as on_answer
use Rattle.client_machine.specs.Step.{KeepsTask}
use Rattle.client_machine.proofs.RunKept.{task_kept, task_kept_ask}
use Rattle.client_machine.proofs.machine.Machine.goes_back.Goals as goal

pub returns-in-Some-clause-ok : goal.returns-in-Some-clause-ok
returns-in-Some-clause-ok c =
    subst (λ d. KeepsTask (task.GoesBack d) c.args.self.now c.ask.new.self) (sym c.in-Some.is)
    (task_kept_ask (task.GoesBack (Some c.in-Some.depth)) (op.Back c.in-Some.depth) (on_answer.WasBack c.in-Some.depth) c.args.self.now c.ask.new.self c.ask.ensures.moved c.ask.ensures.mode refl (λ o. o)
    (λ tree p rest f. c.ask.ensures.asks rest ∙ ap (λ d. flat.ask (op.Back d) (flat.WasBack (slice_index_or c.args.self.now.memory.copies (c.in-Some.depth - 1) no_copy) []) (stack_in c.args.self.now) (state_in rest c.args.self.now)) (sym (depth_is c.args.self.now.memory c.in-Some.depth f.whole f.order.0))))

pub returns-in-None-clause-ok : goal.returns-in-None-clause-ok
returns-in-None-clause-ok c =
    let old = c.args.self.now in
    subst (λ d. KeepsTask (task.GoesBack d) old c.set_mode.new.self) (sym c.in-None.is)
    (subst (KeepsTask (task.GoesBack None) old) (sym c.set_mode.ensures) (task_kept (task.GoesBack None) old _ refl (λ o. o) (λ tree p rest f. refl)))
