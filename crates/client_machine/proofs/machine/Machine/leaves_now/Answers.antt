use Rattle.std.proofs.Common.{sym, ap, ◌∙◌, subst, refl}
use Rattle.database_protocol.specs.declared.operation.Op.TheVariants as op
use Rattle.flat_machine.specs.Flat as flat
use Rattle.client_machine.specs.declared.mode.Task.TheVariants as task
use Rattle.client_machine.specs.declared.mode.OnAnswer.TheVariants as on_answer
use Rattle.client_machine.specs.Machine.{stack_in, state_in}
use Rattle.client_machine.specs.Step.{KeepsTask}
use Rattle.client_machine.proofs.Left.{nothing_kept}
use Rattle.client_machine.proofs.RunKept.{task_kept_ask, task_kept_same}
use Rattle.client_machine.proofs.machine.Machine.leaves_now.Goals as goal

pub returns-then-has_buffers-clause-ok : goal.returns-then-has_buffers-clause-ok
returns-then-has_buffers-clause-ok c =
    subst (KeepsTask task.LeavesNow c.args.self.now) (sym c.set_mode.ensures)
    (task_kept_same task.LeavesNow c.args.self.now _ refl (λ o. o) (λ tree p rest is f ans. refl))

pub returns-clause-ok : goal.returns-clause-ok
returns-clause-ok c =
    let old = c.args.self.now in
    task_kept_ask task.LeavesNow (op.Leave c.empty-keep.result) on_answer.WasLeft old c.ask.new.self c.ask.ensures.moved c.ask.ensures.mode tt (λ o. o)
    (λ tree p rest f.
    c.ask.ensures.asks rest
    ∙ ap (λ rows. flat.ask (op.Leave rows) flat.WasLeft (stack_in old) (state_in rest old)) c.empty-keep.ensures
    ∙ ap (λ rows. flat.ask (op.Leave rows) flat.WasLeft (stack_in old) (state_in rest old)) (sym (nothing_kept rest old.procedures.items old.memory old.units f.even (c.has_buffers.ensures.none c.if-has_buffers.false))))
