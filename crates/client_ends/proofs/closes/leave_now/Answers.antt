use Rattle.std.proofs.Common.{sym, ap, ◌∙◌, length}
use Rattle.flat_machine.specs.Flat as flat
use Rattle.client_machine.specs.declared.mode.OnAnswer.TheVariants as on_answer
use Rattle.client_machine.specs.declared.mode.Task.TheVariants as task
use Rattle.client_machine.specs.declared.mode.ends.EndTask.TheVariants as end_task
use Rattle.client_machine.specs.Config.{buffers_of}
use Rattle.client_machine.specs.Machine.{stack_in, state_in}
use Rattle.database_protocol.specs.declared.operation.Op.TheVariants as op
use Rattle.client_memory.proofs.FramesOut.{rows_are}
use Rattle.client_ends.proofs.Moved.{asks_kept}
use Rattle.client_ends.proofs.closes.leave_now.Goals as goal

pub returns-clause-ok : goal.returns-clause-ok
returns-clause-ok c =
    let old = c.args.machine.now in
    let bs = buffers_of old.code.instrs.items c.args.but in
    asks_kept (task.End (end_task.LeavesNow c.args.but)) (op.Leave c.in_ok-keep.keep) on_answer.WasLeft old c.ask.new.self c.ask.ensures.moved c.ask.ensures.mode (λ o. (tt, o)) c.ask.ensures.asks
    (λ p rest f. ap (λ rows. flat.ask (op.Leave rows) flat.WasLeft (stack_in old) (state_in rest old)) (c.in_ok-keep.ensures ∙ sym (rows_are (record rest { level = length old.memory.copies; units = old.units }) old.procedures.items old.memory bs f.even)))
