use Rattle.std.proofs.Common.{refl}
use Rattle.flat_machine.specs.Flat as flat
use Rattle.block_meaning.specs.Program.{Program}
use Rattle.block_meaning.specs.State.{State}
use Rattle.database_protocol.specs.declared.operation.Op.TheVariants as op
use Rattle.client_machine.specs.Machine.{stack_in}
use Rattle.client_machine.specs.declared.mode.changes.ChangeAnswer.TheVariants as change_answer
use Rattle.client_machine.specs.declared.mode.changes.ChangeTask.TheVariants as change_task
use Rattle.client_records.proofs.Kept.{ask_kept, task_step_from}
use Rattle.client_records.proofs.deletes.deletes_row.Goals as goal

pub returns-clause-ok : goal.returns-clause-ok
returns-clause-ok c =
    let old = c.args.machine.now in
    let b = c.args.buffer in
    let o = op.Delete c.args.table c.args.row in
    let from = λ (p : Program) (s : State). flat.ask o (flat.WasDeleted b) (stack_in old) s in
    task_step_from (change_task.DeletesRow b c.args.table c.args.row) from old c.ask.new.self (λ p s. refl)
    (ask_kept from old c.ask.new.self o (change_answer.WasDeleted b) c.ask.ensures.moved c.ask.ensures.mode c.ask.ensures.asks (λ p rest f. tt) (λ p rest f. refl))
