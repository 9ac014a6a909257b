use Rattle.std.proofs.Common.{Some}
use Rattle.client_memory.specs.Buffers.{denoted_place}
use Rattle.client_machine.specs.declared.mode.Completion.TheVariants as completion
use Rattle.client_machine.specs.declared.mode.Mode.TheVariants as mode
use Rattle.client_machine.specs.declared.mode.OnAnswer.TheVariants as on_answer
use Rattle.client_machine.specs.declared.mode.Task.TheVariants as task
use Rattle.client_machine.specs.declared.mode.ends.EndAnswer.TheVariants as end_answer
use Rattle.client_machine.specs.declared.mode.ends.EndTask.TheVariants as end_task
use Rattle.client_machine.specs.Machine.{stack_in}
use Rattle.database_protocol.specs.declared.operation.Op.TheVariants as op
use Rattle.client_machine.specs.declared.mode.LineFault.TheVariants as line_fault
use Rattle.client_ends.specs.declared.insertion.Insertion.TheVariants as insertion
use Rattle.client_ends.proofs.Entered.{enters_here}
use Rattle.client_ends.proofs.Moved.{mode_moved, asks_kept}
use Rattle.client_ends.proofs.enters.enter_one.Goals as goal

pub returns-in-Nothing-clause-ok : goal.returns-in-Nothing-clause-ok
returns-in-Nothing-clause-ok c =
    let old = c.args.machine.now in
    mode_moved (task.End (end_task.EntersOne c.args.place)) old c.set_mode.new.self (mode.Unwind completion.Normal) c.set_mode.ensures (λ o. o)
    (λ p rest f. enters_here _ insertion.Nothing p rest old.procedures.items old.memory old.units (denoted_place c.args.place) (stack_in old) f.even c.in-Nothing.is (c.in_ok-insertion_at.ensures p f.program.tables))

pub returns-in-Fails-clause-ok : goal.returns-in-Fails-clause-ok
returns-in-Fails-clause-ok c =
    let old = c.args.machine.now in
    let w = completion.Faults (Some (line_fault.Complaint c.in-Fails.complaint)) in
    mode_moved (task.End (end_task.EntersOne c.args.place)) old c.set_mode-in-Fails.new.self (mode.Unwind w) c.set_mode-in-Fails.ensures (λ o. o)
    (λ p rest f. enters_here _ (insertion.Fails c.in-Fails.complaint) p rest old.procedures.items old.memory old.units (denoted_place c.args.place) (stack_in old) f.even c.in-Fails.is (c.in_ok-insertion_at.ensures p f.program.tables))

pub returns-in-Inserts-clause-ok : goal.returns-in-Inserts-clause-ok
returns-in-Inserts-clause-ok c =
    let old = c.args.machine.now in
    let x = c.in-Inserts in
    asks_kept (task.End (end_task.EntersOne c.args.place)) (op.Insert x.table x.values) (on_answer.End (end_answer.WasInserted c.args.place x.made)) old c.ask.new.self c.ask.ensures.moved c.ask.ensures.mode (λ o. (tt, o.1)) c.ask.ensures.asks
    (λ p rest f. enters_here _ (insertion.Inserts x.table x.values x.made) p rest old.procedures.items old.memory old.units (denoted_place c.args.place) (stack_in old) f.even x.is (c.in_ok-insertion_at.ensures p f.program.tables))
