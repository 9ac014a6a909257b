use Rattle.std.proofs.Common.{[], refl, ap, ◌∙◌}
use Rattle.flat_machine.specs.Flat as flat
use Rattle.client_memory.specs.Buffers.{denoted_place}
use Rattle.client_machine.specs.declared.mode.Completion.TheVariants as completion
use Rattle.client_machine.specs.declared.mode.Mode.TheVariants as mode
use Rattle.client_machine.specs.declared.mode.OnAnswer.TheVariants as on_answer
use Rattle.client_machine.specs.declared.mode.Task.TheVariants as task
use Rattle.client_machine.specs.declared.mode.ends.EndAnswer.TheVariants as end_answer
use Rattle.client_machine.specs.declared.mode.ends.EndTask.TheVariants as end_task
use Rattle.client_machine.specs.Machine.{stack_in}
use Rattle.database_protocol.specs.declared.operation.Op.TheVariants as op
use Rattle.block_meaning.specs.State.{State, Empty, Normal}
use Rattle.client_memory.specs.Memory.{Remembered, holding}
use Rattle.client_machine.specs.declared.machine.Machine.{Machine}
use Rattle.client_ends.specs.declared.refresh.Refresh.TheVariants as refresh
use Rattle.client_ends.proofs.Buffers.{holding_here, shape_held}
use Rattle.client_ends.proofs.Entered.{updates_here}
use Rattle.client_ends.proofs.Moved.{mode_moved, buffers_moved, asks_kept}
use Rattle.client_ends.proofs.backs.update_one.Goals as goal

pub returns-in-Stays-clause-ok : goal.returns-in-Stays-clause-ok
returns-in-Stays-clause-ok c =
    let old = c.args.machine.now in
    mode_moved (task.End (end_task.UpdatesOne c.args.made c.args.place)) old c.set_mode.new.self (mode.Unwind completion.Normal) c.set_mode.ensures (λ o. o)
    (λ p rest f. updates_here _ refresh.Stays c.args.made rest old.procedures.items old.memory old.units (denoted_place c.args.place) (stack_in old) f.even c.in-Stays.is c.refresh_at.ensures)

pub returns-in-Empties-clause-ok : goal.returns-in-Empties-clause-ok
returns-in-Empties-clause-ok c =
    let old = c.args.machine.now in
    let at = denoted_place c.args.place in
    let mem = holding at Empty old.memory in
    buffers_moved (task.End (end_task.UpdatesOne c.args.made c.args.place)) old c.set_mode-in-Empties.new.self (mode.Unwind completion.Normal) old.stack mem []
    (c.set_mode-in-Empties.ensures ∙ ap (λ (m : Remembered). let x : Machine = record old { mode = mode.Unwind completion.Normal; memory = m } in x) c.replace.ensures.new) (shape_held at Empty old.memory) refl (λ o. o)
    (λ p rest f.
    ap (λ (t : State). flat.config (flat.Unwind Normal) (stack_in old) t) (holding_here rest old.procedures.items old.memory old.units at Empty f.even)
    ∙ updates_here _ refresh.Empties c.args.made rest old.procedures.items old.memory old.units at (stack_in old) f.even c.in-Empties.is c.refresh_at.ensures)

pub returns-in-Reads-clause-ok : goal.returns-in-Reads-clause-ok
returns-in-Reads-clause-ok c =
    let old = c.args.machine.now in
    let x = c.in-Reads in
    asks_kept (task.End (end_task.UpdatesOne c.args.made c.args.place)) (op.Get x.table x.row) (on_answer.End (end_answer.WasGot c.args.place x.row x.held x.made)) old c.ask.new.self c.ask.ensures.moved c.ask.ensures.mode (λ o. (tt, o.1)) c.ask.ensures.asks
    (λ p rest f. updates_here _ (refresh.Reads x.table x.row x.held x.made) c.args.made rest old.procedures.items old.memory old.units (denoted_place c.args.place) (stack_in old) f.even x.is c.refresh_at.ensures)
