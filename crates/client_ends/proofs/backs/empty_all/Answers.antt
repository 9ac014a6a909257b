use Rattle.std.proofs.Common.{◌≡◌, [], refl, ap, ◌∙◌}
use Rattle.flat_machine.specs.Flat as flat
use Rattle.client_machine.specs.declared.mode.Completion.TheVariants as completion
use Rattle.client_machine.specs.declared.mode.Mode.TheVariants as mode
use Rattle.client_machine.specs.declared.mode.Task.TheVariants as task
use Rattle.client_machine.specs.declared.mode.ends.EndTask.TheVariants as end_task
use Rattle.client_machine.specs.Config.{buffers_of}
use Rattle.client_machine.specs.Machine.{stack_in}
use Rattle.block_meaning.specs.State.{State, Normal}
use Rattle.client_memory.specs.Memory.{Remembered}
use Rattle.client_machine.specs.declared.machine.Machine.{Machine}
use Rattle.client_ends.specs.Emptied.{all_emptied}
use Rattle.client_ends.proofs.Buffers.{all_emptied_here, shape_emptied}
use Rattle.client_ends.proofs.Moved.{buffers_moved}
use Rattle.client_ends.proofs.backs.empty_all.Goals as goal

pub returns-clause-ok : goal.returns-clause-ok
returns-clause-ok c =
    let old = c.args.machine.now in
    let bs = buffers_of old.code.instrs.items c.args.but in
    let mem = all_emptied bs old.memory in
    let same : c.empty_buffers.new.memory ≡ mem = c.empty_buffers.ensures ∙ ap (λ xs. all_emptied xs old.memory) c.buffers_in.ensures in
    buffers_moved (task.End (end_task.Empties c.args.but)) old c.set_mode.new.self (mode.Unwind completion.Normal) old.stack mem []
    (c.set_mode.ensures ∙ ap (λ (m : Remembered). let x : Machine = record old { mode = mode.Unwind completion.Normal; memory = m } in x) same) (shape_emptied bs old.memory) refl (λ o. o)
    (λ p rest f. ap (λ (t : State). flat.config (flat.Unwind Normal) (stack_in old) t) (all_emptied_here bs rest old.procedures.items old.memory old.units f.even))
