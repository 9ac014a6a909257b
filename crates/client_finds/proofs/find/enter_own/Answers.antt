use Rattle.std.proofs.Common.{refl, sym, ap, ◌∙◌}
use Rattle.block_meaning.specs.Buffers.{own}
use Rattle.flat_machine.specs.Flat as flat
use Rattle.client_machine.specs.declared.mode.Mode.TheVariants as mode
use Rattle.client_machine.specs.declared.mode.Task.TheVariants as task
use Rattle.client_machine.specs.declared.mode.ends.EndTask.TheVariants as end_task
use Rattle.client_machine.specs.Machine.{stack_in, state_in}
use Rattle.client_memory.specs.Buffers.{denoted_place}
use Rattle.client_memory.specs.declared.buffer.Place.{Place}
use Rattle.client_finds.proofs.Kept.{mode_kept}
use Rattle.client_finds.proofs.find.enter_own.Goals as goal

pub returns : goal.returns
returns c =
    let old = c.args.machine.now in
    mode_kept (λ p s. flat.config (flat.Execute (flat.EntersOne (own c.args.buffer))) (stack_in old) s) old c.set_mode.new.self (mode.Execute (task.End (end_task.EntersOne c.own.result))) c.set_mode.ensures (λ o. (tt, o))
    (λ p rest f. ap (λ (x : Place). flat.config (flat.Execute (flat.EntersOne (denoted_place x))) (stack_in old) (state_in rest old)) (sym c.own.ensures))
