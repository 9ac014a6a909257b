use Rattle.std.proofs.Common.{refl}
use Rattle.block_meaning.specs.State as state
use Rattle.flat_machine.specs.Flat as flat
use Rattle.database_protocol.specs.declared.ends.StopWhy.TheVariants as why
use Rattle.client_machine.specs.declared.mode.Completion.TheVariants as completion
use Rattle.client_machine.specs.declared.mode.Mode.TheVariants as mode
use Rattle.client_machine.specs.Machine.{stack_in}
use Rattle.client_finds.proofs.Kept.{mode_kept}
use Rattle.client_finds.proofs.goes.stop.Goals as goal

pub returns : goal.returns
returns c = mode_kept (λ p s. flat.config (flat.Unwind (state.Stops state.out_of_units)) (stack_in c.args.machine.now) s) c.args.machine.now c.set_mode.new.self (mode.Unwind (completion.Stops why.Budget)) c.set_mode.ensures (λ o. tt) (λ p rest f. refl)
