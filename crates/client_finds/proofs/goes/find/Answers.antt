use Rattle.std.proofs.Common.{Some, refl}
use Rattle.block_meaning.specs.State as state
use Rattle.flat_machine.specs.Flat as flat
use Rattle.client_machine.specs.declared.mode.Completion.TheVariants as completion
use Rattle.client_machine.specs.declared.mode.Mode.TheVariants as mode
use Rattle.client_machine.specs.Config.{complaint_in}
use Rattle.client_machine.specs.Machine.{stack_in}
use Rattle.client_finds.proofs.Kept.{mode_kept}
use Rattle.client_finds.proofs.goes.find.Goals as goal

pub returns : goal.returns
returns c = mode_kept (λ p s. flat.config (flat.Unwind (state.Found c.args.cursor)) (stack_in c.args.machine.now) s) c.args.machine.now c.set_mode.new.self (mode.Unwind (completion.Found c.args.cursor)) c.set_mode.ensures (λ o. (tt, o)) (λ p rest f. refl)
