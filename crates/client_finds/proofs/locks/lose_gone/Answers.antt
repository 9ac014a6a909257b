use Rattle.std.proofs.Common.{None}
use Rattle.block_meaning.specs.State as state
use Rattle.block_meaning.specs.Views.{IsGone}
use Rattle.flat_machine.specs.Flat as flat
use Rattle.client_machine.specs.Config.{reading_at}
use Rattle.client_machine.specs.Machine.{stack_in}
use Rattle.client_finds.proofs.Kept.{memory_goes}
use Rattle.client_finds.proofs.locks.lose_gone.Goals as goal

pub returns-clause-ok : goal.returns-clause-ok
returns-clause-ok c =
    let old = c.args.machine.now in
    let r = reading_at old.code.instrs.items c.args.place in
    memory_goes (λ p s. flat.grant_answered IsGone r c.args.retry c.args.row (stack_in old) s) (λ is p ks s. flat.config (flat.Unwind state.Lost) ks s) old c.settle.new.machine c.lose.new.machine c.settle.ensures.moved c.settle.ensures.stays
    (λ p rest reads. (c.in_ok-settle.ensures.goes p rest reads c.args.retry c.args.row None (stack_in old)).0) c.lose.ensures
