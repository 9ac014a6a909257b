use Rattle.std.proofs.Common.{None, sym, ap, ◌∙◌}
use Rattle.block_meaning.specs.State as state
use Rattle.block_meaning.specs.State.{State}
use Rattle.block_meaning.specs.Frames.{with_spot}
use Rattle.flat_machine.specs.Flat as flat
use Rattle.client_machine.specs.Config.{reading_at}
use Rattle.client_machine.specs.Machine.{stack_in}
use Rattle.client_finds.specs.Stays.{state_under}
use Rattle.client_finds.proofs.Kept.{memory_goes}
use Rattle.client_finds.proofs.search.find_no_further.Goals as goal

pub returns-clause-ok : goal.returns-clause-ok
returns-clause-ok c =
    let old = c.args.machine.now in
    let none : State → flat.Config = λ s. flat.config (flat.Unwind state.NotFound) (stack_in old) s in
    memory_goes (λ p s. none (with_spot (reading_at old.code.instrs.items c.args.place).buffer None s)) (λ is p ks s. flat.config (flat.Unwind state.NotFound) ks s) old c.clear_place.new.machine c.find_none.new.machine c.clear_place.ensures.moved c.clear_place.ensures.stays
    (λ p rest reads. ap (λ b. none (with_spot b None (state_under rest old))) (sym c.in-Some.ensures) ∙ ap none (sym (c.clear_place.ensures.goes p rest reads))) c.find_none.ensures
