use Rattle.std.proofs.Common.{sym, ap, ◌∙◌}
use Rattle.block_meaning.specs.State as state
use Rattle.block_meaning.specs.State.{State}
use Rattle.block_meaning.specs.Reads.{shows}
use Rattle.flat_machine.specs.Flat as flat
use Rattle.client_machine.specs.Config.{reading_at}
use Rattle.client_machine.specs.Machine.{stack_in}
use Rattle.client_finds.specs.Stays.{state_under}
use Rattle.client_finds.proofs.Kept.{memory_goes}
use Rattle.client_finds.proofs.takes.show_first.Goals as goal

pub returns-clause-ok : goal.returns-clause-ok
returns-clause-ok c =
    let old = c.args.machine.now in
    let done : State → flat.Config = λ s. flat.config (flat.Unwind state.Normal) (stack_in old) s in
    memory_goes (λ p s. done (shows (reading_at old.code.instrs.items c.args.place).buffer c.args.cursor.now.row c.args.values s)) (λ is p ks s. flat.config (flat.Unwind state.Normal) ks s) old c.show.new.machine c.complete.new.machine c.show.ensures.moved c.show.ensures.stays
    (λ p rest reads. ap (λ b. done (shows b c.args.cursor.now.row c.args.values (state_under rest old))) (sym c.in-Some.ensures) ∙ ap done (sym (c.show.ensures.goes p rest reads))) c.complete.ensures
