use Rattle.std.proofs.Common.{◌≡◌, None, nat_eq, sym, ◌∙◌, ap}
use Rattle.std.specs.Option.{option_copied}
use Rattle.std.specs.HashMap.{get}
use Rattle.new_database.specs.declared.slots.slot.Slot.{Slot}
use Rattle.new_database.specs.slots.Sparse.{zeros}
use Rattle.new_database.proofs.SlotsLemmas.Places.{part_none}
use Rattle.new_database.proofs.slots.slot.bytes_of.Goals as goal

pub returns-in-None : goal.returns-in-None
unfolding zeros
returns-in-None c =
    let none : get nat_eq c.args.slots.now c.args.number ≡ None = sym c.get.ensures.value ∙ ap option_copied c.in-None.is in
    sym (part_none (λ (s : Slot). s.now) _ none)
