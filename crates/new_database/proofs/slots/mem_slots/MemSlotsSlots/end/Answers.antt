use Rattle.new_database.specs.slots.Sparse.{zeros}
use Rattle.new_database.specs.declared.slots.slot.Slot.{Slot}
use Rattle.new_database.proofs.SlotsLemmas.Places.{is_none, part_none}
use Rattle.new_database.proofs.slots.mem_slots.MemSlotsSlots.end.Goals as goal

pub returns-clause-blank : goal.returns-clause-blank
unfolding zeros
returns-clause-blank c = λ readable k le lt. part_none (λ (s : Slot). s.now) _ (is_none _ (c.args.self.now.blank k le))
