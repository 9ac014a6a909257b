use Rattle.free_slots.proofs.free.FreeSlots.+take.Given as goal

abbrev pub decreases-take : goal.decreases-take
decreases-take l = l.many
