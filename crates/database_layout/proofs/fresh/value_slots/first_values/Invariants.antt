use Rattle.std.proofs.Common.{◌≡◌, map, take}
use Rattle.database_layout.proofs.fresh.value_slots.first_values.Given as goal

abbrev pub invariant-loop-sequence : goal.invariant-loop-sequence
invariant-loop-sequence l = l.values.items ≡ map (λ sequence. sequence.initial) (take l.sequence-index l.sequence-items)
