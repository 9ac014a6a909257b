use Rattle.std.proofs.Common.{◌≡◌, map, take}
use Rattle.abl_values.specs.declared.schema.SequenceDef.{SequenceDef}
use Rattle.new_database.proofs.database.initial_values.Given as goal

abbrev pub invariant-loop-sequence : goal.invariant-loop-sequence
invariant-loop-sequence l = l.values.items ≡ map (λ (s : SequenceDef). s.initial) (take l.sequence-index l.sequences)
