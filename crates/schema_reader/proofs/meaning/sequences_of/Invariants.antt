use Rattle.std.proofs.Common.{◌≡◌, take}
use Rattle.std.specs.List.{flat_map}
use Rattle.schema_reader.specs.Meaning.{sequence_said}
use Rattle.schema_reader.proofs.meaning.sequences_of.Given as goal

abbrev pub invariant-loop-item : goal.invariant-loop-item
invariant-loop-item l = l.sequences ≡ flat_map (λ i. sequence_said i.attributes i.head) (take l.item-index l.items)
