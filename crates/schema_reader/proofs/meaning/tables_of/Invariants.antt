use Rattle.std.proofs.Common.{◌≡◌, take}
use Rattle.std.specs.List.{flat_map}
use Rattle.schema_reader.specs.Meaning.{table_said}
use Rattle.schema_reader.proofs.meaning.tables_of.Given as goal

abbrev pub invariant-loop-item : goal.invariant-loop-item
invariant-loop-item l = l.tables ≡ flat_map (λ i. table_said l.items i.head) (take l.item-index l.items)
