use Rattle.std.proofs.Common.{◌≡◌, take}
use Rattle.std.specs.List.{flat_map}
use Rattle.schema_reader.specs.Meaning.{order_said}
use Rattle.schema_reader.proofs.meaning.order_in.Given as goal

abbrev pub invariant-loop-item : goal.invariant-loop-item
invariant-loop-item l = l.order ≡ flat_map (λ i. order_said i.head) (take l.item-index l.items)
