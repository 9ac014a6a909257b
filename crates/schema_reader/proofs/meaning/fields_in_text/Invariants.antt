use Rattle.std.proofs.Common.{◌≡◌, map, take}
use Rattle.schema_reader.specs.InOrder.{as_ordered}
use Rattle.schema_reader.specs.Meaning.{fields_in_text}
use Rattle.schema_reader.proofs.meaning.fields_in_text.Given as goal

abbrev pub invariant-loop-item : goal.invariant-loop-item
invariant-loop-item l = map as_ordered l.fields.items ≡ fields_in_text (take l.item-index l.items) l.table
