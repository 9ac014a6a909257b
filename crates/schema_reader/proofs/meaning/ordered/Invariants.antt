use Rattle.std.proofs.Common.{◌≡◌, map, vec_len}
use Rattle.schema_reader.specs.InOrder.{as_ordered}
use Rattle.schema_reader.specs.Meaning.{by_order}
use Rattle.schema_reader.proofs.Placing.{all_placed}
use Rattle.schema_reader.proofs.meaning.ordered.Given as goal

abbrev pub invariant-loop-field : goal.invariant-loop-field
invariant-loop-field l = all_placed (map as_ordered l.rest.items) (map as_ordered l.fields.items) ≡ by_order (map as_ordered l.fn.text.items)

abbrev pub decreases-loop-field : goal.decreases-loop-field
decreases-loop-field l = vec_len l.rest
