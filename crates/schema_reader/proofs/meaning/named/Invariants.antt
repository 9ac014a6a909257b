use Rattle.std.proofs.Common.{◌≡◌, ◌++◌, map, vec_len}
use Rattle.std.specs.Prelude.{reverse}
use Rattle.schema_reader.specs.InOrder.{field_of}
use Rattle.schema_reader.proofs.meaning.named.Given as goal

abbrev pub invariant-loop-next : goal.invariant-loop-next
invariant-loop-next l = l.list ++ map field_of (reverse l.rest.items) ≡ map field_of l.fn.fields.items

abbrev pub decreases-loop-next : goal.decreases-loop-next
decreases-loop-next l = vec_len l.rest
