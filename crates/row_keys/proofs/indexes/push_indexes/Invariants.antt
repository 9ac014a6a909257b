use Rattle.std.proofs.Common.{◌≡◌, ◌+◌, length}
use Rattle.row_keys.specs.Blank.{AreBlank}
use Rattle.row_keys.proofs.indexes.push_indexes.Given as goal

abbrev pub invariant-loop : goal.invariant-loop
invariant-loop l = record { blank : AreBlank l.indexes.items; count : length l.indexes.items ≡ length l.fn.indexes.items + l.counter }
