use Rattle.std.proofs.Common.{◌≡◌, length, take}
use Rattle.row_keys.specs.Numbers.{count_in}
use Rattle.row_keys.specs.Blank.{AreBlank}
use Rattle.row_keys.proofs.indexes.new_indexes.Given as goal

abbrev pub invariant-loop-table : goal.invariant-loop-table
invariant-loop-table l = record { blank : AreBlank l.indexes.items; count : length l.indexes.items ≡ count_in (take l.table l.schema.tables) }
