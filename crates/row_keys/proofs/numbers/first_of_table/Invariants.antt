use Rattle.std.proofs.Common.{◌≡◌, take}
use Rattle.row_keys.specs.Numbers.{count_in}
use Rattle.row_keys.proofs.numbers.first_of_table.Given as goal

abbrev pub invariant-loop-earlier : goal.invariant-loop-earlier
invariant-loop-earlier l = l.first ≡ count_in (take l.earlier l.schema.tables)
