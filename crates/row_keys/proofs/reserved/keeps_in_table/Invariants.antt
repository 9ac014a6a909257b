use Rattle.std.proofs.Common.{ℕ, ◌+◌, ◌<◌}
use Rattle.key_index.specs.Index.{KeepsSome}
use Rattle.row_indexes.specs.Places.{index_at}
use Rattle.row_keys.specs.Numbers.{first_of_table}
use Rattle.row_keys.proofs.reserved.keeps_in_table.Given as goal

abbrev pub invariant-loop-index : goal.invariant-loop-index
invariant-loop-index l = (j : ℕ) → j < l.index → ¬ KeepsSome (index_at l.indexes (first_of_table l.schema l.table + j)) l.client
