use Rattle.std.proofs.Common.{ℕ, ◌<◌, ◌↔◌, Some}
use Rattle.std.specs.Option.{option_copied}
use Rattle.database_meaning.specs.Waiting.{IsAscending}
use Rattle.key_index.specs.Left.{Lists}
use Rattle.row_indexes.specs.Places.{index_at}
use Rattle.row_keys.specs.Numbers.{number_of}
use Rattle.row_keys.specs.Questions.{IsKeptAgainst}
use Rattle.row_keys.proofs.Others.{def_of}
use Rattle.row_keys.proofs.reserved.reserved_by.Given as goal

abbrev pub invariant-loop-index : goal.invariant-loop-index
invariant-loop-index l = record {
  up : IsAscending l.holders.items;
  all : (d : ℕ) → Lists l.holders.items d ↔ ((j : ℕ) × (j < l.index) × IsKeptAgainst (index_at l.indexes (number_of l.schema l.table (Some j))) (def_of l.schema l.table j) l.client (option_copied l.old) l.values d);
}
