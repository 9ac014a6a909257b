use Rattle.std.proofs.Common.{ℕ, ◌<◌, Some}
use Rattle.abl_base.specs.declared.row.RowId.{RowId}
use Rattle.row_indexes.specs.Places.{index_at}
use Rattle.row_keys.specs.Numbers.{number_of}
use Rattle.row_keys.specs.Questions.{HasOther}
use Rattle.row_keys.proofs.Others.{def_of}
use Rattle.row_keys.proofs.duplicates.duplicate.Given as goal

abbrev pub invariant-loop-index : goal.invariant-loop-index
invariant-loop-index l = (j : ℕ) (q : RowId) → j < l.index → ¬ HasOther (index_at l.indexes (number_of l.schema l.table (Some j))) (def_of l.schema l.table j) l.row l.values q
