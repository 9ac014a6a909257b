use Rattle.std.proofs.Common.{◌≡◌, ℕ, ◌<◌}
use Rattle.std.specs.Prelude.{IsTrue}
use Rattle.database_meaning.specs.declared.state.Key.{Key}
use Rattle.row_indexes.specs.Places.{keepers_of}
use Rattle.row_keys.specs.Reserved.{reserved_at}
use Rattle.row_keys.proofs.reserved.has_reserved.Given as goal

abbrev pub invariant-loop-table : goal.invariant-loop-table
invariant-loop-table l = (t : ℕ) → t < l.table → ¬ ((k : Key) × (k.table ≡ t) × IsTrue (reserved_at l.schema (keepers_of l.indexes) l.client k))
