-- The rows up to the cursor are written, and the rows are as at the start.
use Rattle.std.proofs.Common.{false}
use Rattle.disk_database.specs.table.Calls.{HasRead}
use Rattle.disk_database.proofs.TableLemmas.Walks.{Walks}
use Rattle.disk_database.proofs.table.writing.write_table.Given as goal

pub record Writing (reads : Type 0) (walks : Type 0) : Type 0 where
  pub read : reads
  pub walked : walks

abbrev pub invariant-loop : goal.invariant-loop
invariant-loop g l =
    Writing
    (HasRead (g.R.RowStore.state l.fn.rows) (g.R.RowStore.state l.rows) (g.R.RowStore.left l.fn.rows) (g.R.RowStore.left l.rows) (g.R.RowStore.times l.fn.rows) (g.R.RowStore.times l.rows) (g.R.RowStore.faults l.fn.rows) (g.R.RowStore.faults l.rows) false)
    (Walks (g.R.RowStore.state l.fn.rows) l.table l.index l.cursor (g.O.Out.state l.fn.out) (g.O.Out.state l.out))
