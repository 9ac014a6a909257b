use Rattle.db_core.proofs.Crashes.{asked}
use Rattle.db_core.proofs.decide_writes.is_row_of.Goals as goal

pub returns-in_err-table-clause-durable : goal.returns-in_err-table-clause-durable
returns-in_err-table-clause-durable g c = asked (g.R.RowStore.state c.args.rows.now) (g.R.RowStore.state c.table.new.self) (g.R.RowStore.left c.args.rows.now) (g.R.RowStore.left c.table.new.self) (g.R.RowStore.times c.args.rows.now) (g.R.RowStore.times c.table.new.self) (g.met.R.RowStore.left_known c.table.new.self) (g.met.R.RowStore.since_past c.args.rows.now) c.table.result c.table.ensures.time c.table.ensures.same c.table.ensures.err

pub returns-in-None-clause-durable : goal.returns-in-None-clause-durable
returns-in-None-clause-durable g c = asked (g.R.RowStore.state c.args.rows.now) (g.R.RowStore.state c.table.new.self) (g.R.RowStore.left c.args.rows.now) (g.R.RowStore.left c.table.new.self) (g.R.RowStore.times c.args.rows.now) (g.R.RowStore.times c.table.new.self) (g.met.R.RowStore.left_known c.table.new.self) (g.met.R.RowStore.since_past c.args.rows.now) c.table.result c.table.ensures.time c.table.ensures.same c.table.ensures.err

pub returns-in-Some-clause-durable : goal.returns-in-Some-clause-durable
returns-in-Some-clause-durable g c = asked (g.R.RowStore.state c.args.rows.now) (g.R.RowStore.state c.table.new.self) (g.R.RowStore.left c.args.rows.now) (g.R.RowStore.left c.table.new.self) (g.R.RowStore.times c.args.rows.now) (g.R.RowStore.times c.table.new.self) (g.met.R.RowStore.left_known c.table.new.self) (g.met.R.RowStore.since_past c.args.rows.now) c.table.result c.table.ensures.time c.table.ensures.same c.table.ensures.err
