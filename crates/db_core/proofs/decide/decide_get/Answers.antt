use Rattle.db_core.proofs.GetRows.{get_gone, get_found, none_of, some_of}
use Rattle.db_core.proofs.Crashes.{asked}
use Rattle.db_core.proofs.decide.decide_get.Goals as goal

pub returns-in-None-clause-answer : goal.returns-in-None-clause-answer
returns-in-None-clause-answer g c = λ f s d represents seen.
    get_gone f (g.R.RowStore.state c.args.rows.now) c.args.control.now s d c.args.table c.args.row represents c.requires.sound (g.met.R.RowStore.consistent c.args.rows.now) seen
    (none_of c.in_ok-get.field-0 _ _ c.in-None.is (c.in_ok-get.ensures.found seen))

pub returns-in-Some-clause-answer : goal.returns-in-Some-clause-answer
returns-in-Some-clause-answer g c = λ f s d represents seen.
    get_found f (g.R.RowStore.state c.args.rows.now) c.args.control.now s d c.args.table c.args.row represents c.requires.sound (g.met.R.RowStore.consistent c.args.rows.now) seen c.in-Some.values
    (some_of c.in_ok-get.field-0 c.in-Some.values _ _ c.in-Some.is (c.in_ok-get.ensures.found seen))

pub returns-in_err-get-clause-durable : goal.returns-in_err-get-clause-durable
returns-in_err-get-clause-durable g c = asked (g.R.RowStore.state c.args.rows.now) (g.R.RowStore.state c.get.new.self) (g.R.RowStore.left c.args.rows.now) (g.R.RowStore.left c.get.new.self) (g.R.RowStore.times c.args.rows.now) (g.R.RowStore.times c.get.new.self) (g.met.R.RowStore.left_known c.get.new.self) (g.met.R.RowStore.since_past c.args.rows.now) c.get.result c.get.ensures.time c.get.ensures.same c.get.ensures.err

pub returns-in-None-clause-durable : goal.returns-in-None-clause-durable
returns-in-None-clause-durable g c = asked (g.R.RowStore.state c.args.rows.now) (g.R.RowStore.state c.get.new.self) (g.R.RowStore.left c.args.rows.now) (g.R.RowStore.left c.get.new.self) (g.R.RowStore.times c.args.rows.now) (g.R.RowStore.times c.get.new.self) (g.met.R.RowStore.left_known c.get.new.self) (g.met.R.RowStore.since_past c.args.rows.now) c.get.result c.get.ensures.time c.get.ensures.same c.get.ensures.err

pub returns-in-Some-clause-durable : goal.returns-in-Some-clause-durable
returns-in-Some-clause-durable g c = asked (g.R.RowStore.state c.args.rows.now) (g.R.RowStore.state c.get.new.self) (g.R.RowStore.left c.args.rows.now) (g.R.RowStore.left c.get.new.self) (g.R.RowStore.times c.args.rows.now) (g.R.RowStore.times c.get.new.self) (g.met.R.RowStore.left_known c.get.new.self) (g.met.R.RowStore.since_past c.args.rows.now) c.get.result c.get.ensures.time c.get.ensures.same c.get.ensures.err
