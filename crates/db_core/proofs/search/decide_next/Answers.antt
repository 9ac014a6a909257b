use Rattle.std.specs.Option.{option_copied}
use Rattle.db_core.proofs.SearchRows.{found_none, found_some, next_none, next_found}
use Rattle.db_core.proofs.Crashes.{asked}
use Rattle.db_core.proofs.search.decide_next.Goals as goal

pub returns-in-None-clause-answer : goal.returns-in-None-clause-answer
returns-in-None-clause-answer g c = λ f s d represents seen.
    next_none f (g.R.RowStore.state c.args.rows.now) c.args.control.now s d c.args.table c.args.index c.args.prefix.now (option_copied c.args.cursor) c.args.forward represents c.requires.sound (g.met.R.RowStore.consistent c.args.rows.now) seen
    (found_none c.in_ok-next.field-0 _ _ c.in-None.is (c.in_ok-next.ensures.found seen))

pub returns-in-Some-clause-answer : goal.returns-in-Some-clause-answer
returns-in-Some-clause-answer g c = λ f s d represents seen.
    next_found f (g.R.RowStore.state c.args.rows.now) c.args.control.now s d c.args.table c.args.index c.args.prefix.now (option_copied c.args.cursor) c.args.forward represents c.requires.sound (g.met.R.RowStore.consistent c.args.rows.now) seen
    c.in-Some.found.row c.in-Some.found.key c.in-Some.found.values (found_some c.in_ok-next.field-0 c.in-Some.found _ _ c.in-Some.is (c.in_ok-next.ensures.found seen))

pub returns-in_err-next-clause-durable : goal.returns-in_err-next-clause-durable
returns-in_err-next-clause-durable g c = asked (g.R.RowStore.state c.args.rows.now) (g.R.RowStore.state c.next.new.self) (g.R.RowStore.left c.args.rows.now) (g.R.RowStore.left c.next.new.self) (g.R.RowStore.times c.args.rows.now) (g.R.RowStore.times c.next.new.self) (g.met.R.RowStore.left_known c.next.new.self) (g.met.R.RowStore.since_past c.args.rows.now) c.next.result c.next.ensures.time c.next.ensures.same c.next.ensures.err

pub returns-in-None-clause-durable : goal.returns-in-None-clause-durable
returns-in-None-clause-durable g c = asked (g.R.RowStore.state c.args.rows.now) (g.R.RowStore.state c.next.new.self) (g.R.RowStore.left c.args.rows.now) (g.R.RowStore.left c.next.new.self) (g.R.RowStore.times c.args.rows.now) (g.R.RowStore.times c.next.new.self) (g.met.R.RowStore.left_known c.next.new.self) (g.met.R.RowStore.since_past c.args.rows.now) c.next.result c.next.ensures.time c.next.ensures.same c.next.ensures.err

pub returns-in-Some-clause-durable : goal.returns-in-Some-clause-durable
returns-in-Some-clause-durable g c = asked (g.R.RowStore.state c.args.rows.now) (g.R.RowStore.state c.next.new.self) (g.R.RowStore.left c.args.rows.now) (g.R.RowStore.left c.next.new.self) (g.R.RowStore.times c.args.rows.now) (g.R.RowStore.times c.next.new.self) (g.met.R.RowStore.left_known c.next.new.self) (g.met.R.RowStore.since_past c.args.rows.now) c.next.result c.next.ensures.time c.next.ensures.same c.next.ensures.err
