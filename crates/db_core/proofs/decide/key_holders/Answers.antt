use Rattle.std.proofs.Common.{sym, subst}
use Rattle.database_protocol.specs.declared.operation.Op.{Op}
use Rattle.database_meaning.specs.Waiting.{ListsAll}
use Rattle.db_core.specs.Waits.{MeetsReserved}
use Rattle.db_core.proofs.Crashes.{asked}
use Rattle.db_core.proofs.decide.key_holders.Goals as goal

pub returns-in_ok-reserved_by-in-Insert-clause-found : goal.returns-in_ok-reserved_by-in-Insert-clause-found
returns-in_ok-reserved_by-in-Insert-clause-found g c = λ seen.
    subst (λ (o : Op). ListsAll c.in_ok-reserved_by-in-Insert.field-0 (MeetsReserved (g.R.RowStore.state c.args.rows.now) c.args.client o)) (sym c.in-Insert.is) (c.in_ok-reserved_by-in-Insert.ensures.found seen)

pub returns-in_ok-reserved_by-in-Put-clause-found : goal.returns-in_ok-reserved_by-in-Put-clause-found
returns-in_ok-reserved_by-in-Put-clause-found g c = λ seen.
    subst (λ (o : Op). ListsAll c.in_ok-reserved_by-in-Put.field-0 (MeetsReserved (g.R.RowStore.state c.args.rows.now) c.args.client o)) (sym c.in-Put.is) (c.in_ok-reserved_by-in-Put.ensures.found seen)

pub returns-in_err-reserved_by-in-Insert-clause-durable : goal.returns-in_err-reserved_by-in-Insert-clause-durable
returns-in_err-reserved_by-in-Insert-clause-durable g c = asked (g.R.RowStore.state c.args.rows.now) (g.R.RowStore.state c.reserved_by.new.self) (g.R.RowStore.left c.args.rows.now) (g.R.RowStore.left c.reserved_by.new.self) (g.R.RowStore.times c.args.rows.now) (g.R.RowStore.times c.reserved_by.new.self) (g.met.R.RowStore.left_known c.reserved_by.new.self) (g.met.R.RowStore.since_past c.args.rows.now) c.reserved_by.result c.reserved_by.ensures.time c.reserved_by.ensures.same c.reserved_by.ensures.err

pub returns-in_ok-reserved_by-in-Insert-clause-durable : goal.returns-in_ok-reserved_by-in-Insert-clause-durable
returns-in_ok-reserved_by-in-Insert-clause-durable g c = asked (g.R.RowStore.state c.args.rows.now) (g.R.RowStore.state c.reserved_by.new.self) (g.R.RowStore.left c.args.rows.now) (g.R.RowStore.left c.reserved_by.new.self) (g.R.RowStore.times c.args.rows.now) (g.R.RowStore.times c.reserved_by.new.self) (g.met.R.RowStore.left_known c.reserved_by.new.self) (g.met.R.RowStore.since_past c.args.rows.now) c.reserved_by.result c.reserved_by.ensures.time c.reserved_by.ensures.same c.reserved_by.ensures.err

pub returns-in_err-reserved_by-in-Put-clause-durable : goal.returns-in_err-reserved_by-in-Put-clause-durable
returns-in_err-reserved_by-in-Put-clause-durable g c = asked (g.R.RowStore.state c.args.rows.now) (g.R.RowStore.state c.reserved_by-in-Put.new.self) (g.R.RowStore.left c.args.rows.now) (g.R.RowStore.left c.reserved_by-in-Put.new.self) (g.R.RowStore.times c.args.rows.now) (g.R.RowStore.times c.reserved_by-in-Put.new.self) (g.met.R.RowStore.left_known c.reserved_by-in-Put.new.self) (g.met.R.RowStore.since_past c.args.rows.now) c.reserved_by-in-Put.result c.reserved_by-in-Put.ensures.time c.reserved_by-in-Put.ensures.same c.reserved_by-in-Put.ensures.err

pub returns-in_ok-reserved_by-in-Put-clause-durable : goal.returns-in_ok-reserved_by-in-Put-clause-durable
returns-in_ok-reserved_by-in-Put-clause-durable g c = asked (g.R.RowStore.state c.args.rows.now) (g.R.RowStore.state c.reserved_by-in-Put.new.self) (g.R.RowStore.left c.args.rows.now) (g.R.RowStore.left c.reserved_by-in-Put.new.self) (g.R.RowStore.times c.args.rows.now) (g.R.RowStore.times c.reserved_by-in-Put.new.self) (g.met.R.RowStore.left_known c.reserved_by-in-Put.new.self) (g.met.R.RowStore.since_past c.args.rows.now) c.reserved_by-in-Put.result c.reserved_by-in-Put.ensures.time c.reserved_by-in-Put.ensures.same c.reserved_by-in-Put.ensures.err
