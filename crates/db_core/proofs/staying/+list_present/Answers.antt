use Rattle.std.proofs.Common.{◌++◌, ◌∷◌, [], List, sym, subst}
use Rattle.abl_base.specs.declared.row.RowId.{RowId}
use Rattle.db_core.specs.Moves.{ListsPresent}
use Rattle.db_core.proofs.StayingRows.{present_more, present_skip, seen_none, seen_some}
use Rattle.db_core.proofs.Crashes.{asked}
use Rattle.db_core.proofs.staying.+list_present.Goals as goal

pub returns-in-None-2-clause-found : goal.returns-in-None-2-clause-found
returns-in-None-2-clause-found g t c = λ seen.
    let rows = g.R.RowStore.state c.args.rows.now in
    let none = seen_none rows (g.R.RowStore.state c.list_present.new.rows) c.in-Some.last.now.0 c.in_ok-table-in-Some.field-0 c.in_ok-list-in-Some.ensures.same c.in_ok-table-in-Some.ensures.found c.in-None-2.is seen in
    subst (λ (xs : List RowId). ListsPresent rows.rows xs c.in_ok-list-in-Some.list.items) (sym c.in-Some.ensures.cases.0)
    (present_skip rows.rows c.in-Some.earlier.now c.in_ok-list-in-Some.list.items c.in-Some.last.now none (c.in_ok-list-in-Some.ensures.found seen))

pub returns-in-Ok-clause-found : goal.returns-in-Ok-clause-found
returns-in-Ok-clause-found g t c = λ seen.
    let rows = g.R.RowStore.state c.args.rows.now in
    let there = seen_some rows (g.R.RowStore.state c.list_present.new.rows) c.in-Some.last.now.0 c.in_ok-table-in-Some.field-0 c.in-Some-2.field-0 c.in_ok-list-in-Some.ensures.same c.in_ok-table-in-Some.ensures.found c.in-Some-2.is seen in
    subst (λ (ys : List RowId). ListsPresent rows.rows c.args.keep.now ys) (sym c.in-Ok.ensures.items)
    (subst (λ (xs : List RowId). ListsPresent rows.rows xs (c.in_ok-list-in-Some.list.items ++ c.in-Some.last.now ∷ [])) (sym c.in-Some.ensures.cases.0)
    (present_more rows.rows c.in-Some.earlier.now c.in_ok-list-in-Some.list.items c.in-Some.last.now there (c.in_ok-list-in-Some.ensures.found seen)))

pub returns-in_err-table-in-Some-clause-durable : goal.returns-in_err-table-in-Some-clause-durable
returns-in_err-table-in-Some-clause-durable g t c = λ f contents trace h. asked (g.R.RowStore.state c.list_present.new.rows) (g.R.RowStore.state c.table.new.self) (g.R.RowStore.left c.list_present.new.rows) (g.R.RowStore.left c.table.new.self) (g.R.RowStore.times c.list_present.new.rows) (g.R.RowStore.times c.table.new.self) (g.met.R.RowStore.left_known c.table.new.self) (g.met.R.RowStore.since_past c.list_present.new.rows) c.table.result c.table.ensures.time c.table.ensures.same c.table.ensures.err f contents trace (c.list_present.ensures.durable f contents trace h)

pub returns-in-None-2-clause-durable : goal.returns-in-None-2-clause-durable
returns-in-None-2-clause-durable g t c = λ f contents trace h. asked (g.R.RowStore.state c.list_present.new.rows) (g.R.RowStore.state c.table.new.self) (g.R.RowStore.left c.list_present.new.rows) (g.R.RowStore.left c.table.new.self) (g.R.RowStore.times c.list_present.new.rows) (g.R.RowStore.times c.table.new.self) (g.met.R.RowStore.left_known c.table.new.self) (g.met.R.RowStore.since_past c.list_present.new.rows) c.table.result c.table.ensures.time c.table.ensures.same c.table.ensures.err f contents trace (c.list_present.ensures.durable f contents trace h)

pub returns-in-Ok-clause-durable : goal.returns-in-Ok-clause-durable
returns-in-Ok-clause-durable g t c = λ f contents trace h. asked (g.R.RowStore.state c.list_present.new.rows) (g.R.RowStore.state c.table.new.self) (g.R.RowStore.left c.list_present.new.rows) (g.R.RowStore.left c.table.new.self) (g.R.RowStore.times c.list_present.new.rows) (g.R.RowStore.times c.table.new.self) (g.met.R.RowStore.left_known c.table.new.self) (g.met.R.RowStore.since_past c.list_present.new.rows) c.table.result c.table.ensures.time c.table.ensures.same c.table.ensures.err f contents trace (c.list_present.ensures.durable f contents trace h)

pub returns-in-Err-clause-durable : goal.returns-in-Err-clause-durable
returns-in-Err-clause-durable g t c = λ f contents trace h. asked (g.R.RowStore.state c.list_present.new.rows) (g.R.RowStore.state c.table.new.self) (g.R.RowStore.left c.list_present.new.rows) (g.R.RowStore.left c.table.new.self) (g.R.RowStore.times c.list_present.new.rows) (g.R.RowStore.times c.table.new.self) (g.met.R.RowStore.left_known c.table.new.self) (g.met.R.RowStore.since_past c.list_present.new.rows) c.table.result c.table.ensures.time c.table.ensures.same c.table.ensures.err f contents trace (c.list_present.ensures.durable f contents trace h)
