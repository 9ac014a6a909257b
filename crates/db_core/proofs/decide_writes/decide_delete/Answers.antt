use Rattle.std.proofs.Common.{◌∙◌, Option, sym, subst, refl, inl}
use Rattle.database_protocol.specs.declared.operation.Op.TheVariants.{Delete}
use Rattle.database_protocol.specs.declared.answer.Answer.{Answer}
use Rattle.database_protocol.specs.declared.answer.Answer.TheVariants.{Done}
use Rattle.db_core.specs.Writes.{AnswersRoom}
use Rattle.db_core.proofs.WriteRows.{at_rows, delete_keys, from_room, from_success, is_there, never_ends, not_so, not_there, old_fragments, seen_rows, so_if}
use Rattle.db_core.proofs.Crashes.{asked}
use Rattle.db_core.proofs.decide_writes.decide_delete.Goals as goal

pub returns-then-not-there-clause-answer : goal.returns-then-not-there-clause-answer
returns-then-not-there-clause-answer g c = λ f s represents seen.
    inl (not_there f (g.R.RowStore.state c.args.rows.now) c.args.control.now s represents c.requires.sound (g.met.R.RowStore.consistent c.args.rows.now) seen c.args.table c.args.row.0 (λ is. (not_so c.in_ok-there.there (c.if-not-there.true) ((c.in_ok-there.ensures.found seen).1 is))), refl)

pub returns-in-None-clause-answer : goal.returns-in-None-clause-answer
returns-in-None-clause-answer g c = λ f s represents seen.
    let rows = g.R.RowStore.state c.args.rows.now in
    let settled = g.met.R.RowStore.consistent c.args.rows.now in
    let same = c.in_ok-old.ensures.same ∙ c.in_ok-there.ensures.same in
    let old = old_fragments f rows (g.R.RowStore.state c.is_row_of.new.rows) c.args.control.now s represents c.requires.sound settled seen c.in_ok-there.ensures.same c.args.row.0 c.in_ok-old.old c.in_ok-old.ensures.found in
    let there = is_there f rows c.args.control.now s represents c.requires.sound settled seen c.args.table c.args.row.0 ((c.in_ok-there.ensures.found seen).0 (so_if c.in_ok-there.there c.if-not-there.false)) in
    let room = c.decide_removal.ensures f s (Delete c.args.table c.args.row) (at_rows f rows (g.R.RowStore.state c.fragments.new.self) c.args.control.now s same represents) (seen_rows rows (g.R.RowStore.state c.fragments.new.self) same seen) (λ h. h) tt (sym old ∙ sym c.from.ensures) in
    from_success f s c.args.client (Delete c.args.table c.args.row) Done (λ gone. gone there) (delete_keys f s c.args.client c.args.table c.args.row)
    (subst (λ (o : Option Answer). AnswersRoom f s c.args.client (Delete c.args.table c.args.row) o) c.in-None.is room) (never_ends f s (Delete c.args.table c.args.row) tt) (λ h. h) refl

pub returns-in-Some-clause-answer : goal.returns-in-Some-clause-answer
returns-in-Some-clause-answer g c = λ f s represents seen.
    let rows = g.R.RowStore.state c.args.rows.now in
    let settled = g.met.R.RowStore.consistent c.args.rows.now in
    let same = c.in_ok-old.ensures.same ∙ c.in_ok-there.ensures.same in
    let old = old_fragments f rows (g.R.RowStore.state c.is_row_of.new.rows) c.args.control.now s represents c.requires.sound settled seen c.in_ok-there.ensures.same c.args.row.0 c.in_ok-old.old c.in_ok-old.ensures.found in
    let there = is_there f rows c.args.control.now s represents c.requires.sound settled seen c.args.table c.args.row.0 ((c.in_ok-there.ensures.found seen).0 (so_if c.in_ok-there.there c.if-not-there.false)) in
    let room = c.decide_removal.ensures f s (Delete c.args.table c.args.row) (at_rows f rows (g.R.RowStore.state c.fragments.new.self) c.args.control.now s same represents) (seen_rows rows (g.R.RowStore.state c.fragments.new.self) same seen) (λ h. h) tt (sym old ∙ sym c.from.ensures) in
    from_room f s c.args.client (Delete c.args.table c.args.row) c.in-Some.answer (λ gone. gone there) (delete_keys f s c.args.client c.args.table c.args.row)
    (subst (λ (o : Option Answer). AnswersRoom f s c.args.client (Delete c.args.table c.args.row) o) c.in-Some.is room)

pub returns-in_err-old-clause-durable : goal.returns-in_err-old-clause-durable
returns-in_err-old-clause-durable g c = λ f contents trace h. asked (g.R.RowStore.state c.is_row_of.new.rows) (g.R.RowStore.state c.fragments.new.self) (g.R.RowStore.left c.is_row_of.new.rows) (g.R.RowStore.left c.fragments.new.self) (g.R.RowStore.times c.is_row_of.new.rows) (g.R.RowStore.times c.fragments.new.self) (g.met.R.RowStore.left_known c.fragments.new.self) (g.met.R.RowStore.since_past c.is_row_of.new.rows) c.fragments.result c.fragments.ensures.time c.fragments.ensures.same c.fragments.ensures.err f contents trace (c.is_row_of.ensures.durable f contents trace h)

pub returns-in-None-clause-durable : goal.returns-in-None-clause-durable
returns-in-None-clause-durable g c = λ f contents trace h. asked (g.R.RowStore.state c.is_row_of.new.rows) (g.R.RowStore.state c.fragments.new.self) (g.R.RowStore.left c.is_row_of.new.rows) (g.R.RowStore.left c.fragments.new.self) (g.R.RowStore.times c.is_row_of.new.rows) (g.R.RowStore.times c.fragments.new.self) (g.met.R.RowStore.left_known c.fragments.new.self) (g.met.R.RowStore.since_past c.is_row_of.new.rows) c.fragments.result c.fragments.ensures.time c.fragments.ensures.same c.fragments.ensures.err f contents trace (c.is_row_of.ensures.durable f contents trace h)

pub returns-in-Some-clause-durable : goal.returns-in-Some-clause-durable
returns-in-Some-clause-durable g c = λ f contents trace h. asked (g.R.RowStore.state c.is_row_of.new.rows) (g.R.RowStore.state c.fragments.new.self) (g.R.RowStore.left c.is_row_of.new.rows) (g.R.RowStore.left c.fragments.new.self) (g.R.RowStore.times c.is_row_of.new.rows) (g.R.RowStore.times c.fragments.new.self) (g.met.R.RowStore.left_known c.fragments.new.self) (g.met.R.RowStore.since_past c.is_row_of.new.rows) c.fragments.result c.fragments.ensures.time c.fragments.ensures.same c.fragments.ensures.err f contents trace (c.is_row_of.ensures.durable f contents trace h)
