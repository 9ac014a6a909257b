use Rattle.std.proofs.Common.{◌≡◌, Option, None, Some, sym, subst, refl}
use Rattle.abl_base.specs.declared.row.RowId.{RowId}
use Rattle.database_protocol.specs.declared.operation.Op.{Op}
use Rattle.database_protocol.specs.declared.operation.Op.TheVariants.{Insert}
use Rattle.database_protocol.specs.declared.answer.Answer.{Answer}
use Rattle.database_protocol.specs.declared.answer.Answer.TheVariants.{Inserted}
use Rattle.database_meaning.specs.Answers.{FromGone}
use Rattle.row_store.specs.Rows.{IsFree, RowState}
use Rattle.db_core.specs.Writes.{AnswersKeys, AnswersRoom}
use Rattle.db_core.proofs.Inserts.{free_is_fresh}
use Rattle.db_core.proofs.WriteRows.{at_rows, from_keys, from_room, from_success, insert_draws, insert_writes, never_ends, never_inserted, seen_rows, some_at}
use Rattle.db_core.proofs.Crashes.{asked}
use Rattle.db_core.proofs.decide_writes.decide_insert.Goals as goal

pub returns-in-Some-clause-answer : goal.returns-in-Some-clause-answer
returns-in-Some-clause-answer g c = λ f s represents seen.
    subst (λ (o : Op). FromGone f s c.args.client o c.in-Some.answer) (sym c.requires.op)
    (from_keys f s c.args.client (Insert c.args.table c.args.values.now) c.in-Some.answer (λ gone. gone) tt
    (subst (λ (o : Op). AnswersKeys f s c.args.client o (Some c.in-Some.answer)) c.requires.op (subst (λ (found : Option Answer). AnswersKeys f s c.args.client c.args.op.now found) c.in-Some.is (c.in_ok-answer.ensures.answer f s represents seen))))

pub returns-in-Some-decide_room-clause-answer : goal.returns-in-Some-decide_room-clause-answer
returns-in-Some-decide_room-clause-answer g c = λ f s represents seen.
    let rows = g.R.RowStore.state c.args.rows.now in
    let settled = g.met.R.RowStore.consistent c.args.rows.now in
    let op : Op = Insert c.args.table c.args.values.now in
    let middle = g.R.RowStore.state c.decide_entry.new.rows in
    let same = c.in_ok-answer.ensures.same in
    let keys : AnswersKeys f s c.args.client op None =
    subst (λ (o : Op). AnswersKeys f s c.args.client o None) c.requires.op (subst (λ (found : Option Answer). AnswersKeys f s c.args.client c.args.op.now found) c.in_default.is (c.in_ok-answer.ensures.answer f s represents seen)) in
    let room = c.decide_room.ensures.answer f s op (at_rows f rows middle c.args.control.now s same represents) (seen_rows rows middle same seen) tt (insert_draws f s c.args.table c.args.values.now c.fragments_of.result (c.fragments_of.ensures c.args.table)) (insert_writes f s c.args.table c.args.values.now c.fragments_of.result (c.fragments_of.ensures c.args.table)) in
    subst (λ (o : Op). FromGone f s c.args.client o c.in-Some-decide_room.answer) (sym c.requires.op)
    (from_room f s c.args.client op c.in-Some-decide_room.answer (λ gone. gone) keys (subst (λ (o : Option Answer). AnswersRoom f s c.args.client op o) c.in-Some-decide_room.is room))

pub returns-clause-answer : goal.returns-clause-answer
returns-clause-answer g c = λ f s represents seen.
    let rows = g.R.RowStore.state c.args.rows.now in
    let settled = g.met.R.RowStore.consistent c.args.rows.now in
    let op : Op = Insert c.args.table c.args.values.now in
    let middle = g.R.RowStore.state c.decide_entry.new.rows in
    let same = c.in_ok-answer.ensures.same in
    let keys : AnswersKeys f s c.args.client op None =
    subst (λ (o : Op). AnswersKeys f s c.args.client o None) c.requires.op (subst (λ (found : Option Answer). AnswersKeys f s c.args.client c.args.op.now found) c.in_default.is (c.in_ok-answer.ensures.answer f s represents seen)) in
    let room = c.decide_room.ensures.answer f s op (at_rows f rows middle c.args.control.now s same represents) (seen_rows rows middle same seen) tt (insert_draws f s c.args.table c.args.values.now c.fragments_of.result (c.fragments_of.ensures c.args.table)) (insert_writes f s c.args.table c.args.values.now c.fragments_of.result (c.fragments_of.ensures c.args.table)) in
    let free : IsFree rows c.in_ok-row.row.0 = subst (λ (r : RowState). IsFree r c.in_ok-row.row.0) same c.in_ok-row.ensures.free in
    subst (λ (o : Op). FromGone f s c.args.client o (Inserted c.in_ok-row.row)) (sym c.requires.op)
    (from_success f s c.args.client op (Inserted c.in_ok-row.row) (λ gone. gone) keys (subst (λ (o : Option Answer). AnswersRoom f s c.args.client op o) c.in_default-decide_room.is room) (never_ends f s op tt) (λ h. h)
    (c.in_ok-row.row, refl, free_is_fresh f rows c.args.control.now s represents settled seen c.in_ok-row.row.0 free))

same_row : (a b : RowId) → Inserted a ≡ Inserted b → a ≡ b
same_row a b e = cc

pub returns-clause-free : goal.returns-clause-free
returns-clause-free g c = λ row is.
    subst (λ (r : RowState). IsFree r row.0) c.in_ok-answer.ensures.same (subst (λ (q : RowId). IsFree (g.R.RowStore.state c.decide_entry.new.rows) q.0) (same_row c.in_ok-row.row row is) c.in_ok-row.ensures.free)

pub returns-in-Some-clause-free : goal.returns-in-Some-clause-free
returns-in-Some-clause-free g c = λ row is. absurd (never_inserted c.in-Some.answer row (some_at c.in_ok-answer.field-0 c.in-Some.answer _ c.in-Some.is c.in_ok-answer.ensures.refusal) is)

pub returns-in-Some-decide_room-clause-free : goal.returns-in-Some-decide_room-clause-free
returns-in-Some-decide_room-clause-free g c = λ row is. absurd (never_inserted c.in-Some-decide_room.answer row (some_at c.decide_room.result c.in-Some-decide_room.answer _ c.in-Some-decide_room.is c.decide_room.ensures.refusal) is)

pub returns-in_err-row-clause-durable : goal.returns-in_err-row-clause-durable
returns-in_err-row-clause-durable g c = λ f contents trace h. asked (g.R.RowStore.state c.decide_entry.new.rows) (g.R.RowStore.state c.fresh.new.self) (g.R.RowStore.left c.decide_entry.new.rows) (g.R.RowStore.left c.fresh.new.self) (g.R.RowStore.times c.decide_entry.new.rows) (g.R.RowStore.times c.fresh.new.self) (g.met.R.RowStore.left_known c.fresh.new.self) (g.met.R.RowStore.since_past c.decide_entry.new.rows) c.fresh.result c.fresh.ensures.time c.fresh.ensures.same c.fresh.ensures.err f contents trace (c.decide_entry.ensures.durable f contents trace h)

pub returns-clause-durable : goal.returns-clause-durable
returns-clause-durable g c = λ f contents trace h. asked (g.R.RowStore.state c.decide_entry.new.rows) (g.R.RowStore.state c.fresh.new.self) (g.R.RowStore.left c.decide_entry.new.rows) (g.R.RowStore.left c.fresh.new.self) (g.R.RowStore.times c.decide_entry.new.rows) (g.R.RowStore.times c.fresh.new.self) (g.met.R.RowStore.left_known c.fresh.new.self) (g.met.R.RowStore.since_past c.decide_entry.new.rows) c.fresh.result c.fresh.ensures.time c.fresh.ensures.same c.fresh.ensures.err f contents trace (c.decide_entry.ensures.durable f contents trace h)
