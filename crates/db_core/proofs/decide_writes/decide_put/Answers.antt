use Rattle.std.proofs.Common.{◌∙◌, Option, None, Some, sym, subst, refl, inl}
use Rattle.database_protocol.specs.declared.operation.Op.{Op}
use Rattle.database_protocol.specs.declared.operation.Op.TheVariants.{Put}
use Rattle.database_protocol.specs.declared.answer.Answer.{Answer}
use Rattle.database_protocol.specs.declared.answer.Answer.TheVariants.{Done, Gone}
use Rattle.database_meaning.specs.Answers.{FromGone}
use Rattle.db_core.specs.Writes.{AnswersKeys, AnswersRoom}
use Rattle.db_core.proofs.WriteRows.{at_rows, from_keys, from_room, from_success, is_there, never_ends, not_so, not_there, old_fragments, put_draws, put_writes, seen_rows, so_if}
use Rattle.db_core.proofs.Crashes.{asked}
use Rattle.db_core.proofs.decide_writes.decide_put.Goals as goal

pub returns-then-not-there-clause-answer : goal.returns-then-not-there-clause-answer
returns-then-not-there-clause-answer g c = λ f s represents seen.
    subst (λ (o : Op). FromGone f s c.args.client o Gone) (sym c.requires.op)
    (inl (
      not_there f (g.R.RowStore.state c.args.rows.now) c.args.control.now s represents c.requires.sound (g.met.R.RowStore.consistent c.args.rows.now) seen c.args.table c.args.row.0
          (λ is. not_so c.in_ok-there.there c.if-not-there.true ((c.in_ok-there.ensures.found seen).1 is)),
      refl,
    ))

pub returns-in-Some-clause-answer : goal.returns-in-Some-clause-answer
returns-in-Some-clause-answer g c = λ f s represents seen.
    let rows = g.R.RowStore.state c.args.rows.now in
    let settled = g.met.R.RowStore.consistent c.args.rows.now in
    let op : Op = Put c.args.table c.args.row c.args.values.now in
    let first = g.R.RowStore.state c.is_row_of.new.rows in
    let there = is_there f rows c.args.control.now s represents c.requires.sound settled seen c.args.table c.args.row.0 ((c.in_ok-there.ensures.found seen).0 (so_if c.in_ok-there.there c.if-not-there.false)) in
    let found = c.in_ok-answer.ensures.answer f s (at_rows f rows first c.args.control.now s c.in_ok-there.ensures.same represents) (seen_rows rows first c.in_ok-there.ensures.same seen) in
    subst (λ (o : Op). FromGone f s c.args.client o c.in-Some.answer) (sym c.requires.op)
    (from_keys f s c.args.client op c.in-Some.answer (λ gone. gone there) tt
    (subst (λ (o : Op). AnswersKeys f s c.args.client o (Some c.in-Some.answer)) c.requires.op (subst (λ (x : Option Answer). AnswersKeys f s c.args.client c.args.op.now x) c.in-Some.is found)))

pub returns-in-None-clause-answer : goal.returns-in-None-clause-answer
returns-in-None-clause-answer g c = λ f s represents seen.
    let rows = g.R.RowStore.state c.args.rows.now in
    let settled = g.met.R.RowStore.consistent c.args.rows.now in
    let op : Op = Put c.args.table c.args.row c.args.values.now in
    let first = g.R.RowStore.state c.is_row_of.new.rows in
    let there = is_there f rows c.args.control.now s represents c.requires.sound settled seen c.args.table c.args.row.0 ((c.in_ok-there.ensures.found seen).0 (so_if c.in_ok-there.there c.if-not-there.false)) in
    let found = c.in_ok-answer.ensures.answer f s (at_rows f rows first c.args.control.now s c.in_ok-there.ensures.same represents) (seen_rows rows first c.in_ok-there.ensures.same seen) in
    let second = g.R.RowStore.state c.decide_entry.new.rows in
    let third = g.R.RowStore.state c.fragments.new.self in
    let both = c.in_ok-answer.ensures.same ∙ c.in_ok-there.ensures.same in
    let same = c.in_ok-old.ensures.same ∙ both in
    let keys : AnswersKeys f s c.args.client op None = subst (λ (o : Op). AnswersKeys f s c.args.client o None) c.requires.op (subst (λ (x : Option Answer). AnswersKeys f s c.args.client c.args.op.now x) c.in_default.is found) in
    let old = c.from.ensures ∙ old_fragments f rows second c.args.control.now s represents c.requires.sound settled seen both c.args.row.0 c.in_ok-old.old c.in_ok-old.ensures.found in
    let new = c.fragments_of.ensures c.args.table in
    let room = c.decide_room.ensures.answer f s op (at_rows f rows third c.args.control.now s same represents) (seen_rows rows third same seen) tt
    (put_draws f s c.args.table c.args.row c.args.values.now c.fragments_of.result c.from.result new old) (put_writes f s c.args.table c.args.row c.args.values.now c.fragments_of.result c.from.result new old) in
    subst (λ (o : Op). FromGone f s c.args.client o Done) (sym c.requires.op)
    (from_success f s c.args.client op Done (λ gone. gone there) keys (subst (λ (o : Option Answer). AnswersRoom f s c.args.client op o) c.in-None.is room) (never_ends f s op tt) (λ h. h) refl)

pub returns-in-Some-decide_room-clause-answer : goal.returns-in-Some-decide_room-clause-answer
returns-in-Some-decide_room-clause-answer g c = λ f s represents seen.
    let rows = g.R.RowStore.state c.args.rows.now in
    let settled = g.met.R.RowStore.consistent c.args.rows.now in
    let op : Op = Put c.args.table c.args.row c.args.values.now in
    let first = g.R.RowStore.state c.is_row_of.new.rows in
    let there = is_there f rows c.args.control.now s represents c.requires.sound settled seen c.args.table c.args.row.0 ((c.in_ok-there.ensures.found seen).0 (so_if c.in_ok-there.there c.if-not-there.false)) in
    let found = c.in_ok-answer.ensures.answer f s (at_rows f rows first c.args.control.now s c.in_ok-there.ensures.same represents) (seen_rows rows first c.in_ok-there.ensures.same seen) in
    let second = g.R.RowStore.state c.decide_entry.new.rows in
    let third = g.R.RowStore.state c.fragments.new.self in
    let both = c.in_ok-answer.ensures.same ∙ c.in_ok-there.ensures.same in
    let same = c.in_ok-old.ensures.same ∙ both in
    let keys : AnswersKeys f s c.args.client op None = subst (λ (o : Op). AnswersKeys f s c.args.client o None) c.requires.op (subst (λ (x : Option Answer). AnswersKeys f s c.args.client c.args.op.now x) c.in_default.is found) in
    let old = c.from.ensures ∙ old_fragments f rows second c.args.control.now s represents c.requires.sound settled seen both c.args.row.0 c.in_ok-old.old c.in_ok-old.ensures.found in
    let new = c.fragments_of.ensures c.args.table in
    let room = c.decide_room.ensures.answer f s op (at_rows f rows third c.args.control.now s same represents) (seen_rows rows third same seen) tt
    (put_draws f s c.args.table c.args.row c.args.values.now c.fragments_of.result c.from.result new old) (put_writes f s c.args.table c.args.row c.args.values.now c.fragments_of.result c.from.result new old) in
    subst (λ (o : Op). FromGone f s c.args.client o c.in-Some-decide_room.answer) (sym c.requires.op)
    (from_room f s c.args.client op c.in-Some-decide_room.answer (λ gone. gone there) keys (subst (λ (o : Option Answer). AnswersRoom f s c.args.client op o) c.in-Some-decide_room.is room))

pub returns-in_err-old-clause-durable : goal.returns-in_err-old-clause-durable
returns-in_err-old-clause-durable g c = λ f contents trace h. asked (g.R.RowStore.state c.decide_entry.new.rows) (g.R.RowStore.state c.fragments.new.self) (g.R.RowStore.left c.decide_entry.new.rows) (g.R.RowStore.left c.fragments.new.self) (g.R.RowStore.times c.decide_entry.new.rows) (g.R.RowStore.times c.fragments.new.self) (g.met.R.RowStore.left_known c.fragments.new.self) (g.met.R.RowStore.since_past c.decide_entry.new.rows) c.fragments.result c.fragments.ensures.time c.fragments.ensures.same c.fragments.ensures.err f contents trace (c.decide_entry.ensures.durable f contents trace (c.is_row_of.ensures.durable f contents trace h))

pub returns-in-None-clause-durable : goal.returns-in-None-clause-durable
returns-in-None-clause-durable g c = λ f contents trace h. asked (g.R.RowStore.state c.decide_entry.new.rows) (g.R.RowStore.state c.fragments.new.self) (g.R.RowStore.left c.decide_entry.new.rows) (g.R.RowStore.left c.fragments.new.self) (g.R.RowStore.times c.decide_entry.new.rows) (g.R.RowStore.times c.fragments.new.self) (g.met.R.RowStore.left_known c.fragments.new.self) (g.met.R.RowStore.since_past c.decide_entry.new.rows) c.fragments.result c.fragments.ensures.time c.fragments.ensures.same c.fragments.ensures.err f contents trace (c.decide_entry.ensures.durable f contents trace (c.is_row_of.ensures.durable f contents trace h))

pub returns-in-Some-decide_room-clause-durable : goal.returns-in-Some-decide_room-clause-durable
returns-in-Some-decide_room-clause-durable g c = λ f contents trace h. asked (g.R.RowStore.state c.decide_entry.new.rows) (g.R.RowStore.state c.fragments.new.self) (g.R.RowStore.left c.decide_entry.new.rows) (g.R.RowStore.left c.fragments.new.self) (g.R.RowStore.times c.decide_entry.new.rows) (g.R.RowStore.times c.fragments.new.self) (g.met.R.RowStore.left_known c.fragments.new.self) (g.met.R.RowStore.since_past c.decide_entry.new.rows) c.fragments.result c.fragments.ensures.time c.fragments.ensures.same c.fragments.ensures.err f contents trace (c.decide_entry.ensures.durable f contents trace (c.is_row_of.ensures.durable f contents trace h))
