use Rattle.std.proofs.Common.{◌∙◌, sym, subst, refl, inl}
use Rattle.database_protocol.specs.declared.operation.Op.{Op}
use Rattle.database_protocol.specs.declared.operation.Op.TheVariants.{Insert}
use Rattle.database_protocol.specs.declared.answer.Answer.TheVariants.{Inserted}
use Rattle.row_store.specs.Rows.{IsFree, RowState}
use Rattle.db_core.specs.Keeps.{Keeps}
use Rattle.db_core.specs.Represents.{FitsOp, Represents}
use Rattle.db_core.proofs.WriteRows.{not_so}
use Rattle.db_machine.proofs.Replying.{after_as, reply_of, still_reply}
use Rattle.db_machine.proofs.Rooms.{fitted_is, refusal_ends, refusal_fails}
use Rattle.db_machine.proofs.writes.answer_insert.Goals as goal

pub returns-then-is_refusal-clause-reply : goal.returns-then-is_refusal-clause-reply
returns-then-is_refusal-clause-reply g c =
    let rows = g.R.RowStore.state c.args.rows.now in
    let reply = c.in_ok-reply.reply in
    let is = c.is_refusal.ensures.0 c.if-is_refusal.true in
    still_reply rows (g.R.RowStore.state c.decide_insert.new.rows) c.args.control.now c.end_request.new.control c.args.size c.args.client c.args.op.now c.in_ok-decided.decided reply.answer c.requires.some
    c.in_ok-decided.ensures.same c.end_request.ensures.counts (c.end_request.ensures.sound rows c.requires.sound)
    (λ seen f s h. c.in_ok-decided.ensures.answer f s h seen) c.in_ok-reply.ensures.fitted
    (λ f s h. c.end_request.ensures.represents f rows s c.args.op.now reply.answer h (refusal_ends reply.answer is s c.args.client c.args.op.now) (inl (refusal_fails reply.answer is)))

pub returns-in_ok-insert-in-Inserted-clause-reply : goal.returns-in_ok-insert-in-Inserted-clause-reply
returns-in_ok-insert-in-Inserted-clause-reply g c =
    let rows = g.R.RowStore.state c.args.rows.now in
    let reply = c.in_ok-reply.reply in
    let is = c.in-Inserted.is in
    let middle = g.R.RowStore.state c.decide_insert.new.rows in
    let same = c.in_ok-decided.ensures.same in
    let new = g.R.RowStore.state c.insert.new.rows in
    reply_of rows new c.args.control.now c.insert.new.control c.args.size c.args.client c.args.op.now c.in_ok-decided.decided reply.answer c.requires.some
    (subst (λ (r : RowState). Keeps r new c.args.control.now c.insert.new.control) same c.in_ok-insert-in-Inserted.ensures.keeps) c.in_ok-insert-in-Inserted.ensures.sound
    (λ seen f s h. c.in_ok-decided.ensures.answer f s h seen) c.in_ok-reply.ensures.fitted
    (λ f s h. after_as f new c.insert.new.control s c.args.client c.args.op.now (Insert c.args.table c.args.values.now) reply.answer (Inserted c.in-Inserted.row) c.requires.op is
    (c.in_ok-insert-in-Inserted.ensures.represents f s (subst (λ (r : RowState). Represents f r c.args.control.now s) (sym same) h)))

pub returns-in_ok-wait_at-in-Blocked-clause-reply : goal.returns-in_ok-wait_at-in-Blocked-clause-reply
returns-in_ok-wait_at-in-Blocked-clause-reply g c =
    let rows = g.R.RowStore.state c.args.rows.now in
    let reply = c.in_ok-reply.reply in
    let is = c.in-Blocked.is in
    still_reply rows (g.R.RowStore.state c.decide_insert.new.rows) c.args.control.now c.wait_at.new.control c.args.size c.args.client c.args.op.now c.in_ok-decided.decided reply.answer c.requires.some
    c.in_ok-decided.ensures.same c.in_ok-wait_at-in-Blocked.ensures.counts (c.in_ok-wait_at-in-Blocked.ensures.sound rows (subst (λ (o : Op). FitsOp rows.schema o) (sym c.requires.op) (c.requires.table, c.requires.fits)) c.requires.sound)
    (λ seen f s h. c.in_ok-decided.ensures.answer f s h seen) c.in_ok-reply.ensures.fitted
    (λ f s h. after_as f rows c.wait_at.new.control s c.args.client c.args.op.now c.args.op.now reply.answer _ refl is (c.in_ok-wait_at-in-Blocked.ensures.represents f rows s c.in-Blocked.holders h))

pub insert-requires-clause-free : goal.insert-requires-clause-free
insert-requires-clause-free g c =
    let reply = c.in_ok-reply.reply in
    let decided_is = fitted_is c.args.size c.args.op.now c.in_ok-decided.decided reply.answer c.in_ok-reply.ensures.fitted (λ refusal. not_so c.is_refusal.result c.if-is_refusal.false (c.is_refusal.ensures.1 refusal)) in
    subst (λ (r : RowState). IsFree r c.in-Inserted.row.0) (sym c.in_ok-decided.ensures.same) (c.in_ok-decided.ensures.free c.in-Inserted.row (sym decided_is ∙ c.in-Inserted.is))
