use Rattle.std.proofs.Common.{sym, subst, refl, inl}
use Rattle.database_protocol.specs.declared.operation.Op.{Op}
use Rattle.database_protocol.specs.declared.operation.Op.TheVariants.{Put}
use Rattle.database_protocol.specs.declared.answer.Answer.TheVariants.{Done}
use Rattle.row_store.specs.Rows.{RowState}
use Rattle.db_core.specs.Keeps.{Keeps}
use Rattle.db_core.specs.Represents.{FitsOp, Represents}
use Rattle.db_machine.proofs.Replying.{after_as, holds_in, reply_of, still_reply}
use Rattle.db_machine.proofs.Rooms.{refusal_ends, refusal_fails}
use Rattle.db_machine.proofs.writes.answer_put.Goals as goal

pub returns-then-is_refusal-clause-reply : goal.returns-then-is_refusal-clause-reply
returns-then-is_refusal-clause-reply g c =
    let rows = g.R.RowStore.state c.args.rows.now in
    let reply = c.in_ok-reply.reply in
    let is = c.is_refusal.ensures.0 c.if-is_refusal.true in
    still_reply rows (g.R.RowStore.state c.decide_put.new.rows) c.args.control.now c.end_request.new.control c.args.size c.args.client c.args.op.now c.in_ok-decided.decided reply.answer c.requires.some
    c.in_ok-decided.ensures.same c.end_request.ensures.counts (c.end_request.ensures.sound rows c.requires.sound)
    (λ seen f s h. c.in_ok-decided.ensures.answer f s h seen) c.in_ok-reply.ensures.fitted
    (λ f s h. c.end_request.ensures.represents f rows s c.args.op.now reply.answer h (refusal_ends reply.answer is s c.args.client c.args.op.now) (inl (refusal_fails reply.answer is)))

pub returns-in_ok-put-in-Done-clause-reply : goal.returns-in_ok-put-in-Done-clause-reply
returns-in_ok-put-in-Done-clause-reply g c =
    let rows = g.R.RowStore.state c.args.rows.now in
    let reply = c.in_ok-reply.reply in
    let is = c.in-Done.is in
    let middle = g.R.RowStore.state c.decide_put.new.rows in
    let same = c.in_ok-decided.ensures.same in
    let new = g.R.RowStore.state c.put.new.rows in
    reply_of rows new c.args.control.now c.put.new.control c.args.size c.args.client c.args.op.now c.in_ok-decided.decided reply.answer c.requires.some
    (subst (λ (r : RowState). Keeps r new c.args.control.now c.put.new.control) same c.in_ok-put-in-Done.ensures.keeps) c.in_ok-put-in-Done.ensures.sound
    (λ seen f s h. c.in_ok-decided.ensures.answer f s h seen) c.in_ok-reply.ensures.fitted
    (λ f s h. after_as f new c.put.new.control s c.args.client c.args.op.now (Put c.args.table c.args.row c.args.values.now) reply.answer (Done) c.requires.op is
    (c.in_ok-put-in-Done.ensures.represents f s (subst (λ (r : RowState). Represents f r c.args.control.now s) (sym same) h) (holds_in f rows c.args.control.now s c.args.client c.args.row.0 h c.requires.held)))

pub returns-in_ok-wait_at-in-Blocked-clause-reply : goal.returns-in_ok-wait_at-in-Blocked-clause-reply
returns-in_ok-wait_at-in-Blocked-clause-reply g c =
    let rows = g.R.RowStore.state c.args.rows.now in
    let reply = c.in_ok-reply.reply in
    let is = c.in-Blocked.is in
    still_reply rows (g.R.RowStore.state c.decide_put.new.rows) c.args.control.now c.wait_at.new.control c.args.size c.args.client c.args.op.now c.in_ok-decided.decided reply.answer c.requires.some
    c.in_ok-decided.ensures.same c.in_ok-wait_at-in-Blocked.ensures.counts (c.in_ok-wait_at-in-Blocked.ensures.sound rows (subst (λ (o : Op). FitsOp rows.schema o) (sym c.requires.op) (c.requires.table, c.requires.fits)) c.requires.sound)
    (λ seen f s h. c.in_ok-decided.ensures.answer f s h seen) c.in_ok-reply.ensures.fitted
    (λ f s h. after_as f rows c.wait_at.new.control s c.args.client c.args.op.now c.args.op.now reply.answer _ refl is (c.in_ok-wait_at-in-Blocked.ensures.represents f rows s c.in-Blocked.holders h))
