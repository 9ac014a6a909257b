use Rattle.std.proofs.Common.{sym, subst, inl}
use Rattle.database_protocol.specs.declared.operation.Op.TheVariants.{Delete}
use Rattle.database_protocol.specs.declared.answer.Answer.TheVariants.{Done}
use Rattle.row_store.specs.Rows.{RowState}
use Rattle.db_core.specs.Keeps.{Keeps}
use Rattle.db_core.specs.Represents.{Represents}
use Rattle.db_machine.proofs.Replying.{after_as, from_op, holds_in, reply_of, still_reply}
use Rattle.db_machine.proofs.Rooms.{refusal_ends, refusal_fails}
use Rattle.db_machine.proofs.writes.answer_delete.Goals as goal

pub returns-then-is_refusal-clause-reply : goal.returns-then-is_refusal-clause-reply
returns-then-is_refusal-clause-reply g c =
    let rows = g.R.RowStore.state c.args.rows.now in
    let reply = c.in_ok-reply.reply in
    let is = c.is_refusal.ensures.0 c.if-is_refusal.true in
    still_reply rows (g.R.RowStore.state c.decide_delete.new.rows) c.args.control.now c.end_request.new.control c.args.size c.args.client c.args.op.now c.in_ok-decided.decided reply.answer c.requires.some
    c.in_ok-decided.ensures.same c.end_request.ensures.counts (c.end_request.ensures.sound rows c.requires.sound)
    (λ seen f s h. from_op f s c.args.client c.args.op.now (Delete c.args.table c.args.row) c.in_ok-decided.decided c.requires.op (c.in_ok-decided.ensures.answer f s h seen)) c.in_ok-reply.ensures.fitted
    (λ f s h. c.end_request.ensures.represents f rows s c.args.op.now reply.answer h (refusal_ends reply.answer is s c.args.client c.args.op.now) (inl (refusal_fails reply.answer is)))

pub returns-in_ok-delete-in-Done-clause-reply : goal.returns-in_ok-delete-in-Done-clause-reply
returns-in_ok-delete-in-Done-clause-reply g c =
    let rows = g.R.RowStore.state c.args.rows.now in
    let reply = c.in_ok-reply.reply in
    let is = c.in-Done.is in
    let middle = g.R.RowStore.state c.decide_delete.new.rows in
    let same = c.in_ok-decided.ensures.same in
    let new = g.R.RowStore.state c.delete.new.rows in
    reply_of rows new c.args.control.now c.delete.new.control c.args.size c.args.client c.args.op.now c.in_ok-decided.decided reply.answer c.requires.some
    (subst (λ (r : RowState). Keeps r new c.args.control.now c.delete.new.control) same c.in_ok-delete-in-Done.ensures.keeps) c.in_ok-delete-in-Done.ensures.sound
    (λ seen f s h. from_op f s c.args.client c.args.op.now (Delete c.args.table c.args.row) c.in_ok-decided.decided c.requires.op (c.in_ok-decided.ensures.answer f s h seen)) c.in_ok-reply.ensures.fitted
    (λ f s h. after_as f new c.delete.new.control s c.args.client c.args.op.now (Delete c.args.table c.args.row) reply.answer (Done) c.requires.op is
    (c.in_ok-delete-in-Done.ensures.represents f s (subst (λ (r : RowState). Represents f r c.args.control.now s) (sym same) h) (holds_in f rows c.args.control.now s c.args.client c.args.row.0 h c.requires.held)))
