use Rattle.std.proofs.Common.{◌≡◌, ◌∙◌, sym, subst, inl}
use Rattle.database_protocol.specs.declared.operation.Op.{Op}
use Rattle.database_protocol.specs.declared.operation.Op.TheVariants.{Lock}
use Rattle.database_protocol.specs.declared.answer.Answer.{Answer}
use Rattle.database_protocol.specs.declared.answer.Answer.TheVariants.{Blocked, Granted}
use Rattle.database_meaning.specs.Steps.{after}
use Rattle.db_core.specs.Represents.{Represents}
use Rattle.db_core.proofs.WriteRows.{not_so}
use Rattle.db_machine.proofs.Replying.{after_as, from_op, there_then, still_reply}
use Rattle.db_machine.proofs.Rooms.{fitted_is, refusal_ends, refusal_fails}
use Rattle.db_machine.proofs.queries.answer_lock.Goals as goal

pub returns-then-is_refusal-clause-reply : goal.returns-then-is_refusal-clause-reply
returns-then-is_refusal-clause-reply g c =
    let rows = g.R.RowStore.state c.args.rows.now in
    let reply = c.in_ok-reply.reply in
    let is = c.is_refusal.ensures.0 c.if-is_refusal.true in
    still_reply rows (g.R.RowStore.state c.decide_lock.new.rows) c.args.control.now c.end_request.new.control c.args.size c.args.client c.args.op.now c.in_ok-decided.decided reply.answer c.requires.some
    c.in_ok-decided.ensures.same c.end_request.ensures.counts (c.end_request.ensures.sound rows c.requires.sound)
    (λ seen f s h. from_op f s c.args.client c.args.op.now _ c.in_ok-decided.decided c.requires.op (c.in_ok-decided.ensures.answer f s h seen)) c.in_ok-reply.ensures.fitted
    (λ f s h. c.end_request.ensures.represents f rows s c.args.op.now reply.answer h (refusal_ends reply.answer is s c.args.client c.args.op.now) (inl (refusal_fails reply.answer is)))

pub returns-in-Ok-clause-reply : goal.returns-in-Ok-clause-reply
returns-in-Ok-clause-reply g c =
    let rows = g.R.RowStore.state c.args.rows.now in
    let reply = c.in_ok-reply.reply in
    let is : reply.answer ≡ Granted = c.in-Granted.is in
    let decided_is : c.in_ok-decided.decided ≡ Granted = sym (fitted_is c.args.size c.args.op.now c.in_ok-decided.decided reply.answer c.in_ok-reply.ensures.fitted (λ refusal. not_so c.is_refusal.result c.if-is_refusal.false (c.is_refusal.ensures.1 refusal))) ∙ is in
    let free = c.in_ok-decided.ensures.granted decided_is in
    still_reply rows (g.R.RowStore.state c.decide_lock.new.rows) c.args.control.now c.grant_lock.new.control c.args.size c.args.client c.args.op.now c.in_ok-decided.decided reply.answer c.requires.some
    c.in_ok-decided.ensures.same c.in-Ok.ensures.counts (c.in-Ok.ensures.sound rows c.requires.sound)
    (λ seen f s h. from_op f s c.args.client c.args.op.now _ c.in_ok-decided.decided c.requires.op (c.in_ok-decided.ensures.answer f s h seen)) c.in_ok-reply.ensures.fitted
    (λ f s h. subst (λ (x : Answer). Represents f rows c.grant_lock.new.control (after f s c.args.client c.args.op.now x)) (sym is)
    (subst (λ (o : Op). Represents f rows c.grant_lock.new.control (after f s c.args.client o Granted)) (sym c.requires.op)
    (c.in-Ok.ensures.represents f rows s c.args.table c.args.wait h free.0 (λ observable. there_then rows c.args.row.0 c.args.table (free.1 observable)))))

pub returns-in-Ok-wait_for_lock-clause-reply : goal.returns-in-Ok-wait_for_lock-clause-reply
returns-in-Ok-wait_for_lock-clause-reply g c =
    let rows = g.R.RowStore.state c.args.rows.now in
    let reply = c.in_ok-reply.reply in
    still_reply rows (g.R.RowStore.state c.decide_lock.new.rows) c.args.control.now c.wait.new.control c.args.size c.args.client c.args.op.now c.in_ok-decided.decided reply.answer c.requires.some
    c.in_ok-decided.ensures.same c.in-Ok-wait_for_lock.ensures.counts (c.in-Ok-wait_for_lock.ensures.sound rows c.requires.sound)
    (λ seen f s h. from_op f s c.args.client c.args.op.now _ c.in_ok-decided.decided c.requires.op (c.in_ok-decided.ensures.answer f s h seen)) c.in_ok-reply.ensures.fitted
    (λ f s h. after_as f rows c.wait.new.control s c.args.client c.args.op.now (Lock c.args.table c.args.row c.args.exclusive c.args.wait) reply.answer (Blocked c.in-Blocked.holders) c.requires.op c.in-Blocked.is
    (c.in-Ok-wait_for_lock.ensures.represents f rows s c.in-Blocked.holders h))
