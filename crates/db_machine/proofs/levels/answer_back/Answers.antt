use Rattle.std.proofs.Common.{refl, inl}
use Rattle.database_protocol.specs.declared.operation.Op.TheVariants.{Back}
use Rattle.database_protocol.specs.declared.answer.Answer.TheVariants.{Done}
use Rattle.db_core.proofs.WriteRows.{not_so}
use Rattle.db_machine.proofs.OwnAnswers.{fitted_from}
use Rattle.db_machine.proofs.Replying.{after_as, from_op, reply_of, still_reply}
use Rattle.db_machine.proofs.Rooms.{back_row, fitted_is, refusal_ends, refusal_fails}
use Rattle.db_machine.proofs.levels.answer_back.Goals as goal

pub returns-then-is_refusal-clause-reply : goal.returns-then-is_refusal-clause-reply
returns-then-is_refusal-clause-reply g c =
    let rows = g.R.RowStore.state c.args.rows.now in
    let reply = c.fit_copies-reply.result in
    let is = c.is_refusal.ensures.0 c.if-is_refusal.true in
    still_reply rows (g.R.RowStore.state c.args.rows.now) c.args.control.now c.end_request.new.control c.args.size c.args.client c.args.op.now Done reply.answer c.requires.some
    refl c.end_request.ensures.counts (c.end_request.ensures.sound rows c.requires.sound)
    (λ seen f s h. from_op f s c.args.client c.args.op.now (Back c.args.depth) Done c.requires.op (back_row f s c.args.client c.args.depth)) c.fit_copies-reply.ensures.fitted
    (λ f s h. c.end_request.ensures.represents f rows s c.args.op.now reply.answer h (refusal_ends reply.answer is s c.args.client c.args.op.now) (inl (refusal_fails reply.answer is)))

pub returns-clause-reply : goal.returns-clause-reply
returns-clause-reply g c =
    let rows = g.R.RowStore.state c.args.rows.now in
    let reply = c.fit_copies-reply.result in
    let is = fitted_is c.args.size c.args.op.now (Done) reply.answer c.fit_copies-reply.ensures.fitted (λ refusal. not_so c.is_refusal.result c.if-is_refusal.false (c.is_refusal.ensures.1 refusal)) in
    let new = g.R.RowStore.state c.back.new.rows in
    reply_of rows new c.args.control.now c.back.new.control c.args.size c.args.client c.args.op.now Done reply.answer c.requires.some c.in_ok-back.ensures.keeps c.in_ok-back.ensures.sound
    (λ seen f s h. from_op f s c.args.client c.args.op.now (Back c.args.depth) Done c.requires.op (back_row f s c.args.client c.args.depth)) c.fit_copies-reply.ensures.fitted
    (λ f s h. after_as f new c.back.new.control s c.args.client c.args.op.now (Back c.args.depth) reply.answer Done c.requires.op is (c.in_ok-back.ensures.represents f s h))

pub returns-then-is_refusal-clause-own : goal.returns-then-is_refusal-clause-own
returns-then-is_refusal-clause-own g c =
    fitted_from c.args.schema.now c.args.size c.args.op.now (Back c.args.depth) Done c.fit_copies-reply.result.answer c.requires.op tt tt c.fit_copies-reply.ensures.fitted

pub returns-clause-own : goal.returns-clause-own
returns-clause-own g c =
    fitted_from c.args.schema.now c.args.size c.args.op.now (Back c.args.depth) Done c.fit_copies-reply.result.answer c.requires.op tt tt c.fit_copies-reply.ensures.fitted
