use Rattle.std.proofs.Common.{refl, inl, inr}
use Rattle.database_protocol.specs.declared.operation.Op.TheVariants.{Leave}
use Rattle.database_protocol.specs.declared.answer.Answer.TheVariants.{Done}
use Rattle.db_core.proofs.WriteRows.{not_so}
use Rattle.db_machine.proofs.OwnAnswers.{fitted_from}
use Rattle.db_machine.proofs.Replying.{after_as, from_op, inner_depth, still_reply}
use Rattle.db_machine.proofs.Rooms.{fitted_is, leave_row, refusal_ends, refusal_fails}
use Rattle.db_machine.proofs.Crashes.{fitted_quiet_of, refusal_quiet}
use Rattle.db_machine.proofs.levels.answer_inner_leave.Goals as goal

pub returns-then-is_refusal-clause-reply : goal.returns-then-is_refusal-clause-reply
returns-then-is_refusal-clause-reply g c =
    let rows = g.R.RowStore.state c.args.rows.now in
    let reply = c.fit_copies-reply.result in
    let is = c.is_refusal.ensures.0 c.if-is_refusal.true in
    still_reply rows (g.R.RowStore.state c.args.rows.now) c.args.control.now c.end_request.new.control c.args.size c.args.client c.args.op.now Done reply.answer c.requires.some
    refl c.end_request.ensures.counts (c.end_request.ensures.sound rows c.requires.sound)
    (λ seen f s h. from_op f s c.args.client c.args.op.now (Leave c.args.keep.now) Done c.requires.op (leave_row f s c.args.client c.args.keep.now Done (inr (inner_depth f rows c.args.control.now s c.args.client h c.requires.inner, refl)))) c.fit_copies-reply.ensures.fitted
    (λ f s h. c.end_request.ensures.represents f rows s c.args.op.now reply.answer h (refusal_ends reply.answer is s c.args.client c.args.op.now) (inl (refusal_fails reply.answer is)))

pub returns-clause-reply : goal.returns-clause-reply
returns-clause-reply g c =
    let rows = g.R.RowStore.state c.args.rows.now in
    let reply = c.fit_copies-reply.result in
    let is = fitted_is c.args.size c.args.op.now (Done) reply.answer c.fit_copies-reply.ensures.fitted (λ refusal. not_so c.is_refusal.result c.if-is_refusal.false (c.is_refusal.ensures.1 refusal)) in
    still_reply rows rows c.args.control.now c.leave.new.control c.args.size c.args.client c.args.op.now Done reply.answer c.requires.some
    refl c.leave.ensures.counts (c.leave.ensures.sound rows c.requires.sound)
    (λ seen f s h. from_op f s c.args.client c.args.op.now (Leave c.args.keep.now) Done c.requires.op (leave_row f s c.args.client c.args.keep.now Done (inr (inner_depth f rows c.args.control.now s c.args.client h c.requires.inner, refl)))) c.fit_copies-reply.ensures.fitted
    (λ f s h. after_as f rows c.leave.new.control s c.args.client c.args.op.now (Leave c.args.keep.now) reply.answer Done c.requires.op is (c.leave.ensures.represents f rows s c.args.keep.now c.requires.sound h))

pub returns-then-is_refusal-clause-uncommitted : goal.returns-then-is_refusal-clause-uncommitted
returns-then-is_refusal-clause-uncommitted g c =
    refusal_quiet c.fit_copies-reply.result.answer (c.is_refusal.ensures.0 c.if-is_refusal.true)

pub returns-clause-uncommitted : goal.returns-clause-uncommitted
returns-clause-uncommitted g c =
    fitted_quiet_of c.args.size c.args.op.now Done c.fit_copies-reply.result.answer c.fit_copies-reply.ensures.fitted refl

pub returns-then-is_refusal-clause-own : goal.returns-then-is_refusal-clause-own
returns-then-is_refusal-clause-own g c =
    fitted_from c.args.schema.now c.args.size c.args.op.now (Leave c.args.keep.now) Done c.fit_copies-reply.result.answer c.requires.op tt tt c.fit_copies-reply.ensures.fitted

pub returns-clause-own : goal.returns-clause-own
returns-clause-own g c =
    fitted_from c.args.schema.now c.args.size c.args.op.now (Leave c.args.keep.now) Done c.fit_copies-reply.result.answer c.requires.op tt tt c.fit_copies-reply.ensures.fitted
