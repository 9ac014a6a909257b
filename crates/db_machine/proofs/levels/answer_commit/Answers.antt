use Rattle.std.proofs.Common.{rules, sym, subst, refl, inl, inr}
use Rattle.database_protocol.specs.declared.operation.Op.{Op}
use Rattle.database_protocol.specs.declared.operation.Op.TheVariants.{Leave}
use Rattle.database_protocol.specs.declared.answer.Answer.TheVariants.{Closed, Committed}
use Rattle.row_store.specs.Rows.{RowState}
use Rattle.db_core.specs.Keeps.{Keeps}
use Rattle.database_meaning.specs.Steps.{after}
use Rattle.db_core.specs.Known.{known}
use Rattle.db_core.specs.Levels.{SameLevels}
use Rattle.db_core.specs.Represents.{Represents}
use Rattle.db_core.proofs.WriteRows.{not_so}
use Rattle.db_machine.specs.OwnAnswers.{IsOpenAnswer}
use Rattle.db_machine.proofs.OwnAnswers.{fitted_from}
use Rattle.db_machine.proofs.Replying.{after_as, from_op, is_outer, outer_levels, outermost_depth, reply_by, still_reply}
use Rattle.db_machine.proofs.Rooms.{leave_row, moment_place, place_of, refusal_ends, refusal_fails}
use Rattle.database_meaning.specs.Traces.{left_by}
use Rattle.db_core.proofs.Crashes.{grows_quietly}
use Rattle.db_machine.specs.Crashes.{answer_for}
use Rattle.db_machine.proofs.Crashes.{continues_in, error_closed_of, error_quiet_of, refusal_quiet}
use Rattle.db_machine.proofs.levels.answer_commit.Goals as goal

pub returns-then-is_refusal-clause-reply : goal.returns-then-is_refusal-clause-reply
returns-then-is_refusal-clause-reply g c =
    let rows = g.R.RowStore.state c.args.rows.now in
    let reply = c.fit_copies-reply.result in
    let is = c.is_refusal.ensures.0 c.if-is_refusal.true in
    still_reply rows (g.R.RowStore.state c.args.rows.now) c.args.control.now c.end_request.new.control c.args.size c.args.client c.args.op.now (Committed 0) reply.answer c.requires.some
    refl c.end_request.ensures.counts (c.end_request.ensures.sound rows c.requires.sound)
    (λ seen f s h. from_op f s c.args.client c.args.op.now (Leave c.args.keep.now) (Committed 0) c.requires.op (leave_row f s c.args.client c.args.keep.now (Committed 0) (inl (outermost_depth f rows c.args.control.now s c.args.client h c.requires.outermost, 0, refl)))) c.fit_copies-reply.ensures.fitted
    (λ f s h. c.end_request.ensures.represents f rows s c.args.op.now reply.answer h (refusal_ends reply.answer is s c.args.client c.args.op.now) (inl (refusal_fails reply.answer is)))

pub returns-clause-reply : goal.returns-clause-reply
returns-clause-reply g c =
    let rows = g.R.RowStore.state c.args.rows.now in
    let reply = c.fit_copies-reply.result in
    let moment = c.in_ok-moment.moment in
    let middle = g.R.RowStore.state c.rows_to_keep.new.rows in
    let new = g.R.RowStore.state c.commit.new.rows in
    let same = c.in_ok-staying.ensures.same in
    let place = moment_place c.args.size c.args.op.now 0 moment (place_of c.args.size c.args.op.now (Committed 0) reply.answer c.fit_copies-reply.ensures.fitted (λ refusal. not_so c.is_refusal.result c.if-is_refusal.false (c.is_refusal.ensures.1 refusal))) in
    reply_by rows new c.args.control.now c.commit.new.control c.args.size c.args.client c.args.op.now (Committed moment) (Committed moment)
    (subst (λ (r : RowState). Keeps r new c.args.control.now c.commit.new.control) same c.in_ok-moment.ensures.keeps) c.in_ok-moment.ensures.sound
    (λ seen f s h. from_op f s c.args.client c.args.op.now (Leave c.args.keep.now) (Committed moment) c.requires.op (leave_row f s c.args.client c.args.keep.now (Committed moment) (inl (outermost_depth f rows c.args.control.now s c.args.client h c.requires.outermost, moment, refl)))) (inl (place, refl))
    (λ seen f s h.
    let outer = is_outer s c.args.client (outermost_depth f rows c.args.control.now s c.args.client h c.requires.outermost) in
    after_as f new c.commit.new.control s c.args.client c.args.op.now (Leave c.args.keep.now) (Committed moment) (Committed moment) c.requires.op refl
    (c.in_ok-moment.ensures.represents f s c.args.keep.now moment (subst (λ (r : RowState). Represents f r c.args.control.now s) (sym same) h) outer (c.in_ok-staying.ensures.staying f s c.args.client h seen outer)))
    (λ f s same.
    subst (λ (o : Op). SameLevels (known c.commit.new.control) (after f s c.args.client o (Committed moment))) (sym c.requires.op)
    (c.in_ok-moment.ensures.levels f s c.args.keep.now moment same (outer_levels c.args.control.now s c.args.client same c.requires.outermost)))

pub returns-clause-own : goal.returns-clause-own
returns-clause-own g c = subst (λ (o : Op). IsOpenAnswer c.args.schema.now o (Committed c.in_ok-moment.moment)) (sym c.requires.op) (tt, inr tt)

pub returns-then-is_refusal-clause-durable : goal.returns-then-is_refusal-clause-durable
returns-then-is_refusal-clause-durable g c =
    λ f contents trace represents unshut h. grows_quietly (g.R.RowStore.state c.args.rows.now) (g.R.RowStore.left c.args.rows.now) (g.R.RowStore.times c.args.rows.now) f contents trace c.args.client c.args.op.now _ (refusal_quiet c.fit_copies-reply.result.answer (c.is_refusal.ensures.0 c.if-is_refusal.true)) h

pub returns-in_err-staying-clause-durable : goal.returns-in_err-staying-clause-durable
returns-in_err-staying-clause-durable g c =
    λ f contents trace represents unshut h. grows_quietly (g.R.RowStore.state c.rows_to_keep.new.rows) (g.R.RowStore.left c.rows_to_keep.new.rows) (g.R.RowStore.times c.rows_to_keep.new.rows) f contents trace c.args.client c.args.op.now (answer_for c.from_residual.result) (error_quiet_of c.from_residual.result c.in_err-staying.field-0.0 (search rules)) (c.rows_to_keep.ensures.durable f contents trace h)

pub returns-in_err-moment-clause-durable : goal.returns-in_err-moment-clause-durable
returns-in_err-moment-clause-durable g c =
    λ f contents trace represents unshut h.
    continues_in (g.R.RowStore.state c.commit.new.rows) (g.R.RowStore.left c.commit.new.rows) (g.R.RowStore.times c.commit.new.rows) f contents trace c.args.client c.args.op.now (Leave c.args.keep.now) _ Closed c.requires.op (error_closed_of c.from_residual-in_err-moment.result c.in_err-moment.field-0.0 (search rules) c.in_err-moment.ensures.only)
    (c.in_err-moment.ensures.unanswered c.args.keep.now c.requires.outermost f contents trace (subst (λ (r : RowState). Represents f r c.args.control.now (left_by f contents trace)) (sym c.in_ok-staying.ensures.same) represents) unshut
    (c.rows_to_keep.ensures.durable f contents trace h))

pub returns-clause-durable : goal.returns-clause-durable
returns-clause-durable g c =
    λ f contents trace represents unshut h.
    continues_in (g.R.RowStore.state c.commit.new.rows) (g.R.RowStore.left c.commit.new.rows) (g.R.RowStore.times c.commit.new.rows) f contents trace c.args.client c.args.op.now (Leave c.args.keep.now) _ (Committed c.in_ok-moment.moment) c.requires.op refl
    (c.in_ok-moment.ensures.durable c.args.keep.now c.requires.outermost f contents trace (subst (λ (r : RowState). Represents f r c.args.control.now (left_by f contents trace)) (sym c.in_ok-staying.ensures.same) represents) unshut
    (c.rows_to_keep.ensures.durable f contents trace h))

pub returns-then-is_refusal-clause-own : goal.returns-then-is_refusal-clause-own
returns-then-is_refusal-clause-own g c =
    fitted_from c.args.schema.now c.args.size c.args.op.now (Leave c.args.keep.now) (Committed 0) c.fit_copies-reply.result.answer c.requires.op tt tt c.fit_copies-reply.ensures.fitted
