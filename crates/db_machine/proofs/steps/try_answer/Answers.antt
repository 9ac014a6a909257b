use Rattle.std.proofs.Common.{◌∙◌, refl, sym, inl, false}
use Rattle.database_protocol.specs.declared.answer.Answer.TheVariants.{Closed}
use Rattle.db_core.proofs.LockRows.{ok_more}
use Rattle.db_core.proofs.WriteRows.{not_so}
use Rattle.db_machine.proofs.OwnAnswers.{not_end, open_fits, open_met, open_unclosed, open_unrefused}
use Rattle.db_machine.proofs.Replying.{left_false, step_closed, step_refused, step_reply}
use Rattle.db_core.proofs.Crashes.{grows_quietly}
use Rattle.db_machine.proofs.steps.try_answer.Goals as goal

pub returns-then-not-is_allowed-clause-step : goal.returns-then-not-is_allowed-clause-step
returns-then-not-is_allowed-clause-step g c =
    let rows = g.R.RowStore.state c.args.rows.now in
    step_refused rows c.args.control.now c.args.schema.now c.args.size c.args.closed c.args.client c.args.op.now c.requires.schema
    (λ f s h o e. c.refusals_are_known.ensures.allowed f rows c.args.control.now s c.args.schema.now h o e c.args.client c.args.op.now)
    (λ allowed. not_so c.is_allowed.result c.if-not-is_allowed.true (c.is_allowed.ensures.1 allowed)) c.requires.sound
    (λ f s h. c.a_refusal_changes_nothing.ensures f rows c.args.control.now s c.args.client c.args.op.now h)

pub returns-then-not-is_allowed-clause-fine : goal.returns-then-not-is_allowed-clause-fine
returns-then-not-is_allowed-clause-fine g c = λ unshut. c.requires.fine (left_false c.args.closed false unshut)

pub returns-then-closed-clause-step : goal.returns-then-closed-clause-step
returns-then-closed-clause-step g c =
    let rows = g.R.RowStore.state c.args.rows.now in
    step_closed rows c.args.control.now c.args.schema.now c.args.size c.args.closed c.args.client c.args.op.now c.requires.schema
    (λ f s h o e. c.refusals_are_known.ensures.allowed f rows c.args.control.now s c.args.schema.now h o e c.args.client c.args.op.now)
    (c.is_allowed.ensures.0 c.if-not-is_allowed.false) c.end_request.new.control c.requires.some c.requires.other c.if-closed.true c.end_request.ensures.counts (c.end_request.ensures.sound rows c.requires.sound)
    (λ f s h. c.end_request.ensures.represents f rows s c.args.op.now Closed h refl (inl refl))

pub returns-clause-step : goal.returns-clause-step
returns-clause-step g c =
    let rows = g.R.RowStore.state c.args.rows.now in
    ok_more c.answer_allowed.result _ _
    (λ reply h. step_reply rows c.args.control.now c.args.schema.now c.args.size c.args.closed c.args.client c.args.op.now c.requires.schema
    (λ f s h o e. c.refusals_are_known.ensures.allowed f rows c.args.control.now s c.args.schema.now h o e c.args.client c.args.op.now)
    (c.is_allowed.ensures.0 c.if-not-is_allowed.false) (g.R.RowStore.state c.answer_allowed.new.rows) c.answer_allowed.new.control reply.answer c.if-closed.false (c.requires.fine c.if-closed.false) h)
    c.answer_allowed.ensures.reply

pub returns-clause-fine : goal.returns-clause-fine
returns-clause-fine g c = ok_more c.answer_allowed.result _ _ (λ reply h unshut. h.keeps.failed ∙ c.requires.fine c.if-closed.false) c.answer_allowed.ensures.reply

pub returns-then-not-is_allowed-clause-refused : goal.returns-then-not-is_allowed-clause-refused
returns-then-not-is_allowed-clause-refused g c = λ is allowed. not_so c.is_allowed.result c.if-not-is_allowed.true (c.is_allowed.ensures.1 allowed)

pub returns-clause-refused : goal.returns-clause-refused
returns-clause-refused g c = ok_more c.answer_allowed.result _ _ (λ reply h is. absurd (open_unrefused c.args.schema.now c.args.op.now reply.answer h is)) c.answer_allowed.ensures.own

pub returns-then-closed-clause-fits : goal.returns-then-closed-clause-fits
returns-then-closed-clause-fits g c = not_end c.args.op.now c.requires.other

pub returns-clause-fits : goal.returns-clause-fits
returns-clause-fits g c = ok_more c.answer_allowed.result _ _ (λ reply h. open_fits c.args.schema.now c.args.op.now reply.answer h) c.answer_allowed.ensures.own

pub returns-clause-shut : goal.returns-clause-shut
returns-clause-shut g c = ok_more c.answer_allowed.result _ _ (λ reply h is. absurd (open_unclosed c.args.schema.now c.args.op.now reply.answer h is)) c.answer_allowed.ensures.own

pub returns-then-not-is_allowed-clause-durable : goal.returns-then-not-is_allowed-clause-durable
returns-then-not-is_allowed-clause-durable g c =
    λ f contents trace represents shut h. grows_quietly (g.R.RowStore.state c.args.rows.now) (g.R.RowStore.left c.args.rows.now) (g.R.RowStore.times c.args.rows.now) f contents trace c.args.client c.args.op.now _ refl h

pub returns-then-closed-clause-durable : goal.returns-then-closed-clause-durable
returns-then-closed-clause-durable g c =
    λ f contents trace represents shut h. grows_quietly (g.R.RowStore.state c.args.rows.now) (g.R.RowStore.left c.args.rows.now) (g.R.RowStore.times c.args.rows.now) f contents trace c.args.client c.args.op.now _ refl h

pub returns-clause-durable : goal.returns-clause-durable
returns-clause-durable g c =
    λ f contents trace represents shut h. c.answer_allowed.ensures.durable f contents trace represents (sym shut ∙ c.if-closed.false) h

pub returns-clause-met : goal.returns-clause-met
returns-clause-met g c = ok_more c.answer_allowed.result _ _ (λ reply h. open_met c.args.schema.now c.args.op.now reply.answer h) c.answer_allowed.ensures.own
