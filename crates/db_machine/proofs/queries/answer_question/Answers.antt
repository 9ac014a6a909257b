use Rattle.db_machine.proofs.Replying.{still_reply, question_is}
use Rattle.db_machine.proofs.Rooms.{fitted_quiet}
use Rattle.std.proofs.Common.{◌≡◌, false, refl, ap, inl, inr}
use Rattle.abl_values.specs.Schema.{SchemaData}
use Rattle.database_protocol.specs.declared.operation.Op.{Op}
use Rattle.database_protocol.specs.declared.operation.Op.TheVariants.{CurrentValue, Get, Next}
use Rattle.database_protocol.specs.declared.answer.Answer.{Answer}
use Rattle.database_protocol.specs.declared.answer.Answer.TheVariants.{Committed}
use Rattle.database_meaning.specs.Fits.{IsOwnAnswer}
use Rattle.database_meaning.specs.Traces.{is_committed}
use Rattle.db_core.specs.declared.control.Control.{Control}
use Rattle.db_machine.specs.OwnAnswers.{IsOpenAnswer}
use Rattle.db_machine.specs.Replies.{AsksWhatIs}
use Rattle.db_machine.proofs.queries.answer_question.Goals as goal

pub returns-clause-reply : goal.returns-clause-reply
returns-clause-reply g c =
    let rows = g.R.RowStore.state c.args.rows.now in
    let reply = c.in_ok-reply.reply in
    still_reply rows (g.R.RowStore.state c.decide_question.new.rows) c.args.control.now c.end_request.new.control c.args.size c.args.client c.args.op.now c.in_ok-decided.decided reply.answer c.requires.some
    c.in_ok-decided.ensures.same c.end_request.ensures.counts (c.end_request.ensures.sound rows c.requires.sound)
    (λ seen f s h. c.in_ok-decided.ensures.answer f s c.args.client h seen) c.in_ok-reply.ensures.fitted
    (λ f s h. c.end_request.ensures.represents f rows s c.args.op.now reply.answer h
    (fitted_quiet c.args.size c.args.op.now c.in_ok-decided.decided reply.answer c.in_ok-reply.ensures.fitted c.in_ok-decided.ensures.quiet s c.args.client c.args.op.now)
    (inr (question_is rows.schema c.args.control.now c.args.op.now c.requires.asks)))

-- what there is is told by no Committed
told : (schema other : SchemaData) (control : Control) (op : Op) (a : Answer) → AsksWhatIs other control op → IsOwnAnswer schema op a → is_committed a ≡ false
told schema other control (Next table index prefix cursor forward) (Committed moment) asks own = absurd own
told schema other control (Get table row) (Committed moment) asks own = absurd own
told schema other control (CurrentValue sequence) (Committed moment) asks own = absurd own
told schema other control _ (Committed moment) asks own = absurd asks
told schema other control op _ asks own = refl

told_open : (schema other : SchemaData) (control : Control) (op : Op) (a : Answer) → AsksWhatIs other control op → IsOpenAnswer schema op a → is_committed a ≡ false
told_open schema other control op a asks (no_end, inl full) = ap is_committed full
told_open schema other control op a asks (no_end, inr own) = told schema other control op a asks own

pub returns-clause-uncommitted : goal.returns-clause-uncommitted
returns-clause-uncommitted g c = told_open c.args.schema.now (g.R.RowStore.state c.args.rows.now).schema c.args.control.now c.args.op.now c.in_ok-reply.reply.answer c.requires.asks c.in_ok-reply.ensures.own
