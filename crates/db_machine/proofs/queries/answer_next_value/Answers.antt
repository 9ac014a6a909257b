use Rattle.std.proofs.lemmas.Int.{to_z-of_z}
use Rattle.std.proofs.Common.{rules, w64, ◌∙◌, sym, ap, refl, inl}
use Rattle.database_protocol.specs.declared.operation.Op.TheVariants.{NextValue}
use Rattle.database_protocol.specs.declared.answer.Answer.TheVariants.{Value as ValueAnswer}
use Rattle.abl_values.specs.Schema.{SchemaData}
use Rattle.database_meaning.specs.Setting.{increment_of}
use Rattle.db_core.proofs.WriteRows.{not_so}
use Rattle.db_machine.proofs.Replying.{after_as, from_op, still_reply}
use Rattle.db_machine.proofs.Rooms.{fitted_is, refusal_ends, refusal_fails}
use Rattle.db_machine.proofs.queries.answer_next_value.Goals as goal

pub returns-then-is_refusal-clause-reply : goal.returns-then-is_refusal-clause-reply
returns-then-is_refusal-clause-reply g c =
    let rows = g.R.RowStore.state c.args.rows.now in
    let reply = c.in_ok-reply.reply in
    let is = c.is_refusal.ensures.0 c.if-is_refusal.true in
    still_reply rows (g.R.RowStore.state c.args.rows.now) c.args.control.now c.end_request.new.control c.args.size c.args.client c.args.op.now c.decide_next_value-decided.result reply.answer c.requires.some
    refl c.end_request.ensures.counts (c.end_request.ensures.sound rows c.requires.sound)
    (λ seen f s h. from_op f s c.args.client c.args.op.now (NextValue c.args.sequence) c.decide_next_value-decided.result c.requires.op (c.decide_next_value-decided.ensures.answer f rows s c.args.client h (to_z-of_z w64 c.args.increment c.ranges.increment ∙ (c.requires.increment ∙ ap (λ (x : SchemaData). increment_of x c.args.sequence) (sym h.schema))))) c.in_ok-reply.ensures.fitted
    (λ f s h. c.end_request.ensures.represents f rows s c.args.op.now reply.answer h (refusal_ends reply.answer is s c.args.client c.args.op.now) (inl (refusal_fails reply.answer is)))

pub returns-in-Value-clause-reply : goal.returns-in-Value-clause-reply
returns-in-Value-clause-reply g c =
    let rows = g.R.RowStore.state c.args.rows.now in
    let reply = c.in_ok-reply.reply in
    let is = c.in-Value.is in
    let same = fitted_is c.args.size c.args.op.now (c.decide_next_value-decided.result) reply.answer c.in_ok-reply.ensures.fitted (λ refusal. not_so c.is_refusal.result c.if-is_refusal.false (c.is_refusal.ensures.1 refusal)) in
    still_reply rows rows c.args.control.now c.move_sequence.new.control c.args.size c.args.client c.args.op.now c.decide_next_value-decided.result reply.answer c.requires.some
    refl c.move_sequence.ensures.counts (c.move_sequence.ensures.sound rows c.requires.sound)
    (λ seen f s h. from_op f s c.args.client c.args.op.now (NextValue c.args.sequence) c.decide_next_value-decided.result c.requires.op (c.decide_next_value-decided.ensures.answer f rows s c.args.client h (to_z-of_z w64 c.args.increment c.ranges.increment ∙ (c.requires.increment ∙ ap (λ (x : SchemaData). increment_of x c.args.sequence) (sym h.schema))))) c.in_ok-reply.ensures.fitted
    (λ f s h. after_as f rows c.move_sequence.new.control s c.args.client c.args.op.now (NextValue c.args.sequence) reply.answer (ValueAnswer c.in-Value.value) c.requires.op is
    (c.move_sequence.ensures.represents f rows s (to_z-of_z w64 c.in-Value.value (search rules) ∙ c.decide_next_value-decided.ensures.value f rows s c.in-Value.value h (to_z-of_z w64 c.args.increment c.ranges.increment ∙ (c.requires.increment ∙ ap (λ (x : SchemaData). increment_of x c.args.sequence) (sym h.schema))) (sym same ∙ is)) h))
