use Rattle.std.proofs.lemmas.Result.{err_from_is_err_and}
use Rattle.std.proofs.Common.{sym, ◌∙◌}
use Rattle.schema_text.proofs.SchemaSoFar.{nothing_left, nothing_yet, sequence_begins}
use Rattle.schema_text.proofs.reading.schema_at.Goals as goal

pub loop-rest-init : goal.loop-rest-init
loop-rest-init c = nothing_yet c.args.text.now _ c.empty.ensures c.empty-2.ensures c.empty-3.ensures

pub returns-in_err-rest-2-clause-schema : goal.returns-in_err-rest-2-clause-schema
returns-in_err-rest-2-clause-schema c s w e =
    let begun = c.loop-rest.invariant.to_come s w e in
    let b = sequence_begins s c.loop-rest.entries c.loop-rest.rest.now (sym c.is_empty.ensures ∙ c.loop-rest-test.true) begun (sym c.begins.ensures ∙ c.if-begins.false) in
    let err = err_from_is_err_and c.from_residual-in_err-rest-2.result c.from_residual-in_err-rest-2.ensures.1 in
    rw (err.1, err.2) (c.in_err-rest-2.ensures.sequence s w b begun)

pub loop-rest-preserved : goal.loop-rest-preserved
loop-rest-preserved c = record {
  sound = c.in_ok-rest-2.ensures.sound c.loop-rest.invariant.sound;
  held = c.in_ok-rest-2.ensures.held c.loop-rest.invariant.held;
  to_come = λ s w e.
      (let begun = c.loop-rest.invariant.to_come s w e in
      let b = sequence_begins s c.loop-rest.entries c.loop-rest.rest.now (sym c.is_empty.ensures ∙ c.loop-rest-test.true) begun (sym c.begins.ensures ∙ c.if-begins.false) in
      c.in_ok-rest-2.ensures.sequence s w b begun);
}

pub returns-clause-schema : goal.returns-clause-schema
returns-clause-schema c s w e =
    c.of.ensures ∙ nothing_left s c.loop-rest.entries c.loop-rest.rest.now (sym c.is_empty.ensures ∙ c.loop-rest-test.false) (c.loop-rest.invariant.to_come s w e)
