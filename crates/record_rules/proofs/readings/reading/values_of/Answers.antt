use Rattle.std.proofs.Common.{rules, Err, ap, ◌∙◌}
use Rattle.evaluator.specs.declared.fault.EvalFault.{EvalFault}
use Rattle.bound_tree.specs.Bound.{expr_of}
use Rattle.record_rules.proofs.ReadingsLemmas.InOrder.{fails, next_fault, value_in}
use Rattle.record_rules.proofs.readings.reading.values_of.Goals as goal

pub returns-in_err-evaluate : goal.returns-in_err-evaluate
returns-in_err-evaluate g c = λ p retry s forms same.
    fails c.from_residual-in_err-evaluate.result c.in_err-evaluate.field-0.0 _ (search rules)
    (λ f is. next_fault p c.args.bracket.now c.loop-part.part-index c.part-item.result retry s c.loop-part.values.items f c.loop-part-test.true c.part-item.is (c.loop-part.invariant p retry s forms same)
    (value_in p (expr_of c.part-item.result.value) retry s _ (Err f) same (c.evaluate.ensures.fault f (c.in_err-evaluate.was ∙ ap (λ (e : EvalFault). Err e) is) p.forms forms)))
