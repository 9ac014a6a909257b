-- The values so far with those of the elements to come stay the line's.
use Rattle.std.proofs.Common.{◌+◌, ◌<◌, List, length, drop, Option, sym, ap, ◌∙◌, arith}
use Rattle.abl_base.specs.declared.value.Value.{Value}
use Rattle.value_formats.specs.Imports.{values_from}
use Rattle.value_formats.proofs.Taken.{with_front, good_more, missing_more}
use Rattle.value_formats.proofs.import.values.Goals as goal
use Rattle.value_formats.proofs.import.values.Goals.{then-i-elements+in_ok-value+in-Some+in_ok-push-in-Some, else-i-elements+in_ok-push}

pub loop-i-preserved : goal.loop-i-preserved
loop-i-preserved c =
    let i = c.loop-i.i in let ks = c.args.kinds.now in let es = c.args.elements.now in let vs = c.loop-i.values.items in
    let to_come = λ (xs : List (Option Value)). with_front xs (values_from (i + 1 + 1) (drop (i + 1) ks) (drop (i + 1) es)) in
    let here : i < length ks = omega arith in
    elim c.if-i-elements.branch [
      | then-i-elements+in_ok-value+in-Some+in_ok-push-in-Some w ↦
          ap to_come (ap (λ v. v.items) w.values-is ∙ w.in_ok-push-in-Some.ensures.items)
          ∙ good_more vs w.in-Some.value i ks es w.index-elements-i.result here w.if-i-elements.true w.index-elements-i.is (sym w.in_ok-value.ensures ∙ w.in-Some.is)
          ∙ c.loop-i.invariant
      | else-i-elements+in_ok-push w ↦
          ap to_come (ap (λ v. v.items) w.values-is ∙ w.in_ok-push.ensures.items)
          ∙ missing_more vs i ks es here w.if-i-elements.false
          ∙ c.loop-i.invariant
    ]
