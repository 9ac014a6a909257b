use Rattle.std.proofs.Common.{rules, ◌≡◌, length, sym, ap, ◌∙◌, subst}
use Rattle.std.specs.Slice.Iter.{iter_rest}
use Rattle.std.specs.Iterator.Adapters.{zip_first, zip_second}
use Rattle.std.proofs.lemmas.Slice.Zip.{zip_turn, zip_end}
use Rattle.block_meaning.specs.Values.{GivesAll}
use Rattle.client_values.specs.Variables.{state_with}
use Rattle.client_calls.proofs.Passed.{before_them, values_from, value_more, value_fails, values_end, one_longer}
use Rattle.client_calls.proofs.arguments.argument_values.Goals as goal

pub loop-argument-init : goal.loop-argument-init
loop-argument-init c = (
  (tt, tt),
  tt,
  λ p rest ns reads.
      ap (λ vs. before_them vs (values_from p c.args.arguments.now c.args.parameters.now c.args.status.now.retry (state_with rest ns c.args.memory.now) 0)) (sym c.new-values.ensures.items),
)

pub loop-argument-preserved : goal.loop-argument-preserved
loop-argument-preserved c =
    let as' = c.args.arguments.now in
    let xs = c.args.parameters.now in
    let i = length c.loop-argument.yielded in
    let first : iter_rest (zip_first c.into_iter-argument-iterator.result) ≡ as' = ap (λ z. iter_rest (zip_first z)) c.into_iter-argument-iterator.ensures.into_iter_gives ∙ ap iter_rest c.zip-argument-items.ensures.first ∙ c.iter.ensures.rest in
    let second : iter_rest (zip_second c.into_iter-argument-iterator.result) ≡ xs = ap (λ z. iter_rest (zip_second z)) c.into_iter-argument-iterator.ensures.into_iter_gives ∙ c.zip-argument-items.ensures.second.0 in
    let t = zip_turn as' xs c.loop-argument.yielded c.into_iter-argument-iterator.result c.loop-argument.argument-iterator c.next.new.self c.next.result first second c.loop-argument.yielded_by (c.in-Some.argument, c.in-Some.parameter) c.in-Some.is c.next.ensures.steps in (
      (tt, tt),
      tt,
      λ p rest ns reads.
          let s = state_with rest ns c.args.memory.now in
          subst (λ j. values_from p as' xs c.args.status.now.retry s 0 ≡ before_them c.push_reserved.new.self.items (values_from p as' xs c.args.status.now.retry s j)) (sym (one_longer c.loop-argument.yielded (c.in-Some.argument, c.in-Some.parameter)))
          (value_more p as' xs c.args.status.now.retry s i c.in-Some.argument.now c.in-Some.parameter.now c.loop-argument.values.items c.push_reserved.new.self.items c.in_ok-value.value (values_from p as' xs c.args.status.now.retry s 0) t.0 t.1 (t.2 c.in-Some.argument.now) (t.3 c.in-Some.parameter.now)
          (search (rules, c.push_reserved.ensures.items, c.reserve.ensures.items)) (c.loop-argument.invariant.2 p rest ns reads) (c.in_ok-value.ensures p rest ns reads)),
    )

pub returns-in_err-value : goal.returns-in_err-value
returns-in_err-value c =
    let as' = c.args.arguments.now in
    let xs = c.args.parameters.now in
    let i = length c.loop-argument.yielded in
    let first : iter_rest (zip_first c.into_iter-argument-iterator.result) ≡ as' = ap (λ z. iter_rest (zip_first z)) c.into_iter-argument-iterator.ensures.into_iter_gives ∙ ap iter_rest c.zip-argument-items.ensures.first ∙ c.iter.ensures.rest in
    let second : iter_rest (zip_second c.into_iter-argument-iterator.result) ≡ xs = ap (λ z. iter_rest (zip_second z)) c.into_iter-argument-iterator.ensures.into_iter_gives ∙ c.zip-argument-items.ensures.second.0 in
    let t = zip_turn as' xs c.loop-argument.yielded c.into_iter-argument-iterator.result c.loop-argument.argument-iterator c.next.new.self c.next.result first second c.loop-argument.yielded_by (c.in-Some.argument, c.in-Some.parameter) c.in-Some.is c.next.ensures.steps in
    λ p rest ns reads.
    let s = state_with rest ns c.args.memory.now in
    value_fails p as' xs c.args.status.now.retry s i c.in-Some.argument.now c.in-Some.parameter.now c.loop-argument.values.items (values_from p as' xs c.args.status.now.retry s 0) c.from_residual.result c.in_err-value.field-0.0 (search rules) t.0 t.1 (t.2 c.in-Some.argument.now) (t.3 c.in-Some.parameter.now)
    (c.loop-argument.invariant.2 p rest ns reads) (c.in_err-value.ensures p rest ns reads)

pub returns : goal.returns
returns c =
    let as' = c.args.arguments.now in
    let xs = c.args.parameters.now in
    let i = length c.loop-argument.yielded in
    let first : iter_rest (zip_first c.into_iter-argument-iterator.result) ≡ as' = ap (λ z. iter_rest (zip_first z)) c.into_iter-argument-iterator.ensures.into_iter_gives ∙ ap iter_rest c.zip-argument-items.ensures.first ∙ c.iter.ensures.rest in
    let second : iter_rest (zip_second c.into_iter-argument-iterator.result) ≡ xs = ap (λ z. iter_rest (zip_second z)) c.into_iter-argument-iterator.ensures.into_iter_gives ∙ c.zip-argument-items.ensures.second.0 in
    let e = zip_end as' xs c.loop-argument.yielded c.into_iter-argument-iterator.result c.loop-argument.argument-iterator c.next.new.self c.next.result first second c.loop-argument.yielded_by c.in-None.is c.next.ensures.steps in
    λ p rest ns reads.
    let s = state_with rest ns c.args.memory.now in
    values_end p as' xs c.args.status.now.retry s i c.loop-argument.values.items (values_from p as' xs c.args.status.now.retry s 0) e (c.loop-argument.invariant.2 p rest ns reads) ∙ ap GivesAll (sym c.from_vec.ensures)
