use Rattle.std.proofs.Common.{◌≡◌, length, ◌++◌, Some, sym, ap, ◌∙◌, subst, refl}
use Rattle.std.specs.Prelude.{map}
use Rattle.std.specs.Slice.Iter.{iter_rest}
use Rattle.std.specs.Iterator.Adapters.{zip_first, zip_second}
use Rattle.std.proofs.lemmas.Slice.Zip.{zip_turn, zip_end}
use Rattle.client_calls.specs.Calls.{output_of, own_value}
use Rattle.client_calls.proofs.Passed.{outputs_from, output_more, outputs_end, output_last, one_longer}
use Rattle.client_calls.proofs.outputs.outputs.Goals as goal

pub loop-argument-preserved-in-Continue-branch-2 : goal.loop-argument-preserved-in-Continue-branch-2
loop-argument-preserved-in-Continue-branch-2 c =
    let as' = c.args.arguments.now in
    let xs = c.args.parameters.now in
    let i = length c.loop-argument.yielded in
    let m = c.args.memory.now in
    let first : iter_rest (zip_first c.into_iter-argument-iterator.result) ≡ as' = ap (λ z. iter_rest (zip_first z)) c.into_iter-argument-iterator.ensures.into_iter_gives ∙ ap iter_rest c.zip-argument-items.ensures.first ∙ c.iter.ensures.rest in
    let second : iter_rest (zip_second c.into_iter-argument-iterator.result) ≡ xs = ap (λ z. iter_rest (zip_second z)) c.into_iter-argument-iterator.ensures.into_iter_gives ∙ c.zip-argument-items.ensures.second.0 in
    let t = zip_turn as' xs c.loop-argument.yielded c.into_iter-argument-iterator.result c.loop-argument.argument-iterator c.next.new.self c.next.result first second c.loop-argument.yielded_by (c.in-Some.argument, c.in-Some.parameter) c.in-Some.is c.next.ensures.steps in
    subst (λ j. map output_of c.push.new.self.items ++ outputs_from as' xs j m ≡ outputs_from as' xs 0 m) (sym (one_longer c.loop-argument.yielded (c.in-Some.argument, c.in-Some.parameter)))
    (output_more as' xs i c.in-Some.argument.now c.in-Some.parameter.now (Some c.in-Some-getter.variable) m (map output_of c.loop-argument.outputs.items) (map output_of c.push.new.self.items) (outputs_from as' xs 0 m) t.0 t.1 (t.2 c.in-Some.argument.now) (t.3 c.in-Some.parameter.now)
    (sym c.in-Some-getter.is ∙ c.getter.ensures) (output_last c.loop-argument.outputs.items c.push.new.self.items _ c.in-Some-getter.variable (own_value c.in-Some.parameter.now m) c.in_ok-push.ensures.items refl c.in_ok-value.ensures) c.loop-argument.invariant)

pub returns : goal.returns
returns c =
    let as' = c.args.arguments.now in
    let xs = c.args.parameters.now in
    let i = length c.loop-argument.yielded in
    let first : iter_rest (zip_first c.into_iter-argument-iterator.result) ≡ as' = ap (λ z. iter_rest (zip_first z)) c.into_iter-argument-iterator.ensures.into_iter_gives ∙ ap iter_rest c.zip-argument-items.ensures.first ∙ c.iter.ensures.rest in
    let second : iter_rest (zip_second c.into_iter-argument-iterator.result) ≡ xs = ap (λ z. iter_rest (zip_second z)) c.into_iter-argument-iterator.ensures.into_iter_gives ∙ c.zip-argument-items.ensures.second.0 in
    let e = zip_end as' xs c.loop-argument.yielded c.into_iter-argument-iterator.result c.loop-argument.argument-iterator c.next.new.self c.next.result first second c.loop-argument.yielded_by c.in-None.is c.next.ensures.steps in
    outputs_end as' xs i c.args.memory.now (map output_of c.loop-argument.outputs.items) (outputs_from as' xs 0 c.args.memory.now) e c.loop-argument.invariant
