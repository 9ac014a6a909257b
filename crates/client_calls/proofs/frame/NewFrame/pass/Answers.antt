use Rattle.std.proofs.Common.{◌≡◌, length, true, false, sym, ap, ◌∙◌, subst, refl}
use Rattle.std.specs.Slice.Iter.{iter_rest}
use Rattle.std.specs.Iterator.Adapters.{zip_first, zip_second}
use Rattle.std.proofs.lemmas.Slice.Zip.{zip_turn, zip_end}
use Rattle.std.specs.Vec.Iter.{into_iter_items}
use Rattle.client_calls.specs.Calls.{frame_with}
use Rattle.client_calls.proofs.Passed.{params_from, param_more, params_end, one_longer}
use Rattle.client_calls.proofs.frame.NewFrame.pass.Goals as goal

pub loop-argument-preserved-then-is_passed : goal.loop-argument-preserved-then-is_passed
loop-argument-preserved-then-is_passed c =
    let as' = c.args.arguments.now in
    let xs = c.args.parameters.now in
    let i = length c.loop-argument.yielded in
    let first : iter_rest (zip_first c.into_iter-argument-iterator.result) ≡ as' = ap (λ z. iter_rest (zip_first z)) c.into_iter-argument-iterator.ensures.into_iter_gives ∙ ap iter_rest c.zip-argument-items.ensures.first ∙ c.iter.ensures.rest in
    let second : iter_rest (zip_second c.into_iter-argument-iterator.result) ≡ xs = ap (λ z. iter_rest (zip_second z)) c.into_iter-argument-iterator.ensures.into_iter_gives ∙ c.zip-argument-items.ensures.second.0 in
    let t = zip_turn as' xs c.loop-argument.yielded c.into_iter-argument-iterator.result c.loop-argument.argument-iterator c.next.new.self c.next.result first second c.loop-argument.yielded_by (c.in-Some.argument, c.in-Some.parameter) c.in-Some.is c.next.ensures.steps in (
      (tt, tt),
      tt,
      λ n bs.
          let f = frame_with n c.loop-argument.self.undoable c.loop-argument.self.no_undo bs in
          let all = params_from as' xs 0 c.args.values (frame_with n c.args.self.now.undoable c.args.self.now.no_undo bs) in
          subst (λ j. all ≡ params_from as' xs j (into_iter_items c.next-in-loop-argument.new.self) (frame_with n c.set.new.self.undoable c.set.new.self.no_undo bs)) (sym (one_longer c.loop-argument.yielded (c.in-Some.argument, c.in-Some.parameter)))
          (param_more as' xs i c.in-Some.argument.now c.in-Some.parameter.now c.in-Some-next.value (into_iter_items c.loop-argument.values) (into_iter_items c.next-in-loop-argument.new.self) true f (frame_with n c.set.new.self.undoable c.set.new.self.no_undo bs) all t.0 t.1 (t.2 c.in-Some.argument.now) (t.3 c.in-Some.parameter.now) c.in-Some-next.ensures.items
          (sym c.if-is_passed.true ∙ c.is_passed.ensures) (c.set.ensures n bs) (c.loop-argument.invariant.2 n bs)),
    )

pub loop-argument-preserved-else-is_passed : goal.loop-argument-preserved-else-is_passed
loop-argument-preserved-else-is_passed c =
    let as' = c.args.arguments.now in
    let xs = c.args.parameters.now in
    let i = length c.loop-argument.yielded in
    let first : iter_rest (zip_first c.into_iter-argument-iterator.result) ≡ as' = ap (λ z. iter_rest (zip_first z)) c.into_iter-argument-iterator.ensures.into_iter_gives ∙ ap iter_rest c.zip-argument-items.ensures.first ∙ c.iter.ensures.rest in
    let second : iter_rest (zip_second c.into_iter-argument-iterator.result) ≡ xs = ap (λ z. iter_rest (zip_second z)) c.into_iter-argument-iterator.ensures.into_iter_gives ∙ c.zip-argument-items.ensures.second.0 in
    let t = zip_turn as' xs c.loop-argument.yielded c.into_iter-argument-iterator.result c.loop-argument.argument-iterator c.next.new.self c.next.result first second c.loop-argument.yielded_by (c.in-Some.argument, c.in-Some.parameter) c.in-Some.is c.next.ensures.steps in (
      (tt, tt),
      tt,
      λ n bs.
          let f = frame_with n c.loop-argument.self.undoable c.loop-argument.self.no_undo bs in
          let all = params_from as' xs 0 c.args.values (frame_with n c.args.self.now.undoable c.args.self.now.no_undo bs) in
          subst (λ j. all ≡ params_from as' xs j (into_iter_items c.next-in-loop-argument.new.self) (frame_with n c.loop-argument.self.undoable c.loop-argument.self.no_undo bs)) (sym (one_longer c.loop-argument.yielded (c.in-Some.argument, c.in-Some.parameter)))
          (param_more as' xs i c.in-Some.argument.now c.in-Some.parameter.now c.in-Some-next.value (into_iter_items c.loop-argument.values) (into_iter_items c.next-in-loop-argument.new.self) false f (frame_with n c.loop-argument.self.undoable c.loop-argument.self.no_undo bs) all t.0 t.1 (t.2 c.in-Some.argument.now) (t.3 c.in-Some.parameter.now) c.in-Some-next.ensures.items
          (sym c.if-is_passed.false ∙ c.is_passed.ensures) refl (c.loop-argument.invariant.2 n bs)),
    )

pub loop-argument-preserved : goal.loop-argument-preserved
loop-argument-preserved c =
    let as' = c.args.arguments.now in
    let xs = c.args.parameters.now in
    let i = length c.loop-argument.yielded in
    let first : iter_rest (zip_first c.into_iter-argument-iterator.result) ≡ as' = ap (λ z. iter_rest (zip_first z)) c.into_iter-argument-iterator.ensures.into_iter_gives ∙ ap iter_rest c.zip-argument-items.ensures.first ∙ c.iter.ensures.rest in
    let second : iter_rest (zip_second c.into_iter-argument-iterator.result) ≡ xs = ap (λ z. iter_rest (zip_second z)) c.into_iter-argument-iterator.ensures.into_iter_gives ∙ c.zip-argument-items.ensures.second.0 in
    let t = zip_turn as' xs c.loop-argument.yielded c.into_iter-argument-iterator.result c.loop-argument.argument-iterator c.next.new.self c.next.result first second c.loop-argument.yielded_by (c.in-Some.argument, c.in-Some.parameter) c.in-Some.is c.next.ensures.steps in (
      (tt, tt),
      tt,
      λ n bs.
          let f = frame_with n c.loop-argument.self.undoable c.loop-argument.self.no_undo bs in
          let all = params_from as' xs 0 c.args.values (frame_with n c.args.self.now.undoable c.args.self.now.no_undo bs) in
          subst (λ j. all ≡ params_from as' xs j (into_iter_items c.next-in-loop-argument.new.self) (frame_with n c.loop-argument.self.undoable c.loop-argument.self.no_undo bs)) (sym (one_longer c.loop-argument.yielded (c.in-Some.argument, c.in-Some.parameter)))
          (param_more as' xs i c.in-Some.argument.now c.in-Some.parameter.now c.in-Some-next.value (into_iter_items c.loop-argument.values) (into_iter_items c.next-in-loop-argument.new.self) false f (frame_with n c.loop-argument.self.undoable c.loop-argument.self.no_undo bs) all t.0 t.1 (t.2 c.in-Some.argument.now) (t.3 c.in-Some.parameter.now) c.in-Some-next.ensures.items
          (sym c.if-is_passed.false ∙ c.is_passed.ensures) refl (c.loop-argument.invariant.2 n bs)),
    )

pub returns : goal.returns
returns c =
    let as' = c.args.arguments.now in
    let xs = c.args.parameters.now in
    let i = length c.loop-argument.yielded in
    let first : iter_rest (zip_first c.into_iter-argument-iterator.result) ≡ as' = ap (λ z. iter_rest (zip_first z)) c.into_iter-argument-iterator.ensures.into_iter_gives ∙ ap iter_rest c.zip-argument-items.ensures.first ∙ c.iter.ensures.rest in
    let second : iter_rest (zip_second c.into_iter-argument-iterator.result) ≡ xs = ap (λ z. iter_rest (zip_second z)) c.into_iter-argument-iterator.ensures.into_iter_gives ∙ c.zip-argument-items.ensures.second.0 in
    let e = zip_end as' xs c.loop-argument.yielded c.into_iter-argument-iterator.result c.loop-argument.argument-iterator c.next.new.self c.next.result first second c.loop-argument.yielded_by c.in-None.is c.next.ensures.steps in
    λ n bs. sym (params_end as' xs i (into_iter_items c.loop-argument.values) (frame_with n c.loop-argument.self.undoable c.loop-argument.self.no_undo bs) (params_from as' xs 0 c.args.values (frame_with n c.args.self.now.undoable c.args.self.now.no_undo bs)) e (c.loop-argument.invariant.2 n bs))
