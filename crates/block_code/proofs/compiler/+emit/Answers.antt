use Rattle.std.proofs.Common.{◌≡◌, ◌++◌, ◌∷◌, [], ◌∙◌, ap, refl, length}
use Rattle.bound_tree.specs.Tree.{Inner, Choose}
use Rattle.bound_tree.specs.Bound.{expr_of, header_of, stmt_of, body_of}
use Rattle.block_code.specs.declared.code.Instr.TheVariants as instr
use Rattle.block_code.specs.Emitted.{EmittedStmt}
use Rattle.std.specs.Iterator.Adapters.{rev_source}
use Rattle.std.specs.Vec.Iter.{into_iter_items}
use Rattle.std.proofs.lemmas.Iterator.Consumers.{YieldsList-end}
use Rattle.block_code.proofs.Grows.{emitted_none}
use Rattle.block_code.proofs.Emits.{block_is, if_is, block_emitted, if_emitted, one_more_emitted, all_emitted, from_rev_vec, if_ok, stmt_is}
use Rattle.block_code.proofs.compiler.+emit.Goals as goal

pub emit-returns-in_ok-body-in-Block : goal.emit-returns-in_ok-body-in-Block
emit-returns-in_ok-body-in-Block t c =
    let old = c.args.code.now.items in
    let mid = c.emit_body.new.code.items in
    let new = c.push.new.code.items in
    let h = c.in-Block.header in
    let v = c.in-Block.body in
    let b = c.in_ok-body-in-Block.body in
    if_ok c.push.result (length mid) (new ≡ mid ++ instr.Block h b c.args.next ∷ []) (λ place. EmittedStmt old new c.args.stmt c.args.next place) c.push.ensures
    (λ is. stmt_is old new (Inner (header_of h.value) (body_of v.items)) c.args.stmt c.args.next (length mid) (ap stmt_of c.in-Block.is ∙ block_is h v)
    (block_emitted old mid new (instr.Block h b c.args.next) (header_of h.value) (body_of v.items) b c.args.next c.in_ok-body-in-Block.ensures is refl))

pub emit-returns-in_ok-else_place-in-If : goal.emit-returns-in_ok-else_place-in-If
emit-returns-in_ok-else_place-in-If t c =
    let old = c.args.code.now.items in
    let mid = c.emit_body-in-If.new.code.items in
    let far = c.emit_body-in-If-2.new.code.items in
    let new = c.push-in-If.new.code.items in
    let e = c.in-If.test in
    let v = c.in-If.then_body in
    let w = c.in-If.else_body in
    let one = c.in_ok-then_place-in-If.then_place in
    let other = c.in_ok-else_place-in-If.else_place in
    if_ok c.push-in-If.result (length far) (new ≡ far ++ instr.If e one other ∷ []) (λ place. EmittedStmt old new c.args.stmt c.args.next place) c.push-in-If.ensures
    (λ is. stmt_is old new (Choose (expr_of e) (body_of v.items) (body_of w.items)) c.args.stmt c.args.next (length far) (ap stmt_of c.in-If.is ∙ if_is e v w)
    (if_emitted old mid far new (instr.If e one other) (expr_of e) (body_of v.items) (body_of w.items) one other c.args.next c.in_ok-then_place-in-If.ensures c.in_ok-else_place-in-If.ensures is refl))

pub emit_body-loop-stmt-init : goal.emit_body-loop-stmt-init
emit_body-loop-stmt-init t c = emitted_none c.args.code.now.items c.args.next

pub emit_body-loop-stmt-preserved : goal.emit_body-loop-stmt-preserved
emit_body-loop-stmt-preserved t c =
    one_more_emitted c.args.code.now.items c.loop-stmt.code.items c.emit.new.code.items c.loop-stmt.yielded c.in-Some.stmt c.args.next c.loop-stmt.place c.in_ok-place.place c.loop-stmt.invariant c.in_ok-place.ensures

pub emit_body-returns : goal.emit_body-returns
emit_body-returns t c =
    let all = from_rev_vec {s = c.into_iter-stmt-iterator.result} c.args.body.items (ap (λ s. into_iter_items (rev_source s)) c.into_iter-stmt-iterator.ensures.into_iter_gives ∙ ap into_iter_items c.rev-stmt-items.ensures.source ∙ c.into_iter.ensures.rest) in
    let e = YieldsList-end all c.loop-stmt.yielded c.loop-stmt.stmt-iterator c.loop-stmt.yielded_by c.next.result c.next.new.self c.in-None.is c.next.ensures.steps in
    all_emitted c.args.code.now.items c.loop-stmt.code.items c.loop-stmt.yielded c.args.body.items c.args.next c.loop-stmt.place e.0 c.loop-stmt.invariant
