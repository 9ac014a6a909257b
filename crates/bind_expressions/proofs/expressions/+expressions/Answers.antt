use Rattle.std.proofs.Common.{arith, ap, refl, ◌∙◌}
use Rattle.bound_tree.specs.Tree.{Expr}
use Rattle.bound_tree.specs.declared.expression.Expr.{Expr as SourceExpr}
use Rattle.bound_tree.specs.Bound.{chain_of, expr_of}
use Rattle.bound_tree.proofs.Chains.{chain_expr}
use Rattle.bind_names.specs.Views.{scene_of}
use Rattle.bind_expressions.specs.Views.{typed_of}
use Rattle.bind_expressions.specs.Expressions.{typed}
use Rattle.bind_expressions.proofs.Calls.{call_begins, call_judged, one_more_argument}
use Rattle.bind_expressions.proofs.Noted.{call_stands, chain_begins, chain_judged, chain_stands, if_stands, one_more_bound}
use Rattle.bind_expressions.proofs.expressions.+expressions.Goals as goal

pub expression-returns-in_ok-made-in-If : goal.expression-returns-in_ok-made-in-If
expression-returns-in_ok-made-in-If t c =
    if_stands (scene_of c.args.scene.now) c.args.e.now _ _ _ _ _ _ _ c.deref-in-If.result.now c.deref-in-If-2.result.now c.deref-in-If-3.result.now c.in-If.is c.deref-in-If.ensures c.deref-in-If-2.ensures c.deref-in-If-3.ensures
    (typed_of c.in_ok-x-in-If.x) (typed_of c.in_ok-y-in-If.y) (typed_of c.in_ok-z-in-If.z) _ _ _ _ _ _ c.in_ok-x-in-If.ensures c.in_ok-y-in-If.ensures c.in_ok-z-in-If.ensures c.in_ok-made-in-If.ensures

pub links-loop-link-init : goal.links-loop-link-init
links-loop-link-init t c = λ a begun h. chain_begins (scene_of c.args.scene.now) a c.args.rest.now _ _ c.new-bound.result.items _ begun c.new-bound.ensures.items h

pub links-loop-link-preserved : goal.links-loop-link-preserved
links-loop-link-preserved t c = λ a begun h.
    one_more_bound (scene_of c.args.scene.now) a c.args.rest.now c.loop-link.link-index c.link-item.result (expr_of c.args.first.expr) c.loop-link.sort c.joined_sort-sort.result c.loop-link.bound.items c.push.new.self.items
    (record { operator = c.bound_operator.result; operand = c.in_ok-y.y.expr }) (typed_of c.in_ok-y.y) c.loop-link.notes c.expression.new.notes c.joined_sort-sort.new.notes begun
    (omega arith) c.link-item.is c.in_ok-y.ensures c.bound_operator.ensures refl c.in_ok-push.ensures.items c.joined_sort-sort.ensures.is c.joined_sort-sort.ensures.first c.joined_sort-sort.ensures.names (c.loop-link.invariant a begun h)

pub links-returns : goal.links-returns
links-returns t c = λ a begun h.
    chain_judged (scene_of c.args.scene.now) a c.args.rest.now c.loop-link.link-index (typed (chain_of (expr_of c.args.first.expr) c.loop-link.bound.items) c.loop-link.sort) _ c.loop-link.notes begun (omega arith)
    (ap (λ (e : Expr). typed e c.loop-link.sort) (chain_expr c.in_ok-new.field-0 c.loop-link.bound ∙ ap (λ (x : SourceExpr). chain_of (expr_of x) c.loop-link.bound.items) c.in_ok-new.ensures.ok)) (c.loop-link.invariant a begun h)

pub call-loop-e-init : goal.call-loop-e-init
call-loop-e-init t c = call_begins (scene_of c.args.scene.now) c.args.function c.args.given.now c.no_arguments-bound.result c.args.notes.now c.no_arguments-bound.ensures

pub call-loop-e-preserved : goal.call-loop-e-preserved
call-loop-e-preserved t c =
    one_more_argument (scene_of c.args.scene.now) c.args.function c.args.given.now c.loop-e.e-index c.e-item.result c.loop-e.bound c.push.new.self c.loop-e.good c.still_good-good.result c.count-number.result (typed_of c.in_ok-x.x)
    c.loop-e.notes c.expression.new.notes c.argument_fits.new.notes c.args.notes.now
    (omega arith) c.e-item.is c.in_ok-x.ensures c.count-number.ensures (rw c.starts_at.ensures at c.argument_fits.ensures.first) c.argument_fits.ensures.names c.still_good-good.ensures c.in_ok-push.ensures c.loop-e.invariant

pub call-returns : goal.call-returns
call-returns t c =
    call_judged (scene_of c.args.scene.now) c.args.function c.args.at c.args.given.now c.loop-e.e-index c.loop-e.bound c.loop-e.good (typed_of c.in_ok-made.made) c.loop-e.notes c.finished.new.notes c.args.notes.now
    (omega arith) c.in_ok-made.ensures c.loop-e.invariant

pub expression-returns-in_ok-made-in-Chain : goal.expression-returns-in_ok-made-in-Chain
expression-returns-in_ok-made-in-Chain t c =
    chain_stands (scene_of c.args.scene.now) c.args.e.now c.in-Chain.first c.in-Chain.rest c.deref-in-Chain.result.now c.deref-in-Chain-2.result.now c.in-Chain.is c.deref-in-Chain.ensures c.deref-in-Chain-2.ensures.value
    (typed_of c.in_ok-x-in-Chain.x) (typed_of c.in_ok-made-in-Chain.made) _ c.expression-in-Chain.new.notes c.links.new.notes c.in_ok-x-in-Chain.ensures c.in_ok-made-in-Chain.ensures

pub expression-returns-in_ok-made-in-Call : goal.expression-returns-in_ok-made-in-Call
expression-returns-in_ok-made-in-Call t c =
    call_stands (scene_of c.args.scene.now) c.args.e.now c.in-Call.function c.in-Call.at c.in-Call.arguments c.deref-in-Call.result.now c.in-Call.is c.deref-in-Call.ensures.value (typed_of c.in_ok-made-in-Call.made) _ c.call.new.notes c.in_ok-made-in-Call.ensures
