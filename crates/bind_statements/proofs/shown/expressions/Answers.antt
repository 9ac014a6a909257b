use Rattle.std.proofs.Common.{arith, map}
use Rattle.syntax_tree.specs.Typed.{expression_of}
use Rattle.bound_tree.specs.Bound.{expr_of}
use Rattle.bind_names.specs.Views.{scene_of}
use Rattle.bind_expressions.specs.Views.{typed_of}
use Rattle.bind_statements.specs.Views.{expr_in}
use Rattle.bind_statements.proofs.Lists.{expr_judged, list_judged, mapped_push, next_mapped, none_mapped, one_more_item}
use Rattle.bind_statements.proofs.shown.expressions.Goals as goal

pub loop-one-preserved : goal.loop-one-preserved
loop-one-preserved c =
    one_more_item (expr_in (scene_of c.args.scene.now)) (map expression_of c.args.all.now) _ _ _ (map expr_of c.loop-one.bound.items) _ (expr_of c.in_ok-x.x.expr) _ _ c.args.notes.now
    (next_mapped expression_of c.args.all.now c.loop-one.one-index c.one-item.result (omega arith) c.one-item.is)
    (expr_judged (scene_of c.args.scene.now) (expression_of c.one-item.result) (typed_of c.in_ok-x.x) _ _ c.in_ok-x.ensures)
    (mapped_push expr_of c.loop-one.bound.items _ c.in_ok-x.x.expr c.in_ok-push.ensures.items) c.loop-one.invariant

pub returns : goal.returns
returns c =
    list_judged (expr_in (scene_of c.args.scene.now)) (map expression_of c.args.all.now) _ (map expr_of c.loop-one.bound.items) _ c.args.notes.now
    (none_mapped expression_of c.args.all.now c.loop-one.one-index (omega arith)) c.loop-one.invariant
