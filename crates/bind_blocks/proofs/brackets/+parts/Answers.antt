use Rattle.std.proofs.Common.{◌∙◌, ap, refl, sym, arith}
use Rattle.bound_tree.specs.Bound.{maybe_expr_of}
use Rattle.syntax_tree.specs.declared.expression.Expression.{Expression as TypedExpression}
use Rattle.syntax_tree.specs.Typed.{expression_of}
use Rattle.bind_names.specs.Views.{buffer_of, scene_of}
use Rattle.bind_blocks.specs.Views.{lone_name, name_in}
use Rattle.bind_blocks.proofs.Anding.{chain_says, links_say_all, one_more_says, said_with_and}
use Rattle.bind_blocks.proofs.brackets.+parts.Goals as goal

pub said_in_links-loop-link-init : goal.said_in_links-loop-link-init
said_in_links-loop-link-init t c = λ a hn hb. record { alone = hn; said = hb }

pub said_in_links-loop-link-preserved : goal.said_in_links-loop-link-preserved
said_in_links-loop-link-preserved t c = λ a hn hb.
    let h = c.loop-link.invariant a hn hb in
    one_more_says (scene_of c.args.scene.now) (buffer_of c.args.buffer) c.args.field a c.args.rest.now c.loop-link.link-index c.link-item.result _ (omega arith) c.link-item.is (c.in_ok-found.ensures _ h.alone h.said)

pub said_in_links-returns : goal.said_in_links-returns
said_in_links-returns t c = λ a hn hb.
    links_say_all (scene_of c.args.scene.now) (buffer_of c.args.buffer) c.args.field a c.args.rest.now c.loop-link.link-index _ _ (omega arith) (c.loop-link.invariant a hn hb)

pub first_said-returns-in_ok-made-in-Chain : goal.first_said-returns-in_ok-made-in-Chain
first_said-returns-in_ok-made-in-Chain t c =
    chain_says (scene_of c.args.scene.now) (buffer_of c.args.buffer) c.args.field c.args.e.now c.in-Chain.first c.in-Chain.rest c.deref.result.now c.deref-in-Chain-2.result.now c.in-Chain.is c.deref.ensures c.deref-in-Chain-2.ensures.value
    (name_in c.left_of.result) (maybe_expr_of c.in_ok-begun-in-Chain.begun) (maybe_expr_of c.in_ok-made-in-Chain.made)
    (c.left_of.ensures ∙ ap (λ (x : TypedExpression). lone_name (expression_of x)) (c.deref-in-Chain.ensures ∙ sym c.deref.ensures)) c.in_ok-begun-in-Chain.ensures c.in_ok-made-in-Chain.ensures

pub said_with-returns-in_ok-made-in-And : goal.said_with-returns-in_ok-made-in-And
said_with-returns-in_ok-made-in-And t c = λ a hn hb.
    c.in_ok-made-in-And.ensures ∙ said_with_and (scene_of c.args.scene.now) (buffer_of c.args.buffer) c.args.field c.args.link.now.operator c.args.link.now.at a (expression_of c.args.link.now.operand) (maybe_expr_of c.args.so_far) _ c.in-And.is hb refl
