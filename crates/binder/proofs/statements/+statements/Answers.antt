use Rattle.std.proofs.Common.{◌≡◌, ◌∙◌, ap, refl, arith}
use Rattle.bound_tree.specs.Bound.{body_of, header_of, stmt_of}
use Rattle.bound_tree.specs.Tree.{Stmt, Then, Nothing, Choose, Inner}
use Rattle.syntax_tree.specs.Syntax as s
use Rattle.syntax_tree.specs.Typed.{expression_of, head_of, statement_of, statements_of}
use Rattle.syntax_tree.proofs.Bodies.{if_is}
use Rattle.bind_names.specs.Names.{Scene}
use Rattle.bind_names.specs.Views.{scene_of}
use Rattle.bind_expressions.specs.Parts.{scene_after}
use Rattle.bind_expressions.specs.Views.{typed_of}
use Rattle.binder.proofs.Choices.{if_without_else, if_with_else}
use Rattle.binder.proofs.Inner.{block_after, block_bound, block_stands, put_stands}
use Rattle.binder.proofs.Onward.{all_judged, one_more_statement}
use Rattle.binder.proofs.statements.+statements.Goals as goal

pub statement-returns-in_ok-made-in-None-clause-judged : goal.statement-returns-in_ok-made-in-None-clause-judged
statement-returns-in_ok-made-in-None-clause-judged t c =
    let is : statement_of c.args.s.now ≡ s.Choose (expression_of c.deref-in-If.result.now) (statement_of c.deref-in-If-2.result.now) s.Nothing =
    rw (c.in-If.is, if_is c.in-If.test c.in-If.then_it c.in-If.else_it, c.in-None.is, c.deref-in-If.ensures, c.deref-in-If-2.ensures) refl in
    let body : body_of c.in_ok-made-in-None.made.items ≡ Then (Choose (typed_of c.in_ok-x-in-If.x).expr (body_of c.in_ok-then_body-in-If.then_body.items) Nothing) Nothing =
    c.in_ok-made-in-None.ensures ∙ ap (λ (r : Stmt). Then r Nothing) (c.chooses.ensures ∙ rw c.new.ensures.items refl) in
    if_without_else (scene_of c.args.scene.now) (scene_of c.statement.new.scene) _ _ _ is (typed_of c.in_ok-x-in-If.x) (body_of c.in_ok-then_body-in-If.then_body.items) _ c.args.notes.now _ _
    c.in_ok-x-in-If.ensures c.in_ok-then_body-in-If.ensures.judged body

pub statement-returns-in_ok-made-in-Some-clause-judged : goal.statement-returns-in_ok-made-in-Some-clause-judged
statement-returns-in_ok-made-in-Some-clause-judged t c =
    let is : statement_of c.args.s.now ≡ s.Choose (expression_of c.deref-in-If.result.now) (statement_of c.deref-in-If-2.result.now) (s.Then (statement_of c.deref-in-Some.result.now) s.Nothing) =
    rw (c.in-If.is, if_is c.in-If.test c.in-If.then_it c.in-If.else_it, c.in-Some.is, c.deref-in-If.ensures, c.deref-in-If-2.ensures, c.deref-in-Some.ensures) refl in
    let body : body_of c.in_ok-made-in-Some.made.items ≡ Then (Choose (typed_of c.in_ok-x-in-If.x).expr (body_of c.in_ok-then_body-in-If.then_body.items) (body_of c.in_ok-else_body-in-Some.else_body.items)) Nothing =
    c.in_ok-made-in-Some.ensures ∙ ap (λ (r : Stmt). Then r Nothing) c.chooses-in-Some.ensures in
    if_with_else (scene_of c.args.scene.now) (scene_of c.statement.new.scene) (scene_of c.statement-in-Some.new.scene) _ _ _ _ is c.in_ok-then_body-in-If.ensures.scene
    (typed_of c.in_ok-x-in-If.x) (body_of c.in_ok-then_body-in-If.then_body.items) (body_of c.in_ok-else_body-in-Some.else_body.items) _ c.args.notes.now _ _ _
    c.in_ok-x-in-If.ensures c.in_ok-then_body-in-If.ensures.judged c.in_ok-else_body-in-Some.ensures.judged body

pub body-loop-one-preserved : goal.body-loop-one-preserved
body-loop-one-preserved t c = record {
  place = c.in_ok-made.ensures.scene ∙ ap (λ (p : Scene). scene_after p c.statement.new.scene.known) c.loop-one.invariant.place;
  rest =
      one_more_statement (scene_of c.args.scene.now) c.args.all.now c.loop-one.one-index c.one-item.result (scene_of c.loop-one.scene) (scene_of c.statement.new.scene) c.loop-one.bound.items c.in_ok-made.made.items _ c.args.notes.now c.loop-one.notes c.statement.new.notes
      (omega arith) c.one-item.is c.in_ok-made.ensures.judged c.in_ok-made.ensures.scene c.in_ok-join.ensures c.loop-one.invariant.rest;
}

pub body-returns-clause-judged : goal.body-returns-clause-judged
body-returns-clause-judged t c =
    all_judged (scene_of c.args.scene.now) c.args.all.now c.loop-one.one-index (scene_of c.loop-one.scene) (body_of c.loop-one.bound.items) c.args.notes.now c.loop-one.notes (omega arith) c.loop-one.invariant.rest

pub block-returns-clause-judged : goal.block-returns-clause-judged
block-returns-clause-judged t c =
    let made : body_of c.in_ok-made.made.items ≡ Then (Inner (header_of c.in_ok-header.header.value) (body_of c.in_ok-bound.bound.items)) Nothing =
    c.in_ok-made.ensures ∙ ap (λ (r : Stmt). Then r Nothing) c.inner.ensures in
    block_bound (scene_of c.args.scene.now) (scene_of c.enter.new.scene) (scene_of c.body.new.scene) (head_of c.args.given.now) (statements_of c.args.all.now) (header_of c.in_ok-header.header.value) (body_of c.in_ok-bound.bound.items) (body_of c.in_ok-made.made.items)
    c.step_out.new.scene.known c.args.notes.now c.head.new.notes c.body.new.notes c.in_ok-enter.ensures c.in_ok-header.ensures c.in_ok-bound.ensures.judged c.step_out.ensures.known made

pub block-returns-clause-scene : goal.block-returns-clause-scene
block-returns-clause-scene t c =
    block_after (scene_of c.args.scene.now) (scene_of c.enter.new.scene) (scene_of c.body.new.scene) (scene_of c.step_out.new.scene) (head_of c.args.given.now) c.step_out.new.scene.known
    c.in_ok-enter.ensures c.in_ok-bound.ensures.scene c.step_out.ensures.known (λ e. c.step_out.ensures.scene (scene_of c.args.scene.now) (head_of c.args.given.now) e refl)

pub statement-returns-in_ok-made-in-Block-clause-judged : goal.statement-returns-in_ok-made-in-Block-clause-judged
statement-returns-in_ok-made-in-Block-clause-judged t c =
    block_stands (scene_of c.args.scene.now) c.args.s.now c.in-Block.head c.in-Block.body c.deref.result.now c.deref-in-Block.result.now c.in-Block.is c.deref.ensures c.deref-in-Block.ensures.value _ _ _ c.in_ok-made-in-Block.ensures.judged

pub statement-returns-in_ok-bound-in-Put-clause-judged : goal.statement-returns-in_ok-bound-in-Put-clause-judged
statement-returns-in_ok-bound-in-Put-clause-judged t c =
    put_stands (scene_of c.args.scene.now) c.args.s.now c.in-Put.stream c.in-Put.plain c.in-Put.items c.deref-in-Put.result.now c.in-Put.is c.deref-in-Put.ensures.value
    (stmt_of c.in_ok-made-in-Put.made) (body_of c.in_ok-bound-in-Put.bound.items) _ _ c.in_ok-made-in-Put.ensures c.in_ok-bound-in-Put.ensures
