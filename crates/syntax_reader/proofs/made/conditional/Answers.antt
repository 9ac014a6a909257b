use Rattle.std.proofs.Common.{◌≡◌, ap, ◌∙◌, Some, None}
use Rattle.std.specs.Prelude.{Option, Box}
use Rattle.std.specs.declared.alloc.Global.{Global}
use Rattle.syntax_tree.specs.declared.expression.Expression.{Expression as TypedExpression}
use Rattle.syntax_tree.specs.declared.statement.Statement.{Statement as TypedStatement}
use Rattle.syntax_tree.specs.Syntax.{Choose, Nothing, Then}
use Rattle.syntax_tree.specs.Typed.{expression_of, statement_of}
use Rattle.syntax_tree.proofs.Bodies as bodies
use Rattle.syntax_reader.specs.Views.{maybe_statement_of}
use Rattle.syntax_reader.proofs.made.conditional.Goals as goal

choice_of : (test : Box TypedExpression Global) (one : Box TypedStatement Global) (other : Option (Box TypedStatement Global)) (e : TypedExpression) (t : TypedStatement) → test.value ≡ e → one.value ≡ t →
    Choose (expression_of test.value) (statement_of one.value) (bodies.maybe_statement_of other) ≡ Choose (expression_of e) (statement_of t) (maybe_statement_of other)
choice_of test one None e t is_test is_one =
    ap (λ (x : TypedExpression). Choose (expression_of x) (statement_of one.value) Nothing) is_test ∙ ap (λ (x : TypedStatement). Choose (expression_of e) (statement_of x) Nothing) is_one
choice_of test one (Some b) e t is_test is_one =
    ap (λ (x : TypedExpression). Choose (expression_of x) (statement_of one.value) (Then (statement_of b.value) Nothing)) is_test
    ∙ ap (λ (x : TypedStatement). Choose (expression_of e) (statement_of x) (Then (statement_of b.value) Nothing)) is_one

pub returns : goal.returns
returns c =
    bodies.if_is c.in_ok-test.test c.in_ok-then_it.then_it c.args.else_it ∙ choice_of c.in_ok-test.test c.in_ok-then_it.then_it c.args.else_it c.args.test c.args.one c.in_ok-test.ensures.ok c.in_ok-then_it.ensures.ok
