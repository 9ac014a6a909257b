-- The statements that contain others in a Vec, in terms of the list in the Vec.
use Rattle.std.proofs.Common.{◌≡◌, refl, ap, rules}
use Rattle.std.specs.Prelude.{Vec, Box, Option, Some, None}
use Rattle.std.specs.declared.alloc.Global.{Global}
use mathlib.Core.Former.{Count, none_left, one_more}
use Rattle.syntax_tree.specs.declared.block.Head.{Head as TypedHead}
use Rattle.syntax_tree.specs.declared.expression.Expression.{Expression as TypedExpression}
use Rattle.syntax_tree.specs.declared.statement.Statement.{Statement as TypedStatement, Row_of-Statement, end_of-Statement, more_of-Statement, items-the_row-Statement}
use Rattle.syntax_tree.specs.declared.statement.Statement.TheViews as view
use Rattle.syntax_tree.specs.declared.statement.Statement.TheViews.{the_lemmas}
use Rattle.syntax_tree.specs.Syntax.{Statements, Nothing, Then, Block, Choose}
use Rattle.syntax_tree.specs.Typed.{expression_of, head_of, statement_of, statements_row, statements_of}

body_row_is : (n : Count) (k : Row_of-Statement n) → statements_row k ≡ statements_of (items-the_row-Statement n k)
body_row_is none_left end_of-Statement = refl
body_row_is (one_more n) (more_of-Statement t rest) = ap (λ b. Then (statement_of t) b) (body_row_is n rest)

pub block_is : (head : Box TypedHead Global) (v : Vec TypedStatement Global) → statement_of (view.Block head v) ≡ Block (head_of head.value) (statements_of v.items)
block_is head v = search (rules, the_lemmas, body_row_is)

-- the statement after ELSE, if there is one
abbrev pub maybe_statement_of : Option (Box TypedStatement Global) → Statements
maybe_statement_of None = Nothing
maybe_statement_of (Some t) = Then (statement_of t.value) Nothing

pub if_is : (test : Box TypedExpression Global) (then_it : Box TypedStatement Global) (else_it : Option (Box TypedStatement Global)) →
    statement_of (view.If test then_it else_it) ≡ Choose (expression_of test.value) (statement_of then_it.value) (maybe_statement_of else_it)
if_is test then_it None = search (rules, the_lemmas)
if_is test then_it (Some t) = search (rules, the_lemmas)
