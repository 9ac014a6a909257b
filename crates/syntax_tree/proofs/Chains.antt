-- The expressions whose operands are in a Vec, in terms of the list in the Vec.
use Rattle.std.proofs.Common.{◌≡◌, List, [], ◌∷◌, refl, ap, ◌∙◌, rules}
use Rattle.std.specs.Prelude.{Vec, Box}
use Rattle.std.specs.declared.alloc.Global.{Global}
use mathlib.Core.Former.{Count, none_left, one_more}
use Rattle.abl_base.specs.declared.place.Place.{Place}
use Rattle.syntax_tree.specs.declared.word.Function.{Function}
use Rattle.syntax_tree.specs.declared.expression.Operator.{Operator}
use Rattle.syntax_tree.specs.declared.expression.Operator.TheVariants as op
use Rattle.syntax_tree.specs.declared.expression.Link.{Link as TypedLink}
use Rattle.syntax_tree.specs.declared.expression.Expression.{Expression as TypedExpression, Row_of-Link, end_of-Link, more_of-Link, items-the_row-Link, Row_of-Expression, end_of-Expression, more_of-Expression, items-the_row-Expression}
use Rattle.syntax_tree.specs.declared.expression.Expression.TheViews as view
use Rattle.syntax_tree.specs.declared.expression.Expression.TheViews.{the_lemmas}
use Rattle.syntax_tree.specs.Syntax.{Expression, More, Call, starts_at}
use Rattle.syntax_tree.specs.Typed.{expression_of, joined, linked_row, linked_of, arguments_row, arguments_of}

links_row_is : (n : Count) (k : Row_of-Link n) (a : Expression) → linked_row k a ≡ linked_of (items-the_row-Link n k) a
links_row_is none_left end_of-Link a = refl
links_row_is (one_more n) (more_of-Link o at b rest) a = links_row_is n rest (joined o at a (expression_of b))

arguments_row_is : (n : Count) (k : Row_of-Expression n) → arguments_row k ≡ arguments_of (items-the_row-Expression n k)
arguments_row_is none_left end_of-Expression = refl
arguments_row_is (one_more n) (more_of-Expression a rest) = ap (λ as_. More (expression_of a) as_) (arguments_row_is n rest)

pub chain_is : (first : Box TypedExpression Global) (v : Vec TypedLink Global) → expression_of (view.Chain first v) ≡ linked_of v.items (expression_of first.value)
chain_is first v = search (rules, the_lemmas, links_row_is)

pub call_is : (f : Function) (at : Place) (v : Vec TypedExpression Global) → expression_of (view.Call f at v) ≡ Call f at (arguments_of v.items)
call_is f at v = search (rules, the_lemmas, arguments_row_is)

pub joined_starts : (o : Operator) (at : Place) (a b : Expression) → starts_at (joined o at a b) ≡ starts_at a
joined_starts (op.Two o) at a b = refl
joined_starts op.And at a b = refl
joined_starts op.Or at a b = refl

pub linked_starts : (ls : List TypedLink) (a : Expression) → starts_at (linked_of ls a) ≡ starts_at a
linked_starts [] a = refl
linked_starts (l ∷ ls) a = linked_starts ls (joined l.operator l.at a (expression_of l.operand)) ∙ joined_starts l.operator l.at a (expression_of l.operand)

pub chain_starts : (first : Box TypedExpression Global) (v : Vec TypedLink Global) → starts_at (expression_of (view.Chain first v)) ≡ starts_at (expression_of first.value)
chain_starts first v = ap starts_at (chain_is first v) ∙ linked_starts v.items (expression_of first.value)
