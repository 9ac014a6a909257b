-- A chain, as its links are a Vec.
use Rattle.std.proofs.Common.{◌≡◌, List, [], ◌∷◌, ◌++◌, refl, rules}
use Rattle.std.specs.Prelude.{Vec, Box}
use Rattle.std.specs.declared.alloc.Global.{Global}
use mathlib.Core.Former.{Count, none_left, one_more}
use Rattle.bound_tree.specs.declared.expression.Link.{Link}
use Rattle.bound_tree.specs.declared.expression.Expr.{Expr as SourceExpr, Row_of-Link, end_of-Link, more_of-Link, items-the_row-Link}
use Rattle.bound_tree.specs.declared.expression.Expr.TheViews as view
use Rattle.bound_tree.specs.declared.expression.Expr.TheViews.{the_lemmas}
use Rattle.bound_tree.specs.Tree.{Expr}
use Rattle.bound_tree.specs.Bound.{expr_of, joined, chained, chain_of}

-- the links of a chain are the list that its Vec has
pub chain_is : (n : Count) (row : Row_of-Link n) (a : Expr) → chained a row ≡ chain_of a (items-the_row-Link n row)
chain_is none_left end_of-Link a = refl
chain_is (one_more n) (more_of-Link operator b rest) a = chain_is n rest (joined operator a (expr_of b))

-- the expression that a chain is
pub chain_expr : (first : Box SourceExpr Global) (rest : Vec Link Global) → expr_of (view.Chain first rest) ≡ chain_of (expr_of first.value) rest.items
chain_expr first rest = search (rules, the_lemmas, chain_is)

-- a chain with one more link
pub chain_of-snoc : (a : Expr) (xs : List Link) (x : Link) → chain_of a (xs ++ x ∷ []) ≡ joined x.operator (chain_of a xs) (expr_of x.operand)
chain_of-snoc a [] x = refl
chain_of-snoc a (y ∷ ys) x = chain_of-snoc (joined y.operator a (expr_of y.operand)) ys x
