-- The kept arguments, as a list.
use Rattle.std.proofs.Common.{◌≡◌, ◌∙◌, ap, List}
use Rattle.std.specs.Prelude.{unwrap_or}
use Rattle.std.proofs.lemmas.Option.{unwrap_or-slice_get}
use Rattle.bound_tree.specs.Bound.{maybe_expr_of}
use Rattle.bound_tree.specs.Tree.{Expr}
use Rattle.bind_expressions.specs.declared.arguments.Arguments.{Arguments}
use Rattle.bind_expressions.specs.Expressions.{nth}
use Rattle.bind_expressions.specs.Views.{IsHolding}

pub first_or : (a : Arguments) (es : List Expr) (d : Expr) → IsHolding a es → unwrap_or (maybe_expr_of a.first) d ≡ nth es 0 d
first_or a es d h = ap (λ x. unwrap_or x d) h.first ∙ unwrap_or-slice_get es 0 d

pub second_or : (a : Arguments) (es : List Expr) (d : Expr) → IsHolding a es → unwrap_or (maybe_expr_of a.second) d ≡ nth es 1 d
second_or a es d h = ap (λ x. unwrap_or x d) h.second ∙ unwrap_or-slice_get es 1 d
