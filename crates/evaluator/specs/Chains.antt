-- What a chain of operators gives, link by link.
use Rattle.std.specs.Prelude.{List, [], ◌∷◌}
use Rattle.abl_base.specs.declared.value.Value.{Value}
use Rattle.bound_tree.specs.declared.expression.Operator.{Operator}
use Rattle.bound_tree.specs.declared.expression.Operator.TheVariants as op
use Rattle.bound_tree.specs.declared.expression.Link.{Link}
use Rattle.bound_tree.specs.Bound.{expr_of}
use Rattle.expression_meaning.specs.Env.{Env}
use Rattle.expression_meaning.specs.Operators.{Given, and_then, or_else}
use Rattle.expression_meaning.specs.Evaluate.{bind, evaluate, two_of}
use Rattle.evaluator.specs.Forms.{the_forms}

-- the operator of a left value and of what its right operand gives
abbrev pub linked : Operator → Value → Given → Given
linked (op.Binary two) a other = bind other (two_of two a)
linked op.And a other = and_then a other
linked op.Or a other = or_else a other

-- the links after what those before them gave
abbrev pub chain_from : Env → Given → List Link → Given
chain_from env given [] = given
chain_from env given (x ∷ xs) =
    chain_from env (bind given (λ a. linked x.operator a (evaluate the_forms env (expr_of x.operand)))) xs
