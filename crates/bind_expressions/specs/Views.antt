-- How the contracts see the values of the program.
use Rattle.std.specs.Prelude.{◌≡◌, ◌&&◌, ℕ, Bool, if◌then◌else◌, List, Option, length, nat_le, slice_get}
use Rattle.std.specs.Option.{is_some}
use Rattle.abl_base.specs.declared.place.Place.{Place}
use Rattle.abl_base.specs.declared.rule.Rule.TheVariants.{Y4, Y7}
use Rattle.bound_tree.specs.declared.expression.Operator.{Operator as BoundOperator}
use Rattle.bound_tree.specs.declared.expression.Operator.TheVariants as bound
use Rattle.bound_tree.specs.Bound.{expr_of, maybe_expr_of}
use Rattle.bound_tree.specs.Tree.{Expr, IsAvailable, IsLocked}
use Rattle.syntax_tree.specs.declared.expression.Operator.{Operator}
use Rattle.syntax_tree.specs.declared.expression.Operator.TheVariants as operator
use Rattle.syntax_tree.specs.declared.name.Word.{Word}
use Rattle.syntax_tree.specs.declared.word.Function.{Function}
use Rattle.bind_names.specs.declared.notes.Notes.{Notes}
use Rattle.bind_expressions.specs.declared.typed.Typed.{Typed as TypedExpr}
use Rattle.bind_names.specs.declared.sort.Sort.{Sort}
use Rattle.bind_names.specs.declared.sort.Sort.TheVariants.{Broken, Of}
use Rattle.bind_names.specs.declared.violation.Violation.{Violation}
use Rattle.bind_names.specs.Judged.{fine, first_of, unless}
use Rattle.bind_names.specs.Sorts.{both_logical, branch_sort, fewest, kind_of_function, most, result_sort}
use Rattle.bind_expressions.specs.declared.arguments.Arguments.{Arguments}
use Rattle.bind_expressions.specs.declared.named.BufferTest.{BufferTest}
use Rattle.bind_expressions.specs.declared.named.BufferTest.TheVariants as buffer_test
use Rattle.bind_expressions.specs.Expressions.{Typed, typed, call, if_expr, text}

-- a bound expression with its sort
abbrev pub typed_of : TypedExpr → Typed
typed_of x = typed (expr_of x.expr) x.sort

-- a part is built from another one, where it breaks these rules and names no buffer
pub record IsMade {A B : Type 0} (build : A → B) (more : A → List Violation) (x : A) (r : B) (old new : Notes) : Type 0 where
  pub is : r ≡ build x
  pub first : new.first ≡ first_of old.first (more x)
  pub names : new.names ≡ old.names

-- an operand under its operator, and the rule that it breaks where it does not pass the test
abbrev pub signed : (Expr → Expr) → (Sort → Bool) → (Sort → Sort) → Typed → Typed
signed build test sorts x = typed (build x.expr) (if test x.sort then sorts x.sort else Broken)

abbrev pub IsSigned : (Expr → Expr) → (Sort → Bool) → (Sort → Sort) → Place → Typed → Typed → Notes → Notes → Type 0
IsSigned build test sorts place x r old new = IsMade (signed build test sorts) (λ x. unless (test x.sort) Y4 place) x r old new

-- `+` keeps the sort
abbrev pub same_sort : Sort → Sort
same_sort s = s

-- the operator of a bound chain
abbrev pub bound_operator : Operator → BoundOperator
bound_operator (operator.Two two) = bound.Binary two
bound_operator operator.And = bound.And
bound_operator operator.Or = bound.Or

-- the sort that an operator makes of those of its operands
abbrev pub operator_sort : Operator → Sort → Sort → Option Sort
operator_sort (operator.Two two) = result_sort two
operator_sort operator.And = both_logical
operator_sort operator.Or = both_logical

-- what IF makes of its condition and its branches
pub record IsChosen (place : Place) (x y z r : Typed) (old new : Notes) : Type 0 where
  pub is : r ≡ if_expr x y z (branch_sort y.sort z.sort)
  pub first : new.first ≡ first_of old.first (unless (is_some (branch_sort y.sort z.sort)) Y4 place)
  pub names : new.names ≡ old.names

-- AVAILABLE or LOCKED
abbrev pub test_expr : BufferTest → ℕ → Expr
test_expr buffer_test.Available = IsAvailable
test_expr buffer_test.Locked = IsLocked

-- STRING of a value, and the rule that it breaks
abbrev pub text_of : Option Word → Typed → Typed
text_of mask x = (text mask (fine x)).is

abbrev pub text_breaks : Option Word → Typed → List Violation
text_breaks mask x = (text mask (fine x)).breaks

-- the arguments are these
pub record IsHolding (a : Arguments) (es : List Expr) : Type 0 where
  pub first : maybe_expr_of a.first ≡ slice_get es 0
  pub second : maybe_expr_of a.second ≡ slice_get es 1
  pub third : maybe_expr_of a.third ≡ slice_get es 2
  pub count : a.count ≡ length es

-- what a function is of these arguments, where each of them is good or not: the result of it, and the rule that it breaks
pub record IsCalled (x : Function) (place : Place) (good : Bool) (es : List Expr) (r : Typed) (old new : Notes) : Type 0 where
  pub is : r ≡ typed (call x es) (if good && (nat_le (fewest x) (length es) && nat_le (length es) (most x)) then Of (kind_of_function x) else Broken)
  pub first : new.first ≡ first_of old.first (unless (nat_le (fewest x) (length es)) Y7 place)
  pub names : new.names ≡ old.names
