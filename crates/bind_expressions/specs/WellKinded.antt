-- The sort of a bound expression, found from the expression alone. It is broken exactly where some operand does not fit its operator, or some
-- mask its value.
use Rattle.std.specs.Prelude.{◌≡◌, Bool, false, not, ◌&&◌, if◌then◌else◌}
use Rattle.abl_base.specs.declared.value.Kind.TheVariants.{Character, Integer, Int64, Decimal, Logical, Date}
use Rattle.bound_tree.specs.declared.expression.Unary.{Unary}
use Rattle.bound_tree.specs.declared.expression.Unary.TheVariants as one
use Rattle.bound_tree.specs.declared.expression.Ternary.{Ternary}
use Rattle.bound_tree.specs.declared.expression.Ternary.TheVariants as three
use Rattle.bound_tree.specs.Tree as b
use Rattle.bound_tree.specs.Tree.{Expr}
use Rattle.bind_names.specs.declared.sort.Sort.{Sort}
use Rattle.bind_names.specs.declared.sort.Sort.TheVariants.{Of, Broken}
use Rattle.bind_names.specs.Sorts.{both_logical, branch_sort, if_sort, is_broken, mask_fits, may_be_converted, may_be_date, may_be_logical, may_be_number, may_be_text, may_be_whole, negated, result_sort, sort_of_value, sort_or_broken}
use Rattle.bind_expressions.specs.Expressions.{logical_unless_broken}

-- the sort, where the operand is good and not broken
abbrev pub given : Bool → Sort → Sort → Sort
given good x s = if good && not (is_broken x) then s else Broken

-- the sort of an operator or function of one value
abbrev pub sort_of_one : Unary → Sort → Sort
sort_of_one one.Positive x = if may_be_number x then x else Broken
sort_of_one one.Negative x = if may_be_number x then negated x else Broken
sort_of_one one.Not x = if may_be_logical x then logical_unless_broken x else Broken
sort_of_one one.ToInteger x = given (may_be_converted x) x (Of Integer)
sort_of_one one.ToInt64 x = given (may_be_converted x) x (Of Int64)
sort_of_one one.ToDecimal x = given (may_be_converted x) x (Of Decimal)
sort_of_one one.ToText x = if is_broken x then Broken else Of Character
sort_of_one one.Length x = given (may_be_text x) x (Of Int64)
sort_of_one one.Year x = given (may_be_date x) x (Of Int64)
sort_of_one one.Month x = given (may_be_date x) x (Of Int64)
sort_of_one one.Day x = given (may_be_date x) x (Of Int64)

-- and of three values
abbrev pub sort_of_three : Ternary → Sort → Sort → Sort → Sort
sort_of_three three.Substring x y z = given (may_be_text x) x (given (may_be_whole y) y (given (may_be_whole z) z (Of Character)))
sort_of_three three.Entry x y z = given (may_be_whole x) x (given (may_be_text y) y (given (may_be_text z) z (Of Character)))
sort_of_three three.DateOf x y z = given (may_be_whole x) x (given (may_be_whole y) y (given (may_be_whole z) z (Of Date)))

-- THE SORT OF A BOUND EXPRESSION
abbrev pub sort_of : Expr → Sort
sort_of (b.Literal v) = sort_of_value v
sort_of (b.TheVariable x) = Of x.kind
sort_of (b.TheField buffer field kind) = Of kind
sort_of (b.One op a) = sort_of_one op (sort_of a)
sort_of (b.Two op a c) = sort_or_broken (result_sort op (sort_of a) (sort_of c))
sort_of (b.Three op a c d) = sort_of_three op (sort_of a) (sort_of c) (sort_of d)
sort_of (b.Both a c) = sort_or_broken (both_logical (sort_of a) (sort_of c))
sort_of (b.Either a c) = sort_or_broken (both_logical (sort_of a) (sort_of c))
sort_of (b.IfElse test a c kind) = if_sort (sort_of test) (branch_sort (sort_of a) (sort_of c))
sort_of (b.Masked a mask) = if mask_fits mask (sort_of a) && not (is_broken (sort_of a)) then Of Character else Broken
sort_of (b.IsAvailable buffer) = Of Logical
sort_of (b.IsLocked buffer) = Of Logical
sort_of b.Retry = Of Logical
sort_of b.ErrorStatus = Of Logical
sort_of b.ReturnValue = Of Character

-- IT IS WELL-KINDED: each operand's kind fits, and each mask fits its value
abbrev pub IsWellKinded : Expr → Type 0
IsWellKinded e = is_broken (sort_of e) ≡ false
