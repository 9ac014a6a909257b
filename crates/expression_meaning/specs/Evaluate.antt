-- The value of an expression, or its first fault from left to right.
use Rattle.std.specs.Prelude.{ℕ, Bool, true, false, not, nat_lt, length, Option, Some, None, Ok, Err}
use Rattle.abl_base.specs.declared.value.Value.{Value}
use Rattle.abl_base.specs.declared.value.Value.TheVariants.{Text, Logical}
use Rattle.abl_base.specs.declared.value.Kind.{Kind}
use Rattle.abl_base.specs.declared.value.Kind.TheVariants.{Integer, Int64, Decimal}
use Rattle.abl_base.specs.declared.limits.TheConstants.{MAX_TEXT_BYTES}
use Rattle.abl_values.specs.Arithmetic.{sum_of, difference_of, product_of, quotient_of, remainder_of}
use Rattle.abl_values.specs.Fit.{fitted}
use Rattle.bound_tree.specs.declared.expression.Unary.{Unary}
use Rattle.bound_tree.specs.declared.expression.Unary.TheVariants as one
use Rattle.bound_tree.specs.declared.expression.Binary.{Binary}
use Rattle.bound_tree.specs.declared.expression.Binary.TheVariants as two
use Rattle.bound_tree.specs.declared.expression.Ternary.{Ternary}
use Rattle.bound_tree.specs.declared.expression.Ternary.TheVariants as three
use Rattle.bound_tree.specs.Tree.{Expr, Literal, TheVariable, TheField, One, Two, Three, Both, Either, IfElse, Masked, IsAvailable, IsLocked, Retry, ErrorStatus, ReturnValue}
use Rattle.expression_meaning.specs.declared.fault.RunFault.TheVariants.{EmptyBuffer, Range}
use Rattle.abl_base.specs.text_forms.TextForms.{TextForms}
use Rattle.expression_meaning.specs.Env.{Env}
use Rattle.expression_meaning.specs.Operators.{Given, in_range, equals, less, greater, at_most, at_least, begins, positive, negative, opposite, holds, and_then, or_else}
use Rattle.expression_meaning.specs.Functions.{text_in, whole_in, day_in, converted, as_text, as_masked, length_of, substring, entry, num_entries, date_of, of_date}

-- continues with a value, and propagates a fault
abbrev pub bind : Given → (Value → Given) → Given
bind (Ok v) go = go v
bind (Err fault) go = Err fault

-- a text literal above the longest text is out of range
abbrev pub literal_if : Bool → Value → Given
literal_if true v = Err Range
literal_if false v = Ok v

-- a literal
abbrev pub literal : Value → Given
literal (Text t) = literal_if (nat_lt MAX_TEXT_BYTES (length t)) (Text t)
literal v = Ok v

-- a field of the record in buffer b, which may be empty
abbrev pub field_or : Option Value → ℕ → Given
field_or (Some v) b = Ok v
field_or None b = Err (EmptyBuffer b)

-- operators and functions of one value
abbrev pub one_of : TextForms → Unary → Value → Given
one_of forms one.Positive v = positive v
one_of forms one.Negative v = negative v
one_of forms one.Not v = Ok (opposite v)
one_of forms one.ToInteger v = converted forms.number_in Integer v
one_of forms one.ToInt64 v = converted forms.number_in Int64 v
one_of forms one.ToDecimal v = converted forms.number_in Decimal v
one_of forms one.ToText v = Ok (as_text v)
one_of forms one.Length v = Ok (length_of (text_in v))
one_of forms one.Year v = Ok (of_date (λ d. d.year) (day_in v))
one_of forms one.Month v = Ok (of_date (λ d. d.month) (day_in v))
one_of forms one.Day v = Ok (of_date (λ d. d.day) (day_in v))

-- operators and functions of two values
abbrev pub two_of : Binary → Value → Value → Given
two_of two.Add a b = in_range (sum_of a b)
two_of two.Subtract a b = in_range (difference_of a b)
two_of two.Multiply a b = in_range (product_of a b)
two_of two.Divide a b = in_range (quotient_of a b)
two_of two.Modulo a b = in_range (remainder_of a b)
two_of two.Equal a b = Ok (Logical (equals a b))
two_of two.Unequal a b = Ok (Logical (not (equals a b)))
two_of two.Less a b = Ok (less a b)
two_of two.Greater a b = Ok (greater a b)
two_of two.AtMost a b = Ok (at_most a b)
two_of two.AtLeast a b = Ok (at_least a b)
two_of two.Begins a b = Ok (begins a b)
two_of two.NumEntries a b = num_entries (text_in a) (text_in b)

-- functions of three values
abbrev pub three_of : Ternary → Value → Value → Value → Given
three_of three.Substring a b c = substring (text_in a) (whole_in b) (whole_in c)
three_of three.Entry a b c = entry (whole_in a) (text_in b) (text_in c)
three_of three.DateOf a b c = date_of (whole_in a) (whole_in b) (whole_in c)

-- the value of a branch of IF, converted to the kind of both
abbrev pub as_kind : Option Kind → Value → Given
as_kind (Some kind) v = in_range (fitted v kind)
as_kind None v = Ok v

-- one of two branches
abbrev pub branch : Bool → Given → Given → Given
branch true one other = one
branch false one other = other

-- the result of an expression in these surroundings
abbrev pub evaluate : TextForms → Env → Expr → Given
evaluate forms env (Literal v) = literal v
evaluate forms env (TheVariable x) = Ok (env.variable x)
evaluate forms env (TheField b f kind) = field_or (env.field b f) b
evaluate forms env (One op a) = bind (evaluate forms env a) (one_of forms op)
evaluate forms env (Two op a b) = bind (evaluate forms env a) (λ x. bind (evaluate forms env b) (two_of op x))
evaluate forms env (Three op a b c) =
    bind (evaluate forms env a) (λ x. bind (evaluate forms env b) (λ y. bind (evaluate forms env c) (three_of op x y)))
evaluate forms env (Both a b) = bind (evaluate forms env a) (λ x. and_then x (evaluate forms env b))
evaluate forms env (Either a b) = bind (evaluate forms env a) (λ x. or_else x (evaluate forms env b))
evaluate forms env (IfElse test a b kind) =
    bind (evaluate forms env test) (λ x. bind (branch (holds x) (evaluate forms env a) (evaluate forms env b)) (as_kind kind))
evaluate forms env (Masked a mask) = bind (evaluate forms env a) (λ x. Ok (as_masked forms.masked mask x))
evaluate forms env (IsAvailable b) = Ok (Logical (env.available b))
evaluate forms env (IsLocked b) = Ok (Logical (env.locked b))
evaluate forms env Retry = Ok (Logical env.retry)
evaluate forms env ErrorStatus = Ok (Logical env.error_status)
evaluate forms env ReturnValue = Ok (Text env.return_value)
