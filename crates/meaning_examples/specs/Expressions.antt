-- Operators and functions.
use Rattle.std.specs.Prelude.{◌≡◌, ℕ, List, [], codes, true, false, Some, None, Ok, Err, refl, pos, negsuc}
use Rattle.std.specs.Fmt.{digits}
use Rattle.abl_base.specs.declared.value.Value.TheVariants.{Text, Int, Int64, Dec, Logical, Unknown}
use Rattle.abl_base.specs.declared.value.Kind.TheVariants as kind
use Rattle.abl_values.specs.Arithmetic.{sum_of, difference_of, product_of, quotient_of, remainder_of}
use Rattle.abl_values.specs.Dates.{date_from, date_of_day, date_in_years, date_after, day_number}
use Rattle.abl_values.specs.Fit.{fitted}
use Rattle.abl_values.specs.Order.{value_order}
use Rattle.abl_values.specs.Texts.{plain_text}
use Rattle.bound_tree.specs.declared.expression.Unary.TheVariants as one
use Rattle.bound_tree.specs.declared.expression.Binary.TheVariants as two
use Rattle.bound_tree.specs.declared.expression.Ternary.TheVariants as three
use Rattle.bound_tree.specs.Tree.{Expr, Literal, TheField, One, Two, Three, Both, Either, IfElse}
use Rattle.expression_meaning.specs.Env.{Env}
use Rattle.expression_meaning.specs.declared.fault.RunFault.TheVariants.{EmptyBuffer, Range, Convert, Argument}
use Rattle.expression_meaning.specs.Operators.{Given}
use Rattle.expression_meaning.specs.Evaluate.{evaluate}
use Rattle.meaning_examples.specs.Small.{toy_forms}

abbrev nowhere : Env
nowhere = record { variable = λ x. Unknown; field = λ b f. None; available = λ b. false; locked = λ b. false; retry = false; error_status = false; return_value = [] }

abbrev gives : Expr → Given
gives e = evaluate toy_forms nowhere e

abbrev n : ℕ → Expr
n k = Literal (Int64 (pos k))

-- -(k + 1)
abbrev below_zero : ℕ → Expr
below_zero k = Literal (Int64 (negsuc k))

abbrev t : List ℕ → Expr
t bytes = Literal (Text bytes)

abbrev unknown : Expr
unknown = Literal Unknown

abbrev yes : Expr
yes = Literal (Logical true)

abbrev no : Expr
no = Literal (Logical false)

-- a field of an empty buffer
abbrev faulty : Expr
faulty = TheField 0 0 kind.Integer

-- ---- arithmetic

seven_halves : gives (Two two.Divide (n 7) (n 2)) ≡ Ok (Dec (pos 35000000000))
unfolding sum_of difference_of product_of quotient_of remainder_of fitted value_order plain_text digits date_from date_of_day date_after day_number
seven_halves = refl

a_third : gives (Two two.Divide (n 1) (n 3)) ≡ Ok (Dec (pos 3333333333))
unfolding sum_of difference_of product_of quotient_of remainder_of fitted value_order plain_text digits date_from date_of_day date_after day_number
a_third = refl

a_zero_divisor_gives_unknown : gives (Two two.Divide (n 1) (n 0)) ≡ Ok Unknown
unfolding sum_of difference_of product_of quotient_of remainder_of fitted value_order plain_text digits date_from date_of_day date_after day_number
a_zero_divisor_gives_unknown = refl

half_away_from_zero : gives (One one.ToInteger (Two two.Divide (below_zero 6) (n 2))) ≡ Ok (Int (negsuc 3))
unfolding sum_of difference_of product_of quotient_of remainder_of fitted value_order plain_text digits date_from date_of_day date_after day_number
half_away_from_zero = refl

modulo_has_the_sign_of_the_dividend : gives (Two two.Modulo (below_zero 6) (n 3)) ≡ Ok (Int64 (negsuc 0))
unfolding sum_of difference_of product_of quotient_of remainder_of fitted value_order plain_text digits date_from date_of_day date_after day_number
modulo_has_the_sign_of_the_dividend = refl

modulo_of_zero_gives_unknown : gives (Two two.Modulo (n 7) (n 0)) ≡ Ok Unknown
unfolding sum_of difference_of product_of quotient_of remainder_of fitted value_order plain_text digits date_from date_of_day date_after day_number
modulo_of_zero_gives_unknown = refl

past_the_last_whole_number : gives (Two two.Add (n 9223372036854775807) (n 1)) ≡ Err Range
unfolding sum_of difference_of product_of quotient_of remainder_of fitted value_order plain_text digits date_from date_of_day date_after day_number
past_the_last_whole_number = refl

a_sign : gives (One one.Negative (n 5)) ≡ Ok (Int64 (negsuc 4))
unfolding sum_of difference_of product_of quotient_of remainder_of fitted value_order plain_text digits date_from date_of_day date_after day_number
a_sign = refl

texts_join : gives (Two two.Add (t (codes "ab")) (t (codes "c"))) ≡ Ok (Text (codes "abc"))
unfolding sum_of difference_of product_of quotient_of remainder_of fitted value_order plain_text digits date_from date_of_day date_after day_number
texts_join = refl

an_unknown_operand_gives_unknown : gives (Two two.Add (n 1) unknown) ≡ Ok Unknown
unfolding sum_of difference_of product_of quotient_of remainder_of fitted value_order plain_text digits date_from date_of_day date_after day_number
an_unknown_operand_gives_unknown = refl

the_first_fault_from_the_left : gives (Two two.Add (Two two.Add (n 9223372036854775807) (n 1)) faulty) ≡ Err Range
unfolding sum_of difference_of product_of quotient_of remainder_of fitted value_order plain_text digits date_from date_of_day date_after day_number
the_first_fault_from_the_left = refl

-- ---- comparisons

unknown_equals_unknown : gives (Two two.Equal unknown unknown) ≡ Ok (Logical true)
unfolding sum_of difference_of product_of quotient_of remainder_of fitted value_order plain_text digits date_from date_of_day date_after day_number
unknown_equals_unknown = refl

unknown_equals_nothing_else : gives (Two two.Equal (n 1) unknown) ≡ Ok (Logical false)
unfolding sum_of difference_of product_of quotient_of remainder_of fitted value_order plain_text digits date_from date_of_day date_after day_number
unknown_equals_nothing_else = refl

unknown_is_unequal_to_a_value : gives (Two two.Unequal (n 1) unknown) ≡ Ok (Logical true)
unfolding sum_of difference_of product_of quotient_of remainder_of fitted value_order plain_text digits date_from date_of_day date_after day_number
unknown_is_unequal_to_a_value = refl

unknown_is_not_below_itself : gives (Two two.Less unknown unknown) ≡ Ok (Logical false)
unfolding sum_of difference_of product_of quotient_of remainder_of fitted value_order plain_text digits date_from date_of_day date_after day_number
unknown_is_not_below_itself = refl

unknown_is_at_most_itself : gives (Two two.AtMost unknown unknown) ≡ Ok (Logical true)
unfolding sum_of difference_of product_of quotient_of remainder_of fitted value_order plain_text digits date_from date_of_day date_after day_number
unknown_is_at_most_itself = refl

one_unknown_side : gives (Two two.AtLeast (n 1) unknown) ≡ Ok Unknown
unfolding sum_of difference_of product_of quotient_of remainder_of fitted value_order plain_text digits date_from date_of_day date_after day_number
one_unknown_side = refl

numbers_of_two_kinds : gives (Two two.Equal (n 2) (Literal (Dec (pos 20000000000)))) ≡ Ok (Logical true)
unfolding sum_of difference_of product_of quotient_of remainder_of fitted value_order plain_text digits date_from date_of_day date_after day_number
numbers_of_two_kinds = refl

case_and_trailing_blanks : gives (Two two.Equal (t (codes "AB  ")) (t (codes "ab"))) ≡ Ok (Logical true)
unfolding sum_of difference_of product_of quotient_of remainder_of fitted value_order plain_text digits date_from date_of_day date_after day_number
case_and_trailing_blanks = refl

begins_folds_and_drops_blanks : gives (Two two.Begins (t (codes "abc")) (t (codes "AB "))) ≡ Ok (Logical true)
unfolding sum_of difference_of product_of quotient_of remainder_of fitted value_order plain_text digits date_from date_of_day date_after day_number
begins_folds_and_drops_blanks = refl

begins_is_no : gives (Two two.Begins (t (codes "abc")) (t (codes "bc"))) ≡ Ok (Logical false)
unfolding sum_of difference_of product_of quotient_of remainder_of fitted value_order plain_text digits date_from date_of_day date_after day_number
begins_is_no = refl

-- ---- conditions

no_and_looks_no_further : gives (Both no faulty) ≡ Ok (Logical false)
unfolding sum_of difference_of product_of quotient_of remainder_of fitted value_order plain_text digits date_from date_of_day date_after day_number
no_and_looks_no_further = refl

yes_or_looks_no_further : gives (Either yes faulty) ≡ Ok (Logical true)
unfolding sum_of difference_of product_of quotient_of remainder_of fitted value_order plain_text digits date_from date_of_day date_after day_number
yes_or_looks_no_further = refl

unknown_and_no_is_unknown : gives (Both unknown no) ≡ Ok Unknown
unfolding sum_of difference_of product_of quotient_of remainder_of fitted value_order plain_text digits date_from date_of_day date_after day_number
unknown_and_no_is_unknown = refl

unknown_or_yes_is_unknown : gives (Either unknown yes) ≡ Ok Unknown
unfolding sum_of difference_of product_of quotient_of remainder_of fitted value_order plain_text digits date_from date_of_day date_after day_number
unknown_or_yes_is_unknown = refl

unknown_and_looks_further : gives (Both unknown faulty) ≡ Err (EmptyBuffer 0)
unfolding sum_of difference_of product_of quotient_of remainder_of fitted value_order plain_text digits date_from date_of_day date_after day_number
unknown_and_looks_further = refl

not_unknown : gives (One one.Not unknown) ≡ Ok Unknown
unfolding sum_of difference_of product_of quotient_of remainder_of fitted value_order plain_text digits date_from date_of_day date_after day_number
not_unknown = refl

an_unknown_condition_counts_as_false : gives (IfElse unknown (n 1) (n 2) (Some kind.Int64)) ≡ Ok (Int64 (pos 2))
unfolding sum_of difference_of product_of quotient_of remainder_of fitted value_order plain_text digits date_from date_of_day date_after day_number
an_unknown_condition_counts_as_false = refl

a_branch_has_the_kind_of_both : gives (IfElse yes (n 1) (Literal (Dec (pos 25000000000))) (Some kind.Decimal)) ≡ Ok (Dec (pos 10000000000))
unfolding sum_of difference_of product_of quotient_of remainder_of fitted value_order plain_text digits date_from date_of_day date_after day_number
a_branch_has_the_kind_of_both = refl

only_the_chosen_branch_can_fail : gives (IfElse no faulty (n 2) (Some kind.Int64)) ≡ Ok (Int64 (pos 2))
unfolding sum_of difference_of product_of quotient_of remainder_of fitted value_order plain_text digits date_from date_of_day date_after day_number
only_the_chosen_branch_can_fail = refl

-- ---- functions

string_is_the_plain_text : gives (One one.ToText (Two two.Divide (n 1) (n 3))) ≡ Ok (Text (codes "0.3333333333"))
unfolding sum_of difference_of product_of quotient_of remainder_of fitted value_order plain_text digits date_from date_of_day date_after day_number
string_is_the_plain_text = refl

string_of_unknown : gives (One one.ToText unknown) ≡ Ok Unknown
unfolding sum_of difference_of product_of quotient_of remainder_of fitted value_order plain_text digits date_from date_of_day date_after day_number
string_of_unknown = refl

a_text_that_is_no_number : gives (One one.ToInteger (t (codes "x"))) ≡ Err Convert
unfolding sum_of difference_of product_of quotient_of remainder_of fitted value_order plain_text digits date_from date_of_day date_after day_number
a_text_that_is_no_number = refl

a_number_out_of_its_kind : gives (One one.ToInteger (n 2147483648)) ≡ Err Range
unfolding sum_of difference_of product_of quotient_of remainder_of fitted value_order plain_text digits date_from date_of_day date_after day_number
a_number_out_of_its_kind = refl

the_length_in_bytes : gives (One one.Length (t (codes "abc"))) ≡ Ok (Int64 (pos 3))
unfolding sum_of difference_of product_of quotient_of remainder_of fitted value_order plain_text digits date_from date_of_day date_after day_number
the_length_in_bytes = refl

a_part_of_a_text : gives (Three three.Substring (t (codes "abcdef")) (n 3) (n 2)) ≡ Ok (Text (codes "cd"))
unfolding sum_of difference_of product_of quotient_of remainder_of fitted value_order plain_text digits date_from date_of_day date_after day_number
a_part_of_a_text = refl

cut_at_the_end : gives (Three three.Substring (t (codes "abc")) (n 2) (n 9)) ≡ Ok (Text (codes "bc"))
unfolding sum_of difference_of product_of quotient_of remainder_of fitted value_order plain_text digits date_from date_of_day date_after day_number
cut_at_the_end = refl

the_rest_of_a_text : gives (Three three.Substring (t (codes "abc")) (n 2) (below_zero 0)) ≡ Ok (Text (codes "bc"))
unfolding sum_of difference_of product_of quotient_of remainder_of fitted value_order plain_text digits date_from date_of_day date_after day_number
the_rest_of_a_text = refl

behind_the_end : gives (Three three.Substring (t (codes "abc")) (n 9) (n 1)) ≡ Ok (Text [])
unfolding sum_of difference_of product_of quotient_of remainder_of fitted value_order plain_text digits date_from date_of_day date_after day_number
behind_the_end = refl

before_the_beginning : gives (Three three.Substring (t (codes "abc")) (n 0) (n 1)) ≡ Err Argument
unfolding sum_of difference_of product_of quotient_of remainder_of fitted value_order plain_text digits date_from date_of_day date_after day_number
before_the_beginning = refl

less_than_the_rest : gives (Three three.Substring (t (codes "abc")) (n 1) (below_zero 1)) ≡ Err Argument
unfolding sum_of difference_of product_of quotient_of remainder_of fitted value_order plain_text digits date_from date_of_day date_after day_number
less_than_the_rest = refl

an_unknown_argument : gives (Three three.Substring (t (codes "abc")) unknown (below_zero 1)) ≡ Ok Unknown
unfolding sum_of difference_of product_of quotient_of remainder_of fitted value_order plain_text digits date_from date_of_day date_after day_number
an_unknown_argument = refl

the_second_entry : gives (Three three.Entry (n 2) (t (codes "a,b,c")) (t (codes ","))) ≡ Ok (Text (codes "b"))
unfolding sum_of difference_of product_of quotient_of remainder_of fitted value_order plain_text digits date_from date_of_day date_after day_number
the_second_entry = refl

an_empty_entry : gives (Three three.Entry (n 3) (t (codes "a,b,")) (t (codes ","))) ≡ Ok (Text [])
unfolding sum_of difference_of product_of quotient_of remainder_of fitted value_order plain_text digits date_from date_of_day date_after day_number
an_empty_entry = refl

an_entry_too_many : gives (Three three.Entry (n 4) (t (codes "a,b,c")) (t (codes ","))) ≡ Err Argument
unfolding sum_of difference_of product_of quotient_of remainder_of fitted value_order plain_text digits date_from date_of_day date_after day_number
an_entry_too_many = refl

an_empty_list_has_no_entry : gives (Three three.Entry (n 1) (t []) (t (codes ","))) ≡ Err Argument
unfolding sum_of difference_of product_of quotient_of remainder_of fitted value_order plain_text digits date_from date_of_day date_after day_number
an_empty_list_has_no_entry = refl

an_empty_delimiter : gives (Two two.NumEntries (t (codes "abc")) (t [])) ≡ Err Argument
unfolding sum_of difference_of product_of quotient_of remainder_of fitted value_order plain_text digits date_from date_of_day date_after day_number
an_empty_delimiter = refl

no_entries : gives (Two two.NumEntries (t []) (t (codes ","))) ≡ Ok (Int64 (pos 0))
unfolding sum_of difference_of product_of quotient_of remainder_of fitted value_order plain_text digits date_from date_of_day date_after day_number
no_entries = refl

the_whole_delimiter : gives (Two two.NumEntries (t (codes "a;;b;c;;;d")) (t (codes ";;"))) ≡ Ok (Int64 (pos 3))
unfolding sum_of difference_of product_of quotient_of remainder_of fitted value_order plain_text digits date_from date_of_day date_after day_number
the_whole_delimiter = refl

a_leap_day : gives (One one.Day (Three three.DateOf (n 2) (n 29) (n 2024))) ≡ Ok (Int64 (pos 29))
unfolding sum_of difference_of product_of quotient_of remainder_of fitted value_order plain_text digits date_from date_of_day date_in_years date_after day_number
a_leap_day = refl

no_leap_day : gives (Three three.DateOf (n 2) (n 29) (n 2023)) ≡ Err Argument
unfolding sum_of difference_of product_of quotient_of remainder_of fitted value_order plain_text digits date_from date_of_day date_after day_number
no_leap_day = refl

days_between_dates : gives (Two two.Subtract (Three three.DateOf (n 3) (n 1) (n 2024)) (Three three.DateOf (n 2) (n 28) (n 2024))) ≡ Ok (Int64 (pos 2))
unfolding sum_of difference_of product_of quotient_of remainder_of fitted value_order plain_text digits date_from date_of_day date_after day_number
days_between_dates = refl
