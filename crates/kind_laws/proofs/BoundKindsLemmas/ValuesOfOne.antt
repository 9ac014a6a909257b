-- What an operator or function of one value gives has its sort.
use Rattle.std.proofs.Common.{◌≡◌, ℕ, Bool, true, false, List, Option, Some, None, refl, ◌∙◌}
use Rattle.std.specs.Prelude.{if◌then◌else◌, Ok, ℤ}
use Rattle.abl_base.specs.declared.value.Kind.{Kind}
use Rattle.abl_base.specs.declared.value.Kind.TheVariants as kind
use Rattle.abl_base.specs.declared.value.Value.{Value}
use Rattle.abl_base.specs.declared.value.Value.TheVariants as value
use Rattle.abl_values.specs.Arithmetic.{difference_of, sum_of}
use Rattle.abl_base.specs.text_forms.TextForms.{TextForms}
use Rattle.bound_tree.specs.declared.expression.Unary.{Unary}
use Rattle.bound_tree.specs.declared.expression.Unary.TheVariants as one
use Rattle.expression_meaning.specs.Operators.{is_unknown, negative, opposite, positive}
use Rattle.abl_values.specs.Dates.{CivilDate}
use Rattle.expression_meaning.specs.Functions.{as_text, converted, day_in, length_of, number_as, of_date, unless_unknown}
use Rattle.expression_meaning.specs.Evaluate.{one_of}
use Rattle.bind_names.specs.declared.sort.Sort.{Sort}
use Rattle.bind_names.specs.declared.sort.Sort.TheVariants.{Of, Unknown, Broken}
use Rattle.bind_names.specs.Sorts.{is_broken, may_be_logical, may_be_number, negated}
use Rattle.bind_expressions.specs.Expressions.{logical_unless_broken}
use Rattle.bind_expressions.specs.WellKinded.{sort_of_one}
use Rattle.kind_laws.specs.bound_kinds.Values.{Has, has_sort}
use Rattle.kind_laws.proofs.BoundKindsLemmas.Results.{unknown_any, in_range_has, fitted_has, has_sort_as, gate_is, given_is, gate_in, int_sort, int64_sort, whole_has, decimal_again, decimal_negated, negated_has}

-- ---- operators and functions of one value

pub positive_has : (s : Sort) (v : Value) → has_sort s v ≡ true → Has s (positive v)
unfolding sum_of
positive_has s (value.Text t) h = unknown_any s
positive_has s (value.Int n) h = in_range_has s _ _ (whole_has s _ (int_sort s n h))
positive_has s (value.Int64 n) h = in_range_has s _ _ (whole_has s _ (int64_sort s n h))
positive_has s (value.Dec n) h = in_range_has s _ _ (decimal_again s n _ h)
positive_has s (value.Logical c) h = unknown_any s
positive_has s (value.Date d) h = unknown_any s
positive_has s value.Unknown h = unknown_any s

pub negative_has : (s : Sort) (v : Value) → has_sort s v ≡ true → Has (negated s) (negative v)
unfolding difference_of
negative_has s (value.Text t) h = unknown_any (negated s)
negative_has s (value.Int n) h = in_range_has (negated s) _ _ (negated_has s _ (int_sort s n h))
negative_has s (value.Int64 n) h = in_range_has (negated s) _ _ (negated_has s _ (int64_sort s n h))
negative_has s (value.Dec n) h = in_range_has (negated s) _ _ (decimal_negated s n _ h)
negative_has s (value.Logical c) h = unknown_any (negated s)
negative_has s (value.Date d) h = unknown_any (negated s)
negative_has s value.Unknown h = unknown_any (negated s)

pub logical_is : (s : Sort) → is_broken (if may_be_logical s then logical_unless_broken s else Broken) ≡ false → (if may_be_logical s then logical_unless_broken s else Broken) ≡ Of kind.Logical
logical_is s h = gate_is (may_be_logical s) (logical_unless_broken s) h ∙ unless s (gate_in (may_be_logical s) (logical_unless_broken s) h)
  where
    unless : (s : Sort) → is_broken (logical_unless_broken s) ≡ false → logical_unless_broken s ≡ Of kind.Logical
    unless (Of k) h = refl
    unless Unknown h = refl
    unless Broken h = absurd cc

pub opposite_has : (v : Value) → has_sort (Of kind.Logical) (opposite v) ≡ true
opposite_has (value.Logical c) = refl
opposite_has v = refl

pub number_has : (o : Option ℤ) (k : Kind) → Has (Of k) (number_as o k)
number_has (Some n) k = fitted_has (value.Dec n) k
number_has None k = tt

pub converted_has : (number_in : List ℕ → Option ℤ) (k : Kind) (v : Value) → Has (Of k) (converted number_in k v)
converted_has number_in k (value.Text t) = number_has (number_in t) k
converted_has number_in k (value.Int n) = fitted_has (value.Int n) k
converted_has number_in k (value.Int64 n) = fitted_has (value.Int64 n) k
converted_has number_in k (value.Dec n) = fitted_has (value.Dec n) k
converted_has number_in k (value.Logical c) = fitted_has (value.Logical c) k
converted_has number_in k (value.Date d) = fitted_has (value.Date d) k
converted_has number_in k value.Unknown = fitted_has value.Unknown k

pub unless_has : (c : Bool) (t : List ℕ) → has_sort (Of kind.Character) (unless_unknown c t) ≡ true
unless_has true t = refl
unless_has false t = refl

pub length_has : (o : Option (List ℕ)) → has_sort (Of kind.Int64) (length_of o) ≡ true
length_has (Some t) = refl
length_has None = refl

pub of_date_has : (part : CivilDate → ℕ) (o : Option ℤ) → has_sort (Of kind.Int64) (of_date part o) ≡ true
of_date_has part (Some d) = refl
of_date_has part None = refl

pub unbroken_text : (s : Sort) → is_broken (if is_broken s then Broken else Of kind.Character) ≡ false → (if is_broken s then Broken else Of kind.Character) ≡ Of kind.Character
unbroken_text (Of k) h = refl
unbroken_text Unknown h = refl
unbroken_text Broken h = absurd cc

pub one_has : (forms : TextForms) (op : Unary) (s : Sort) (v : Value) → is_broken (sort_of_one op s) ≡ false → has_sort s v ≡ true → Has (sort_of_one op s) (one_of forms op v)
one_has forms one.Positive s v h g = has_sort_as s _ _ (gate_is (may_be_number s) s h) (positive_has s v g)
one_has forms one.Negative s v h g = has_sort_as (negated s) _ _ (gate_is (may_be_number s) (negated s) h) (negative_has s v g)
one_has forms one.Not s v h g = has_sort_as (Of kind.Logical) _ (Ok (opposite v)) (logical_is s h) (opposite_has v)
one_has forms one.ToInteger s v h g = has_sort_as (Of kind.Integer) _ _ (given_is _ s _ h) (converted_has forms.number_in kind.Integer v)
one_has forms one.ToInt64 s v h g = has_sort_as (Of kind.Int64) _ _ (given_is _ s _ h) (converted_has forms.number_in kind.Int64 v)
one_has forms one.ToDecimal s v h g = has_sort_as (Of kind.Decimal) _ _ (given_is _ s _ h) (converted_has forms.number_in kind.Decimal v)
one_has forms one.ToText s v h g = has_sort_as (Of kind.Character) _ (Ok (as_text v)) (unbroken_text s h) (unless_has (is_unknown v) _)
one_has forms one.Length s v h g = has_sort_as (Of kind.Int64) _ (one_of forms one.Length v) (given_is _ s _ h) (length_has _)
one_has forms one.Year s v h g = has_sort_as (Of kind.Int64) _ (one_of forms one.Year v) (given_is _ s _ h) (of_date_has (λ d. d.year) (day_in v))
one_has forms one.Month s v h g = has_sort_as (Of kind.Int64) _ (one_of forms one.Month v) (given_is _ s _ h) (of_date_has (λ d. d.month) (day_in v))
one_has forms one.Day s v h g = has_sort_as (Of kind.Int64) _ (one_of forms one.Day v) (given_is _ s _ h) (of_date_has (λ d. d.day) (day_in v))

pub one_part : (op : Unary) (s : Sort) → is_broken (sort_of_one op s) ≡ false → is_broken s ≡ false
one_part op (Of k) h = refl
one_part op Unknown h = refl
one_part one.Positive Broken h = absurd cc
one_part one.Negative Broken h = absurd cc
one_part one.Not Broken h = absurd cc
one_part one.ToInteger Broken h = absurd cc
one_part one.ToInt64 Broken h = absurd cc
one_part one.ToDecimal Broken h = absurd cc
one_part one.ToText Broken h = absurd cc
one_part one.Length Broken h = absurd cc
one_part one.Year Broken h = absurd cc
one_part one.Month Broken h = absurd cc
one_part one.Day Broken h = absurd cc
