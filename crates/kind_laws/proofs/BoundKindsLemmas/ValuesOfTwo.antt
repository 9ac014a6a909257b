-- What an operator or function of two values gives has its sort.
use Rattle.std.proofs.Common.{◌≡◌, ℕ, Bool, true, false, List, [], ◌∷◌, Option, Some, None, zero, suc, refl, ap, ◌∙◌}
use Rattle.std.specs.Prelude.{if◌then◌else◌, Err, ℤ, pos, negsuc, ◌*ℤ◌}
use Rattle.abl_base.specs.declared.value.Kind.TheVariants as kind
use Rattle.abl_base.specs.declared.value.Value.{Value}
use Rattle.abl_base.specs.declared.value.Value.TheVariants as value
use Rattle.abl_values.specs.Arithmetic.{Operand, decimal, day, none, text, whole, decimal_product, decimal_quotient, difference, difference_of, operand, product, product_of, quotient, quotient_of, remainder, remainder_of, sum, sum_of, whole_remainder, fits_bits}
use Rattle.abl_values.specs.Order.{scaled}
use Rattle.abl_values.specs.Arithmetic as a
use Rattle.bound_tree.specs.declared.expression.Binary.{Binary}
use Rattle.bound_tree.specs.declared.expression.Binary.TheVariants as two
use Rattle.expression_meaning.specs.Operators.{begins, compared_as, in_range, is_unknown}
use Rattle.expression_meaning.specs.Functions.{count_by, num_entries}
use Rattle.expression_meaning.specs.Evaluate.{two_of}
use Rattle.bind_names.specs.declared.sort.Sort.{Sort}
use Rattle.bind_names.specs.declared.sort.Sort.TheVariants.{Of}
use Rattle.bind_names.specs.Sorts.{is_broken, result_sort, sort_or_broken}
use Rattle.kind_laws.specs.bound_kinds.Values.{Has, has_sort}
use Rattle.abl_values.specs.declared.arithmetic.ArithFault.TheVariants.{Overflow as ArithOverflow}
use Rattle.kind_laws.proofs.BoundKindsLemmas.Results.{unknown_any, in_range_has, has_sort_as, fixed, text_sort, decimal_sort, date_sort, IsWhole, int_sort, int64_sort}

-- ---- operators and functions of two values

pub add_wholes : (s t : Sort) → IsWhole s → IsWhole t → sort_or_broken (result_sort two.Add s t) ≡ Of kind.Int64
add_wholes (Of kind.Integer) (Of kind.Integer) h g = refl
add_wholes (Of kind.Integer) (Of kind.Int64) h g = refl
add_wholes (Of kind.Int64) (Of kind.Integer) h g = refl
add_wholes (Of kind.Int64) (Of kind.Int64) h g = refl
add_wholes s t h g = absurd cc

pub subtract_wholes : (s t : Sort) → IsWhole s → IsWhole t → sort_or_broken (result_sort two.Subtract s t) ≡ Of kind.Int64
subtract_wholes (Of kind.Integer) (Of kind.Integer) h g = refl
subtract_wholes (Of kind.Integer) (Of kind.Int64) h g = refl
subtract_wholes (Of kind.Int64) (Of kind.Integer) h g = refl
subtract_wholes (Of kind.Int64) (Of kind.Int64) h g = refl
subtract_wholes s t h g = absurd cc

pub multiply_wholes : (s t : Sort) → IsWhole s → IsWhole t → sort_or_broken (result_sort two.Multiply s t) ≡ Of kind.Int64
multiply_wholes (Of kind.Integer) (Of kind.Integer) h g = refl
multiply_wholes (Of kind.Integer) (Of kind.Int64) h g = refl
multiply_wholes (Of kind.Int64) (Of kind.Integer) h g = refl
multiply_wholes (Of kind.Int64) (Of kind.Int64) h g = refl
multiply_wholes s t h g = absurd cc

pub add_whole_decimal : (s : Sort) → IsWhole s → sort_or_broken (result_sort two.Add s (Of kind.Decimal)) ≡ Of kind.Decimal
add_whole_decimal (Of kind.Integer) h = refl
add_whole_decimal (Of kind.Int64) h = refl
add_whole_decimal s h = absurd cc

pub add_decimal_whole : (s : Sort) → IsWhole s → sort_or_broken (result_sort two.Add (Of kind.Decimal) s) ≡ Of kind.Decimal
add_decimal_whole (Of kind.Integer) h = refl
add_decimal_whole (Of kind.Int64) h = refl
add_decimal_whole s h = absurd cc

pub subtract_whole_decimal : (s : Sort) → IsWhole s → sort_or_broken (result_sort two.Subtract s (Of kind.Decimal)) ≡ Of kind.Decimal
subtract_whole_decimal (Of kind.Integer) h = refl
subtract_whole_decimal (Of kind.Int64) h = refl
subtract_whole_decimal s h = absurd cc

pub subtract_decimal_whole : (s : Sort) → IsWhole s → sort_or_broken (result_sort two.Subtract (Of kind.Decimal) s) ≡ Of kind.Decimal
subtract_decimal_whole (Of kind.Integer) h = refl
subtract_decimal_whole (Of kind.Int64) h = refl
subtract_decimal_whole s h = absurd cc

pub multiply_whole_decimal : (s : Sort) → IsWhole s → sort_or_broken (result_sort two.Multiply s (Of kind.Decimal)) ≡ Of kind.Decimal
multiply_whole_decimal (Of kind.Integer) h = refl
multiply_whole_decimal (Of kind.Int64) h = refl
multiply_whole_decimal s h = absurd cc

pub multiply_decimal_whole : (s : Sort) → IsWhole s → sort_or_broken (result_sort two.Multiply (Of kind.Decimal) s) ≡ Of kind.Decimal
multiply_decimal_whole (Of kind.Integer) h = refl
multiply_decimal_whole (Of kind.Int64) h = refl
multiply_decimal_whole s h = absurd cc

pub add_date_whole : (s : Sort) → IsWhole s → sort_or_broken (result_sort two.Add (Of kind.Date) s) ≡ Of kind.Date
add_date_whole (Of kind.Integer) h = refl
add_date_whole (Of kind.Int64) h = refl
add_date_whole s h = absurd cc

pub subtract_date_whole : (s : Sort) → IsWhole s → sort_or_broken (result_sort two.Subtract (Of kind.Date) s) ≡ Of kind.Date
subtract_date_whole (Of kind.Integer) h = refl
subtract_date_whole (Of kind.Int64) h = refl
subtract_date_whole s h = absurd cc

pub product_has : (x y : ℤ) → Has (Of kind.Decimal) (in_range (decimal_product x y))
product_has x y = go (fits_bits 127 (x *ℤ y))
  where
    go : (c : Bool) → Has (Of kind.Decimal) (in_range (if c then a.decimal_in_range (a.rounded_whole (x *ℤ y)) else Err ArithOverflow))
    go true = in_range_has (Of kind.Decimal) _ _ refl
    go false = tt

pub quotient_if : (c : Bool) (n : ℤ) → Has (Of kind.Decimal) (in_range (if c then a.decimal_in_range n else Err ArithOverflow))
quotient_if true n = in_range_has (Of kind.Decimal) _ _ refl
quotient_if false n = tt

pub decimal_quotient_has : (x y : ℤ) → Has (Of kind.Decimal) (in_range (decimal_quotient x y))
decimal_quotient_has x (pos zero) = refl
decimal_quotient_has x (pos (suc y)) = quotient_if (fits_bits 127 (scaled x)) (a.rounded_quotient (scaled x) (pos (suc y)))
decimal_quotient_has x (negsuc y) = quotient_if (fits_bits 127 (scaled x)) (a.rounded_quotient (scaled x) (negsuc y))

pub quotient_has : (x y : Operand) → Has (Of kind.Decimal) (in_range (quotient x y))
quotient_has (whole x) (whole y) = decimal_quotient_has (scaled x) (scaled y)
quotient_has (whole x) (decimal y) = decimal_quotient_has (scaled x) y
quotient_has (decimal x) (whole y) = decimal_quotient_has x (scaled y)
quotient_has (decimal x) (decimal y) = decimal_quotient_has x y
quotient_has x y = refl

pub whole_remainder_has : (x y : ℤ) → Has (Of kind.Int64) (in_range (whole_remainder x y))
whole_remainder_has x (pos zero) = refl
whole_remainder_has x (pos (suc y)) = refl
whole_remainder_has x (negsuc y) = refl

pub remainder_has : (x y : Operand) → Has (Of kind.Int64) (in_range (remainder x y))
remainder_has (whole x) (whole y) = whole_remainder_has x y
remainder_has x y = refl

pub compared_has : (c d both it : Bool) → has_sort (Of kind.Logical) (compared_as c d both it) ≡ true
compared_has true true both it = refl
compared_has true false both it = refl
compared_has false true both it = refl
compared_has false false both it = refl

pub begins_has : (v w : Value) → has_sort (Of kind.Logical) (begins v w) ≡ true
begins_has (value.Text t) (value.Text p) = refl
begins_has v w = refl

pub count_has : (d list : List ℕ) → Has (Of kind.Int64) (count_by d list)
count_has [] list = tt
count_has (c ∷ d) list = refl

pub entries_has : (o p : Option (List ℕ)) → Has (Of kind.Int64) (num_entries o p)
entries_has (Some list) (Some d) = count_has d list
entries_has None p = refl
entries_has (Some list) None = refl

pub add_has : (s t : Sort) (v w : Value) → has_sort s v ≡ true → has_sort t w ≡ true → Has (sort_or_broken (result_sort two.Add s t)) (in_range (sum_of v w))
unfolding sum_of
add_has s t (value.Text t1) (value.Text t2) h g = has_sort_as (Of kind.Character) _ (in_range (sum_of (value.Text t1) (value.Text t2))) (ap (λ u. sort_or_broken (result_sort two.Add u t)) (text_sort s t1 h) ∙ ap (λ u. sort_or_broken (result_sort two.Add (Of kind.Character) u)) (text_sort t t2 g)) (in_range_has (Of kind.Character) _ _ refl)
add_has s t (value.Text t1) (value.Int n2) h g = unknown_any _
add_has s t (value.Text t1) (value.Int64 n2) h g = unknown_any _
add_has s t (value.Text t1) (value.Dec n2) h g = unknown_any _
add_has s t (value.Text t1) (value.Logical c2) h g = unknown_any _
add_has s t (value.Text t1) (value.Date d2) h g = unknown_any _
add_has s t (value.Text t1) value.Unknown h g = unknown_any _
add_has s t (value.Int n1) (value.Text t2) h g = unknown_any _
add_has s t (value.Int n1) (value.Int n2) h g = has_sort_as (Of kind.Int64) _ (in_range (sum_of (value.Int n1) (value.Int n2))) (add_wholes s t (int_sort s n1 h) (int_sort t n2 g)) (in_range_has (Of kind.Int64) _ _ refl)
add_has s t (value.Int n1) (value.Int64 n2) h g = has_sort_as (Of kind.Int64) _ (in_range (sum_of (value.Int n1) (value.Int64 n2))) (add_wholes s t (int_sort s n1 h) (int64_sort t n2 g)) (in_range_has (Of kind.Int64) _ _ refl)
add_has s t (value.Int n1) (value.Dec n2) h g = has_sort_as (Of kind.Decimal) _ (in_range (sum_of (value.Int n1) (value.Dec n2))) (ap (λ u. sort_or_broken (result_sort two.Add s u)) (decimal_sort t n2 g) ∙ add_whole_decimal s (int_sort s n1 h)) (in_range_has (Of kind.Decimal) _ _ refl)
add_has s t (value.Int n1) (value.Logical c2) h g = unknown_any _
add_has s t (value.Int n1) (value.Date d2) h g = unknown_any _
add_has s t (value.Int n1) value.Unknown h g = unknown_any _
add_has s t (value.Int64 n1) (value.Text t2) h g = unknown_any _
add_has s t (value.Int64 n1) (value.Int n2) h g = has_sort_as (Of kind.Int64) _ (in_range (sum_of (value.Int64 n1) (value.Int n2))) (add_wholes s t (int64_sort s n1 h) (int_sort t n2 g)) (in_range_has (Of kind.Int64) _ _ refl)
add_has s t (value.Int64 n1) (value.Int64 n2) h g = has_sort_as (Of kind.Int64) _ (in_range (sum_of (value.Int64 n1) (value.Int64 n2))) (add_wholes s t (int64_sort s n1 h) (int64_sort t n2 g)) (in_range_has (Of kind.Int64) _ _ refl)
add_has s t (value.Int64 n1) (value.Dec n2) h g = has_sort_as (Of kind.Decimal) _ (in_range (sum_of (value.Int64 n1) (value.Dec n2))) (ap (λ u. sort_or_broken (result_sort two.Add s u)) (decimal_sort t n2 g) ∙ add_whole_decimal s (int64_sort s n1 h)) (in_range_has (Of kind.Decimal) _ _ refl)
add_has s t (value.Int64 n1) (value.Logical c2) h g = unknown_any _
add_has s t (value.Int64 n1) (value.Date d2) h g = unknown_any _
add_has s t (value.Int64 n1) value.Unknown h g = unknown_any _
add_has s t (value.Dec n1) (value.Text t2) h g = unknown_any _
add_has s t (value.Dec n1) (value.Int n2) h g = has_sort_as (Of kind.Decimal) _ (in_range (sum_of (value.Dec n1) (value.Int n2))) (ap (λ u. sort_or_broken (result_sort two.Add u t)) (decimal_sort s n1 h) ∙ add_decimal_whole t (int_sort t n2 g)) (in_range_has (Of kind.Decimal) _ _ refl)
add_has s t (value.Dec n1) (value.Int64 n2) h g = has_sort_as (Of kind.Decimal) _ (in_range (sum_of (value.Dec n1) (value.Int64 n2))) (ap (λ u. sort_or_broken (result_sort two.Add u t)) (decimal_sort s n1 h) ∙ add_decimal_whole t (int64_sort t n2 g)) (in_range_has (Of kind.Decimal) _ _ refl)
add_has s t (value.Dec n1) (value.Dec n2) h g = has_sort_as (Of kind.Decimal) _ (in_range (sum_of (value.Dec n1) (value.Dec n2))) (ap (λ u. sort_or_broken (result_sort two.Add u t)) (decimal_sort s n1 h) ∙ ap (λ u. sort_or_broken (result_sort two.Add (Of kind.Decimal) u)) (decimal_sort t n2 g)) (in_range_has (Of kind.Decimal) _ _ refl)
add_has s t (value.Dec n1) (value.Logical c2) h g = unknown_any _
add_has s t (value.Dec n1) (value.Date d2) h g = unknown_any _
add_has s t (value.Dec n1) value.Unknown h g = unknown_any _
add_has s t (value.Logical c1) (value.Text t2) h g = unknown_any _
add_has s t (value.Logical c1) (value.Int n2) h g = unknown_any _
add_has s t (value.Logical c1) (value.Int64 n2) h g = unknown_any _
add_has s t (value.Logical c1) (value.Dec n2) h g = unknown_any _
add_has s t (value.Logical c1) (value.Logical c2) h g = unknown_any _
add_has s t (value.Logical c1) (value.Date d2) h g = unknown_any _
add_has s t (value.Logical c1) value.Unknown h g = unknown_any _
add_has s t (value.Date d1) (value.Text t2) h g = unknown_any _
add_has s t (value.Date d1) (value.Int n2) h g = has_sort_as (Of kind.Date) _ (in_range (sum_of (value.Date d1) (value.Int n2))) (ap (λ u. sort_or_broken (result_sort two.Add u t)) (date_sort s d1 h) ∙ add_date_whole t (int_sort t n2 g)) (in_range_has (Of kind.Date) _ _ refl)
add_has s t (value.Date d1) (value.Int64 n2) h g = has_sort_as (Of kind.Date) _ (in_range (sum_of (value.Date d1) (value.Int64 n2))) (ap (λ u. sort_or_broken (result_sort two.Add u t)) (date_sort s d1 h) ∙ add_date_whole t (int64_sort t n2 g)) (in_range_has (Of kind.Date) _ _ refl)
add_has s t (value.Date d1) (value.Dec n2) h g = unknown_any _
add_has s t (value.Date d1) (value.Logical c2) h g = unknown_any _
add_has s t (value.Date d1) (value.Date d2) h g = unknown_any _
add_has s t (value.Date d1) value.Unknown h g = unknown_any _
add_has s t value.Unknown (value.Text t2) h g = unknown_any _
add_has s t value.Unknown (value.Int n2) h g = unknown_any _
add_has s t value.Unknown (value.Int64 n2) h g = unknown_any _
add_has s t value.Unknown (value.Dec n2) h g = unknown_any _
add_has s t value.Unknown (value.Logical c2) h g = unknown_any _
add_has s t value.Unknown (value.Date d2) h g = unknown_any _
add_has s t value.Unknown value.Unknown h g = unknown_any _

pub subtract_has : (s t : Sort) (v w : Value) → has_sort s v ≡ true → has_sort t w ≡ true → Has (sort_or_broken (result_sort two.Subtract s t)) (in_range (difference_of v w))
unfolding difference_of
subtract_has s t (value.Text t1) (value.Text t2) h g = unknown_any _
subtract_has s t (value.Text t1) (value.Int n2) h g = unknown_any _
subtract_has s t (value.Text t1) (value.Int64 n2) h g = unknown_any _
subtract_has s t (value.Text t1) (value.Dec n2) h g = unknown_any _
subtract_has s t (value.Text t1) (value.Logical c2) h g = unknown_any _
subtract_has s t (value.Text t1) (value.Date d2) h g = unknown_any _
subtract_has s t (value.Text t1) value.Unknown h g = unknown_any _
subtract_has s t (value.Int n1) (value.Text t2) h g = unknown_any _
subtract_has s t (value.Int n1) (value.Int n2) h g = has_sort_as (Of kind.Int64) _ (in_range (difference_of (value.Int n1) (value.Int n2))) (subtract_wholes s t (int_sort s n1 h) (int_sort t n2 g)) (in_range_has (Of kind.Int64) _ _ refl)
subtract_has s t (value.Int n1) (value.Int64 n2) h g = has_sort_as (Of kind.Int64) _ (in_range (difference_of (value.Int n1) (value.Int64 n2))) (subtract_wholes s t (int_sort s n1 h) (int64_sort t n2 g)) (in_range_has (Of kind.Int64) _ _ refl)
subtract_has s t (value.Int n1) (value.Dec n2) h g = has_sort_as (Of kind.Decimal) _ (in_range (difference_of (value.Int n1) (value.Dec n2))) (ap (λ u. sort_or_broken (result_sort two.Subtract s u)) (decimal_sort t n2 g) ∙ subtract_whole_decimal s (int_sort s n1 h)) (in_range_has (Of kind.Decimal) _ _ refl)
subtract_has s t (value.Int n1) (value.Logical c2) h g = unknown_any _
subtract_has s t (value.Int n1) (value.Date d2) h g = unknown_any _
subtract_has s t (value.Int n1) value.Unknown h g = unknown_any _
subtract_has s t (value.Int64 n1) (value.Text t2) h g = unknown_any _
subtract_has s t (value.Int64 n1) (value.Int n2) h g = has_sort_as (Of kind.Int64) _ (in_range (difference_of (value.Int64 n1) (value.Int n2))) (subtract_wholes s t (int64_sort s n1 h) (int_sort t n2 g)) (in_range_has (Of kind.Int64) _ _ refl)
subtract_has s t (value.Int64 n1) (value.Int64 n2) h g = has_sort_as (Of kind.Int64) _ (in_range (difference_of (value.Int64 n1) (value.Int64 n2))) (subtract_wholes s t (int64_sort s n1 h) (int64_sort t n2 g)) (in_range_has (Of kind.Int64) _ _ refl)
subtract_has s t (value.Int64 n1) (value.Dec n2) h g = has_sort_as (Of kind.Decimal) _ (in_range (difference_of (value.Int64 n1) (value.Dec n2))) (ap (λ u. sort_or_broken (result_sort two.Subtract s u)) (decimal_sort t n2 g) ∙ subtract_whole_decimal s (int64_sort s n1 h)) (in_range_has (Of kind.Decimal) _ _ refl)
subtract_has s t (value.Int64 n1) (value.Logical c2) h g = unknown_any _
subtract_has s t (value.Int64 n1) (value.Date d2) h g = unknown_any _
subtract_has s t (value.Int64 n1) value.Unknown h g = unknown_any _
subtract_has s t (value.Dec n1) (value.Text t2) h g = unknown_any _
subtract_has s t (value.Dec n1) (value.Int n2) h g = has_sort_as (Of kind.Decimal) _ (in_range (difference_of (value.Dec n1) (value.Int n2))) (ap (λ u. sort_or_broken (result_sort two.Subtract u t)) (decimal_sort s n1 h) ∙ subtract_decimal_whole t (int_sort t n2 g)) (in_range_has (Of kind.Decimal) _ _ refl)
subtract_has s t (value.Dec n1) (value.Int64 n2) h g = has_sort_as (Of kind.Decimal) _ (in_range (difference_of (value.Dec n1) (value.Int64 n2))) (ap (λ u. sort_or_broken (result_sort two.Subtract u t)) (decimal_sort s n1 h) ∙ subtract_decimal_whole t (int64_sort t n2 g)) (in_range_has (Of kind.Decimal) _ _ refl)
subtract_has s t (value.Dec n1) (value.Dec n2) h g = has_sort_as (Of kind.Decimal) _ (in_range (difference_of (value.Dec n1) (value.Dec n2))) (ap (λ u. sort_or_broken (result_sort two.Subtract u t)) (decimal_sort s n1 h) ∙ ap (λ u. sort_or_broken (result_sort two.Subtract (Of kind.Decimal) u)) (decimal_sort t n2 g)) (in_range_has (Of kind.Decimal) _ _ refl)
subtract_has s t (value.Dec n1) (value.Logical c2) h g = unknown_any _
subtract_has s t (value.Dec n1) (value.Date d2) h g = unknown_any _
subtract_has s t (value.Dec n1) value.Unknown h g = unknown_any _
subtract_has s t (value.Logical c1) (value.Text t2) h g = unknown_any _
subtract_has s t (value.Logical c1) (value.Int n2) h g = unknown_any _
subtract_has s t (value.Logical c1) (value.Int64 n2) h g = unknown_any _
subtract_has s t (value.Logical c1) (value.Dec n2) h g = unknown_any _
subtract_has s t (value.Logical c1) (value.Logical c2) h g = unknown_any _
subtract_has s t (value.Logical c1) (value.Date d2) h g = unknown_any _
subtract_has s t (value.Logical c1) value.Unknown h g = unknown_any _
subtract_has s t (value.Date d1) (value.Text t2) h g = unknown_any _
subtract_has s t (value.Date d1) (value.Int n2) h g = has_sort_as (Of kind.Date) _ (in_range (difference_of (value.Date d1) (value.Int n2))) (ap (λ u. sort_or_broken (result_sort two.Subtract u t)) (date_sort s d1 h) ∙ subtract_date_whole t (int_sort t n2 g)) (in_range_has (Of kind.Date) _ _ refl)
subtract_has s t (value.Date d1) (value.Int64 n2) h g = has_sort_as (Of kind.Date) _ (in_range (difference_of (value.Date d1) (value.Int64 n2))) (ap (λ u. sort_or_broken (result_sort two.Subtract u t)) (date_sort s d1 h) ∙ subtract_date_whole t (int64_sort t n2 g)) (in_range_has (Of kind.Date) _ _ refl)
subtract_has s t (value.Date d1) (value.Dec n2) h g = unknown_any _
subtract_has s t (value.Date d1) (value.Logical c2) h g = unknown_any _
subtract_has s t (value.Date d1) (value.Date d2) h g = has_sort_as (Of kind.Int64) _ (in_range (difference_of (value.Date d1) (value.Date d2))) (ap (λ u. sort_or_broken (result_sort two.Subtract u t)) (date_sort s d1 h) ∙ ap (λ u. sort_or_broken (result_sort two.Subtract (Of kind.Date) u)) (date_sort t d2 g)) (in_range_has (Of kind.Int64) _ _ refl)
subtract_has s t (value.Date d1) value.Unknown h g = unknown_any _
subtract_has s t value.Unknown (value.Text t2) h g = unknown_any _
subtract_has s t value.Unknown (value.Int n2) h g = unknown_any _
subtract_has s t value.Unknown (value.Int64 n2) h g = unknown_any _
subtract_has s t value.Unknown (value.Dec n2) h g = unknown_any _
subtract_has s t value.Unknown (value.Logical c2) h g = unknown_any _
subtract_has s t value.Unknown (value.Date d2) h g = unknown_any _
subtract_has s t value.Unknown value.Unknown h g = unknown_any _

pub multiply_has : (s t : Sort) (v w : Value) → has_sort s v ≡ true → has_sort t w ≡ true → Has (sort_or_broken (result_sort two.Multiply s t)) (in_range (product_of v w))
unfolding product_of
multiply_has s t (value.Text t1) (value.Text t2) h g = unknown_any _
multiply_has s t (value.Text t1) (value.Int n2) h g = unknown_any _
multiply_has s t (value.Text t1) (value.Int64 n2) h g = unknown_any _
multiply_has s t (value.Text t1) (value.Dec n2) h g = unknown_any _
multiply_has s t (value.Text t1) (value.Logical c2) h g = unknown_any _
multiply_has s t (value.Text t1) (value.Date d2) h g = unknown_any _
multiply_has s t (value.Text t1) value.Unknown h g = unknown_any _
multiply_has s t (value.Int n1) (value.Text t2) h g = unknown_any _
multiply_has s t (value.Int n1) (value.Int n2) h g = has_sort_as (Of kind.Int64) _ (in_range (product_of (value.Int n1) (value.Int n2))) (multiply_wholes s t (int_sort s n1 h) (int_sort t n2 g)) (in_range_has (Of kind.Int64) _ _ refl)
multiply_has s t (value.Int n1) (value.Int64 n2) h g = has_sort_as (Of kind.Int64) _ (in_range (product_of (value.Int n1) (value.Int64 n2))) (multiply_wholes s t (int_sort s n1 h) (int64_sort t n2 g)) (in_range_has (Of kind.Int64) _ _ refl)
multiply_has s t (value.Int n1) (value.Dec n2) h g = has_sort_as (Of kind.Decimal) _ (in_range (product_of (value.Int n1) (value.Dec n2))) (ap (λ u. sort_or_broken (result_sort two.Multiply s u)) (decimal_sort t n2 g) ∙ multiply_whole_decimal s (int_sort s n1 h)) (product_has (scaled n1) n2)
multiply_has s t (value.Int n1) (value.Logical c2) h g = unknown_any _
multiply_has s t (value.Int n1) (value.Date d2) h g = unknown_any _
multiply_has s t (value.Int n1) value.Unknown h g = unknown_any _
multiply_has s t (value.Int64 n1) (value.Text t2) h g = unknown_any _
multiply_has s t (value.Int64 n1) (value.Int n2) h g = has_sort_as (Of kind.Int64) _ (in_range (product_of (value.Int64 n1) (value.Int n2))) (multiply_wholes s t (int64_sort s n1 h) (int_sort t n2 g)) (in_range_has (Of kind.Int64) _ _ refl)
multiply_has s t (value.Int64 n1) (value.Int64 n2) h g = has_sort_as (Of kind.Int64) _ (in_range (product_of (value.Int64 n1) (value.Int64 n2))) (multiply_wholes s t (int64_sort s n1 h) (int64_sort t n2 g)) (in_range_has (Of kind.Int64) _ _ refl)
multiply_has s t (value.Int64 n1) (value.Dec n2) h g = has_sort_as (Of kind.Decimal) _ (in_range (product_of (value.Int64 n1) (value.Dec n2))) (ap (λ u. sort_or_broken (result_sort two.Multiply s u)) (decimal_sort t n2 g) ∙ multiply_whole_decimal s (int64_sort s n1 h)) (product_has (scaled n1) n2)
multiply_has s t (value.Int64 n1) (value.Logical c2) h g = unknown_any _
multiply_has s t (value.Int64 n1) (value.Date d2) h g = unknown_any _
multiply_has s t (value.Int64 n1) value.Unknown h g = unknown_any _
multiply_has s t (value.Dec n1) (value.Text t2) h g = unknown_any _
multiply_has s t (value.Dec n1) (value.Int n2) h g = has_sort_as (Of kind.Decimal) _ (in_range (product_of (value.Dec n1) (value.Int n2))) (ap (λ u. sort_or_broken (result_sort two.Multiply u t)) (decimal_sort s n1 h) ∙ multiply_decimal_whole t (int_sort t n2 g)) (product_has n1 (scaled n2))
multiply_has s t (value.Dec n1) (value.Int64 n2) h g = has_sort_as (Of kind.Decimal) _ (in_range (product_of (value.Dec n1) (value.Int64 n2))) (ap (λ u. sort_or_broken (result_sort two.Multiply u t)) (decimal_sort s n1 h) ∙ multiply_decimal_whole t (int64_sort t n2 g)) (product_has n1 (scaled n2))
multiply_has s t (value.Dec n1) (value.Dec n2) h g = has_sort_as (Of kind.Decimal) _ (in_range (product_of (value.Dec n1) (value.Dec n2))) (ap (λ u. sort_or_broken (result_sort two.Multiply u t)) (decimal_sort s n1 h) ∙ ap (λ u. sort_or_broken (result_sort two.Multiply (Of kind.Decimal) u)) (decimal_sort t n2 g)) (product_has n1 n2)
multiply_has s t (value.Dec n1) (value.Logical c2) h g = unknown_any _
multiply_has s t (value.Dec n1) (value.Date d2) h g = unknown_any _
multiply_has s t (value.Dec n1) value.Unknown h g = unknown_any _
multiply_has s t (value.Logical c1) (value.Text t2) h g = unknown_any _
multiply_has s t (value.Logical c1) (value.Int n2) h g = unknown_any _
multiply_has s t (value.Logical c1) (value.Int64 n2) h g = unknown_any _
multiply_has s t (value.Logical c1) (value.Dec n2) h g = unknown_any _
multiply_has s t (value.Logical c1) (value.Logical c2) h g = unknown_any _
multiply_has s t (value.Logical c1) (value.Date d2) h g = unknown_any _
multiply_has s t (value.Logical c1) value.Unknown h g = unknown_any _
multiply_has s t (value.Date d1) (value.Text t2) h g = unknown_any _
multiply_has s t (value.Date d1) (value.Int n2) h g = unknown_any _
multiply_has s t (value.Date d1) (value.Int64 n2) h g = unknown_any _
multiply_has s t (value.Date d1) (value.Dec n2) h g = unknown_any _
multiply_has s t (value.Date d1) (value.Logical c2) h g = unknown_any _
multiply_has s t (value.Date d1) (value.Date d2) h g = unknown_any _
multiply_has s t (value.Date d1) value.Unknown h g = unknown_any _
multiply_has s t value.Unknown (value.Text t2) h g = unknown_any _
multiply_has s t value.Unknown (value.Int n2) h g = unknown_any _
multiply_has s t value.Unknown (value.Int64 n2) h g = unknown_any _
multiply_has s t value.Unknown (value.Dec n2) h g = unknown_any _
multiply_has s t value.Unknown (value.Logical c2) h g = unknown_any _
multiply_has s t value.Unknown (value.Date d2) h g = unknown_any _
multiply_has s t value.Unknown value.Unknown h g = unknown_any _

pub two_has : (op : Binary) (s t : Sort) (v w : Value) → is_broken (sort_or_broken (result_sort op s t)) ≡ false → has_sort s v ≡ true → has_sort t w ≡ true → Has (sort_or_broken (result_sort op s t)) (two_of op v w)
unfolding quotient_of remainder_of
two_has two.Add s t v w h p q = add_has s t v w p q
two_has two.Subtract s t v w h p q = subtract_has s t v w p q
two_has two.Multiply s t v w h p q = multiply_has s t v w p q
two_has two.Divide s t v w h p q = has_sort_as (Of kind.Decimal) _ (two_of two.Divide v w) (fixed _ _ _ h) (quotient_has (operand v) (operand w))
two_has two.Modulo s t v w h p q = has_sort_as (Of kind.Int64) _ (two_of two.Modulo v w) (fixed _ _ _ h) (remainder_has (operand v) (operand w))
two_has two.Equal s t v w h p q = has_sort_as (Of kind.Logical) _ (two_of two.Equal v w) (fixed _ _ _ h) refl
two_has two.Unequal s t v w h p q = has_sort_as (Of kind.Logical) _ (two_of two.Unequal v w) (fixed _ _ _ h) refl
two_has two.Less s t v w h p q = has_sort_as (Of kind.Logical) _ (two_of two.Less v w) (fixed _ _ _ h) (compared_has (is_unknown v) (is_unknown w) _ _)
two_has two.Greater s t v w h p q = has_sort_as (Of kind.Logical) _ (two_of two.Greater v w) (fixed _ _ _ h) (compared_has (is_unknown v) (is_unknown w) _ _)
two_has two.AtMost s t v w h p q = has_sort_as (Of kind.Logical) _ (two_of two.AtMost v w) (fixed _ _ _ h) (compared_has (is_unknown v) (is_unknown w) _ _)
two_has two.AtLeast s t v w h p q = has_sort_as (Of kind.Logical) _ (two_of two.AtLeast v w) (fixed _ _ _ h) (compared_has (is_unknown v) (is_unknown w) _ _)
two_has two.Begins s t v w h p q = has_sort_as (Of kind.Logical) _ (two_of two.Begins v w) (fixed _ _ _ h) (begins_has v w)
two_has two.NumEntries s t v w h p q = has_sort_as (Of kind.Int64) _ (two_of two.NumEntries v w) (fixed _ _ _ h) (entries_has _ _)
