-- Results that have a sort, and the sorts that a value may have.
use Rattle.std.proofs.Common.{◌≡◌, ℕ, Bool, true, false, List, Option, refl, sym, ap, subst}
use Rattle.std.specs.Prelude.{◌&&◌, ◌||◌, not, if◌then◌else◌, Result, Ok, Err, ℤ}
use Rattle.abl_base.specs.declared.value.Kind.{Kind}
use Rattle.abl_base.specs.declared.value.Kind.TheVariants as kind
use Rattle.abl_base.specs.declared.value.Value.{Value}
use Rattle.abl_base.specs.declared.value.Value.TheVariants as value
use Rattle.abl_values.specs.declared.arithmetic.ArithFault.{ArithFault}
use Rattle.abl_values.specs.Arithmetic.{Operand, decimal, day, none, text, whole, decimal_product, decimal_quotient, difference, difference_of, operand, product, product_of, quotient, quotient_of, remainder, remainder_of, sum, sum_of, whole_remainder, fits_bits}
use Rattle.abl_values.specs.Arithmetic as a
use Rattle.abl_values.specs.Fit.{fitted}
use Rattle.expression_meaning.specs.Operators.{Given, in_range}
use Rattle.expression_meaning.specs.Evaluate.{bind}
use Rattle.bind_names.specs.declared.sort.Sort.{Sort}
use Rattle.bind_names.specs.declared.sort.Sort.TheVariants.{Of, Unknown, Broken}
use Rattle.bind_names.specs.Sorts.{is_broken, is_of, is_whole_kind, may, negated, same_kind, sort_of_value, sort_or_broken, unless_broken, where_holds}
use Rattle.bind_expressions.specs.WellKinded.{given}
use Rattle.kind_laws.specs.bound_kinds.Values.{Has, has_sort, is_like}
use Rattle.kind_laws.proofs.BoundKindsLemmas.Parts.{Maybe, both_right}
use Rattle.kind_laws.proofs.BoundKindsLemmas.Sane.{IsOne, fitted_is}
use Rattle.bind_statements.specs.Definitions.{value_in}

-- ---- values and results

pub unknown_any : (s : Sort) → has_sort s value.Unknown ≡ true
unknown_any (Of k) = refl
unknown_any Unknown = refl
unknown_any Broken = refl

-- the result of an operator, an overflow included
pub in_range_has : (s : Sort) (c : Bool) (v : Value) → has_sort s v ≡ true → Has s (in_range (a.in_range c v))
in_range_has s true v h = h
in_range_has s false v h = tt

pub like_same : (k l : Kind) → same_kind k l ≡ true → is_like k l ≡ true
like_same k l h = ap (λ c. c || (is_whole_kind k && is_whole_kind l)) h

pub like_may : (k : Kind) (s : Sort) → may (same_kind k) s ≡ true → may (is_like k) s ≡ true
like_may k (Of l) h = like_same k l h
like_may k Unknown h = refl
like_may k Broken h = refl

pub result_has : (k : Kind) (r : Result Value ArithFault) → Maybe (IsOne k) (value_in r) → Has (Of k) (in_range r)
result_has k (Ok v) h = like_may k (sort_of_value v) h
result_has k (Err fault) h = tt

pub fitted_has : (v : Value) (k : Kind) → Has (Of k) (in_range (fitted v k))
fitted_has v k = result_has k (fitted v k) (fitted_is v k)

pub has_bind : (s t : Sort) (g : Given) (f : Value → Given) → Has s g → ((v : Value) → has_sort s v ≡ true → Has t (f v)) → Has t (bind g f)
has_bind s t (Ok v) f h r = r v h
has_bind s t (Err fault) f h r = tt

pub has_sort_as : (s t : Sort) (g : Given) → t ≡ s → Has s g → Has t g
has_sort_as s t g e h = subst (λ u. Has u g) (sym e) h

-- ---- sorts that are not broken

pub gate_is : (c : Bool) (s : Sort) → is_broken (if c then s else Broken) ≡ false → (if c then s else Broken) ≡ s
gate_is true s h = refl
gate_is false s h = absurd cc

pub given_is : (c : Bool) (x s : Sort) → is_broken (given c x s) ≡ false → given c x s ≡ s
given_is c x s h = gate_is (c && not (is_broken x)) s h

pub gate_in : (c : Bool) (s : Sort) → is_broken (if c then s else Broken) ≡ false → is_broken s ≡ false
gate_in true s h = h
gate_in false s h = absurd cc

pub gate_holds : (c : Bool) (s : Sort) → is_broken (if c then s else Broken) ≡ false → c ≡ true
gate_holds true s h = refl
gate_holds false s h = absurd cc

pub not_true : (c : Bool) → not c ≡ true → c ≡ false
not_true true h = absurd cc
not_true false h = refl

pub given_part : (c : Bool) (x s : Sort) → is_broken (given c x s) ≡ false → is_broken x ≡ false
given_part c x s h = not_true (is_broken x) (both_right c _ (gate_holds (c && not (is_broken x)) s h))

pub given_rest : (c : Bool) (x s : Sort) → is_broken (given c x s) ≡ false → is_broken s ≡ false
given_rest c x s h = gate_in (c && not (is_broken x)) s h

pub fixed : (c d : Bool) (s : Sort) → is_broken (sort_or_broken (unless_broken c (where_holds d s))) ≡ false → sort_or_broken (unless_broken c (where_holds d s)) ≡ s
fixed true d s h = absurd cc
fixed false true s h = refl
fixed false false s h = absurd cc

pub fixed_holds : (c d : Bool) (s : Sort) → is_broken (sort_or_broken (unless_broken c (where_holds d s))) ≡ false → d ≡ true
fixed_holds true d s h = absurd cc
fixed_holds false true s h = refl
fixed_holds false false s h = absurd cc

pub first_part : (a c : Bool) (o : Option Sort) → is_broken (sort_or_broken (unless_broken (a || c) o)) ≡ false → a ≡ false
first_part true c o h = absurd cc
first_part false c o h = refl

pub second_part : (a c : Bool) (o : Option Sort) → is_broken (sort_or_broken (unless_broken (a || c) o)) ≡ false → c ≡ false
second_part true c o h = absurd cc
second_part false true o h = absurd cc
second_part false false o h = refl

-- ---- which sorts a value may have

pub text_sort : (s : Sort) (t : List ℕ) → has_sort s (value.Text t) ≡ true → s ≡ Of kind.Character
text_sort (Of kind.Character) t h = refl
text_sort (Of k) t h = absurd cc
text_sort Unknown t h = absurd cc
text_sort Broken t h = absurd cc

pub decimal_sort : (s : Sort) (n : ℤ) → has_sort s (value.Dec n) ≡ true → s ≡ Of kind.Decimal
decimal_sort (Of kind.Decimal) n h = refl
decimal_sort (Of k) n h = absurd cc
decimal_sort Unknown n h = absurd cc
decimal_sort Broken n h = absurd cc

pub date_sort : (s : Sort) (d : ℤ) → has_sort s (value.Date d) ≡ true → s ≡ Of kind.Date
date_sort (Of kind.Date) d h = refl
date_sort (Of k) d h = absurd cc
date_sort Unknown d h = absurd cc
date_sort Broken d h = absurd cc

abbrev pub IsWhole : Sort → Type 0
IsWhole s = is_of is_whole_kind s ≡ true

pub int_sort : (s : Sort) (n : ℤ) → has_sort s (value.Int n) ≡ true → IsWhole s
int_sort (Of kind.Integer) n h = refl
int_sort (Of kind.Int64) n h = refl
int_sort (Of k) n h = absurd cc
int_sort Unknown n h = absurd cc
int_sort Broken n h = absurd cc

pub int64_sort : (s : Sort) (n : ℤ) → has_sort s (value.Int64 n) ≡ true → IsWhole s
int64_sort (Of kind.Integer) n h = refl
int64_sort (Of kind.Int64) n h = refl
int64_sort (Of k) n h = absurd cc
int64_sort Unknown n h = absurd cc
int64_sort Broken n h = absurd cc

pub whole_has : (s : Sort) (n : ℤ) → IsWhole s → has_sort s (value.Int64 n) ≡ true
whole_has (Of kind.Integer) n h = refl
whole_has (Of kind.Int64) n h = refl
whole_has (Of k) n h = absurd cc
whole_has Unknown n h = absurd cc
whole_has Broken n h = absurd cc

pub whole_negated : (s : Sort) → IsWhole s → negated s ≡ Of kind.Int64
whole_negated (Of kind.Integer) h = refl
whole_negated (Of kind.Int64) h = refl
whole_negated (Of k) h = absurd cc
whole_negated Unknown h = absurd cc
whole_negated Broken h = absurd cc

pub decimal_again : (s : Sort) (n m : ℤ) → has_sort s (value.Dec n) ≡ true → has_sort s (value.Dec m) ≡ true
decimal_again s n m h = subst (λ t. has_sort t (value.Dec m) ≡ true) (sym (decimal_sort s n h)) refl

pub decimal_negated : (s : Sort) (n m : ℤ) → has_sort s (value.Dec n) ≡ true → has_sort (negated s) (value.Dec m) ≡ true
decimal_negated s n m h = subst (λ t. has_sort (negated t) (value.Dec m) ≡ true) (sym (decimal_sort s n h)) refl

pub negated_has : (s : Sort) (m : ℤ) → IsWhole s → has_sort (negated s) (value.Int64 m) ≡ true
negated_has s m h = subst (λ t. has_sort t (value.Int64 m) ≡ true) (sym (whole_negated s h)) refl
