-- The value of a well-kinded expression has the expression's sort.
use Rattle.std.proofs.Common.{◌≡◌, ℕ, Bool, true, false, List, [], ◌∷◌, Option, Some, None, zero, suc, refl, sym, ap, subst, ◌∙◌}
use Rattle.std.specs.Prelude.{IfSome, ◌&&◌, ◌||◌, not, if◌then◌else◌, length, nat_lt, Ok, Err, ℤ, pos, negsuc}
use Rattle.abl_base.specs.declared.value.Kind.{Kind}
use Rattle.abl_base.specs.declared.value.Kind.TheVariants as kind
use Rattle.abl_base.specs.declared.value.Value.{Value}
use Rattle.abl_base.specs.declared.value.Value.TheVariants as value
use Rattle.abl_base.specs.text_forms.TextForms.{TextForms}
use Rattle.bound_tree.specs.declared.expression.Ternary.{Ternary}
use Rattle.bound_tree.specs.declared.expression.Ternary.TheVariants as three
use Rattle.bound_tree.specs.Tree as b
use Rattle.bound_tree.specs.Tree.{Expr}
use Rattle.expression_meaning.specs.Env.{Env}
use Rattle.expression_meaning.specs.Operators.{Given, and_then, holds, is_unknown, or_else}
use Rattle.expression_meaning.specs.Functions.{as_masked, cut, cut_from, date_of, day_or, entry, entry_by, part_at, part_if, substring, text_in, whole_in}
use Rattle.expression_meaning.specs.Evaluate.{as_kind, bind, branch, evaluate, field_or, literal, literal_if, one_of, three_of, two_of}
use Rattle.bind_names.specs.declared.sort.Sort.{Sort}
use Rattle.bind_names.specs.declared.sort.Sort.TheVariants.{Of, Unknown, Broken}
use Rattle.bind_names.specs.Sorts.{branch_sort, if_sort, is_broken, is_number_kind, kind_in, may, may_be_logical, mask_fits, result_sort, same_kind, sort_of_value, sort_or_broken, where_holds}
use Rattle.bind_expressions.specs.WellKinded.{given, sort_of, sort_of_one, sort_of_three}
use Rattle.kind_laws.specs.bound_kinds.WellKinded.{Surroundings, is_good, is_marked, is_same_mark, is_shown}
use Rattle.kind_laws.specs.bound_kinds.Values.{Has, Keeps, has_sort, is_like, is_masked_by}
use Rattle.kind_laws.proofs.BoundKindsLemmas.Parts.{both_left, both_right}
use Rattle.kind_laws.proofs.BoundKindsLemmas.Records.{kind_same}
use Rattle.abl_base.specs.declared.limits.TheConstants.{MAX_TEXT_BYTES}
use Rattle.abl_values.specs.Masks.{mask_is_for}
use Rattle.kind_laws.proofs.BoundKindsLemmas.Results.{fitted_has, has_bind, has_sort_as, gate_is, given_is, gate_in, gate_holds, not_true, given_part, given_rest, fixed, fixed_holds, first_part, second_part}
use Rattle.kind_laws.proofs.BoundKindsLemmas.ValuesOfOne.{unless_has, one_has, one_part}
use Rattle.kind_laws.proofs.BoundKindsLemmas.ValuesOfTwo.{two_has}

-- ---- functions of three values

part_has : (c : Bool) (parts : List (List ℕ)) (i : ℕ) → Has (Of kind.Character) (part_if c parts i)
part_has true parts i = refl
part_has false parts i = tt

at_has : (i : ℤ) (parts : List (List ℕ)) → Has (Of kind.Character) (part_at i parts)
at_has (pos zero) parts = tt
at_has (pos (suc i)) parts = part_has _ parts i
at_has (negsuc i) parts = tt

entry_by_has : (d : List ℕ) (i : ℤ) (list : List ℕ) → Has (Of kind.Character) (entry_by d i list)
entry_by_has [] i list = tt
entry_by_has (c ∷ d) i list = at_has i _

entry_has : (o : Option ℤ) (p q : Option (List ℕ)) → Has (Of kind.Character) (entry o p q)
entry_has None p q = refl
entry_has (Some i) None q = refl
entry_has (Some i) (Some list) None = refl
entry_has (Some i) (Some list) (Some d) = entry_by_has d i list

cut_has : (t : List ℕ) (first : ℕ) (n : ℤ) → Has (Of kind.Character) (cut t first n)
cut_has t first (pos n) = refl
cut_has t first (negsuc zero) = refl
cut_has t first (negsuc (suc n)) = tt

cut_from_has : (t : List ℕ) (i n : ℤ) → Has (Of kind.Character) (cut_from t i n)
cut_from_has t (pos zero) n = tt
cut_from_has t (pos (suc i)) n = cut_has t i n
cut_from_has t (negsuc i) n = tt

substring_has : (o : Option (List ℕ)) (p q : Option ℤ) → Has (Of kind.Character) (substring o p q)
substring_has None p q = refl
substring_has (Some t) None q = refl
substring_has (Some t) (Some i) None = refl
substring_has (Some t) (Some i) (Some n) = cut_from_has t i n

day_has : (o : Option ℤ) → Has (Of kind.Date) (day_or o)
day_has (Some d) = refl
day_has None = tt

date_has : (o p q : Option ℤ) → Has (Of kind.Date) (date_of o p q)
date_has None p q = refl
date_has (Some m) None q = refl
date_has (Some m) (Some d) None = refl
date_has (Some m) (Some d) (Some y) = day_has _

given_three : (c d e : Bool) (x y z s : Sort) → is_broken (given c x (given d y (given e z s))) ≡ false → given c x (given d y (given e z s)) ≡ s
given_three c d e x y z s h =
    let second = given_rest c x (given d y (given e z s)) h in
    let third = given_rest d y (given e z s) second in
    given_is c x (given d y (given e z s)) h ∙ given_is d y (given e z s) second ∙ given_is e z s third

three_has : (op : Ternary) (x y z : Sort) (u v w : Value) → is_broken (sort_of_three op x y z) ≡ false → Has (sort_of_three op x y z) (three_of op u v w)
three_has three.Substring x y z u v w h = has_sort_as (Of kind.Character) _ (three_of three.Substring u v w) (given_three _ _ _ x y z _ h) (substring_has (text_in u) (whole_in v) (whole_in w))
three_has three.Entry x y z u v w h = has_sort_as (Of kind.Character) _ (three_of three.Entry u v w) (given_three _ _ _ x y z _ h) (entry_has (whole_in u) (text_in v) (text_in w))
three_has three.DateOf x y z u v w h = has_sort_as (Of kind.Date) _ (three_of three.DateOf u v w) (given_three _ _ _ x y z _ h) (date_has (whole_in u) (whole_in v) (whole_in w))

-- the arguments of such a function are not broken
pub record AreSound (x y z : Sort) : Type 0 where
  pub first : is_broken x ≡ false
  pub second : is_broken y ≡ false
  pub third : is_broken z ≡ false

given_parts : (c d e : Bool) (x y z s : Sort) → is_broken (given c x (given d y (given e z s))) ≡ false → AreSound x y z
given_parts c d e x y z s h =
    let second = given_rest c x (given d y (given e z s)) h in
    record { first = given_part c x (given d y (given e z s)) h; second = given_part d y (given e z s) second; third = given_part e z s (given_rest d y (given e z s) second) }

three_parts : (op : Ternary) (x y z : Sort) → is_broken (sort_of_three op x y z) ≡ false → AreSound x y z
three_parts three.Substring x y z h = given_parts _ _ _ x y z _ h
three_parts three.Entry x y z h = given_parts _ _ _ x y z _ h
three_parts three.DateOf x y z h = given_parts _ _ _ x y z _ h

-- ---- AND, OR and IF

logical_value : (t : Sort) (w : Value) → may_be_logical t ≡ true → has_sort t w ≡ true → has_sort (Of kind.Logical) w ≡ true
logical_value (Of kind.Logical) w h g = g
logical_value (Of k) w h g = absurd cc
logical_value Unknown value.Unknown h g = refl
logical_value Unknown w h g = absurd cc
logical_value Broken value.Unknown h g = refl
logical_value Broken w h g = absurd cc

logical_given : (t : Sort) (g : Given) → may_be_logical t ≡ true → Has t g → Has (Of kind.Logical) g
logical_given t (Ok w) h g = logical_value t w h g
logical_given t (Err fault) h g = tt

and_has : (v : Value) (g : Given) → Has (Of kind.Logical) g → Has (Of kind.Logical) (and_then v g)
and_has (value.Logical false) g h = refl
and_has (value.Logical true) g h = h
and_has v (Ok w) h = refl
and_has v (Err fault) h = tt

or_has : (v : Value) (g : Given) → Has (Of kind.Logical) g → Has (Of kind.Logical) (or_else v g)
or_has (value.Logical true) g h = refl
or_has (value.Logical false) g h = h
or_has v (Ok w) h = refl
or_has v (Err fault) h = tt

mark_is : (k l : Option Kind) → is_same_mark k l ≡ true → k ≡ l
mark_is None None h = refl
mark_is None (Some l) h = absurd cc
mark_is (Some k) None h = absurd cc
mark_is (Some k) (Some l) h = ap Some (sym (kind_same k l h))

not_unknown : (c d e : Bool) (k : Kind) → sort_or_broken (if c then Some (Of k) else where_holds d (if e then Of kind.Decimal else Of kind.Int64)) ≡ Unknown → ⊥
not_unknown true d e k h = absurd cc
not_unknown false true true k h = absurd cc
not_unknown false true false k h = absurd cc
not_unknown false false e k h = absurd cc

-- the branches of an IF without a kind are both `?`
pub record AreUnknown (s t : Sort) : Type 0 where
  pub one : s ≡ Unknown
  pub other : t ≡ Unknown

unknown_branches : (s t : Sort) → sort_or_broken (branch_sort s t) ≡ Unknown → AreUnknown s t
unknown_branches Unknown Unknown e = record { one = refl; other = refl }
unknown_branches (Of k) (Of l) e = absurd (not_unknown (same_kind k l) (is_number_kind k && is_number_kind l) (same_kind k kind.Decimal || same_kind l kind.Decimal) k e)
unknown_branches (Of k) Unknown e = absurd cc
unknown_branches (Of k) Broken e = absurd cc
unknown_branches Unknown (Of l) e = absurd cc
unknown_branches Unknown Broken e = absurd cc
unknown_branches Broken (Of l) e = absurd cc
unknown_branches Broken Unknown e = absurd cc
unknown_branches Broken Broken e = absurd cc

any_bind : (s : Sort) (g : Given) (f : Value → Given) → ((v : Value) → Has s (f v)) → Has s (bind g f)
any_bind s (Ok v) f h = h v
any_bind s (Err fault) f h = tt

as_it_is : (c : Bool) (f g : Given) → Has Unknown f → Has Unknown g → Has Unknown (bind (branch c f g) (as_kind None))
as_it_is true (Ok v) g h i = h
as_it_is true (Err fault) g h i = tt
as_it_is false f (Ok v) h i = i
as_it_is false f (Err fault) h i = tt

if_has : (r : Sort) (c : Bool) (f g : Given) (s t : Sort) → Has s f → Has t g → is_broken r ≡ false → (r ≡ Unknown → AreUnknown s t) → Has r (bind (branch c f g) (as_kind (kind_in r)))
if_has (Of k) c f g s t h i n u = any_bind (Of k) (branch c f g) (as_kind (Some k)) (λ v. fitted_has v k)
if_has Unknown c f g s t h i n u = let both : AreUnknown s t = u refl in as_it_is c f g (subst (λ r. Has r f) both.one h) (subst (λ r. Has r g) both.other i)
if_has Broken c f g s t h i n u = absurd cc

-- ---- expressions

literal_has : (v : Value) → Has (sort_of_value v) (literal v)
literal_has (value.Text t) = go (nat_lt MAX_TEXT_BYTES (length t))
  where
    go : (c : Bool) → Has (Of kind.Character) (literal_if c (value.Text t))
    go true = tt
    go false = refl
literal_has (value.Int n) = refl
literal_has (value.Int64 n) = refl
literal_has (value.Dec n) = refl
literal_has (value.Logical c) = refl
literal_has (value.Date d) = refl
literal_has value.Unknown = refl

field_has : (buffer : ℕ) (k : Kind) (o : Option Value) → IfSome o (λ v. has_sort (Of k) v ≡ true) → Has (Of k) (field_or o buffer)
field_has buffer k (Some v) i = i
field_has buffer k None i = tt

pub has_kind : (x : Surroundings) (forms : TextForms) (env : Env) (e : Expr) → Keeps env e → is_marked x e ≡ true → is_broken (sort_of e) ≡ false → Has (sort_of e) (evaluate forms env e)
has_kind x forms env (b.Literal v) i m h = literal_has v
has_kind x forms env (b.TheVariable v) i m h = i
has_kind x forms env (b.TheField buffer field k) i m h = field_has buffer k (env.field buffer field) i
has_kind x forms env (b.One op a) i m h =
    has_bind (sort_of a) (sort_of_one op (sort_of a)) (evaluate forms env a) (one_of forms op) (has_kind x forms env a i m (one_part op (sort_of a) h)) (λ v g. one_has forms op (sort_of a) v h g)
has_kind x forms env (b.Two op a c) i m h =
    let s = sort_or_broken (result_sort op (sort_of a) (sort_of c)) in
    let first = has_kind x forms env a i.0 (both_left (is_marked x a) _ m) (first_part (is_broken (sort_of a)) (is_broken (sort_of c)) _ h) in
    let second = has_kind x forms env c i.1 (both_right (is_marked x a) _ m) (second_part (is_broken (sort_of a)) (is_broken (sort_of c)) _ h) in
    has_bind (sort_of a) s (evaluate forms env a) (λ v. bind (evaluate forms env c) (two_of op v)) first
    (λ v p. has_bind (sort_of c) s (evaluate forms env c) (two_of op v) second (λ w q. two_has op (sort_of a) (sort_of c) v w h p q))
has_kind x forms env (b.Three op a c d) i m h =
    let s = sort_of_three op (sort_of a) (sort_of c) (sort_of d) in
    let parts = three_parts op (sort_of a) (sort_of c) (sort_of d) h in
    let others = both_right (is_marked x a) _ m in
    let first = has_kind x forms env a i.0 (both_left (is_marked x a) _ m) parts.first in
    let second = has_kind x forms env c i.1 (both_left (is_marked x c) _ others) parts.second in
    let third = has_kind x forms env d i.2 (both_right (is_marked x c) _ others) parts.third in
    has_bind (sort_of a) s (evaluate forms env a) (λ u. bind (evaluate forms env c) (λ v. bind (evaluate forms env d) (three_of op u v))) first
    (λ u p. has_bind (sort_of c) s (evaluate forms env c) (λ v. bind (evaluate forms env d) (three_of op u v)) second
    (λ v q. has_bind (sort_of d) s (evaluate forms env d) (three_of op u v) third (λ w r. three_has op (sort_of a) (sort_of c) (sort_of d) u v w h)))
has_kind x forms env (b.Both a c) i m h =
    let first = has_kind x forms env a i.0 (both_left (is_marked x a) _ m) (first_part (is_broken (sort_of a)) (is_broken (sort_of c)) _ h) in
    let second = has_kind x forms env c i.1 (both_right (is_marked x a) _ m) (second_part (is_broken (sort_of a)) (is_broken (sort_of c)) _ h) in
    let may = both_right (may_be_logical (sort_of a)) _ (fixed_holds (is_broken (sort_of a) || is_broken (sort_of c)) (may_be_logical (sort_of a) && may_be_logical (sort_of c)) (Of kind.Logical) h) in
    has_sort_as (Of kind.Logical) _ (bind (evaluate forms env a) (λ v. and_then v (evaluate forms env c))) (fixed (is_broken (sort_of a) || is_broken (sort_of c)) (may_be_logical (sort_of a) && may_be_logical (sort_of c)) (Of kind.Logical) h)
    (has_bind (sort_of a) (Of kind.Logical) (evaluate forms env a) (λ v. and_then v (evaluate forms env c)) first
    (λ v p. and_has v (evaluate forms env c) (logical_given (sort_of c) (evaluate forms env c) may second)))
has_kind x forms env (b.Either a c) i m h =
    let first = has_kind x forms env a i.0 (both_left (is_marked x a) _ m) (first_part (is_broken (sort_of a)) (is_broken (sort_of c)) _ h) in
    let second = has_kind x forms env c i.1 (both_right (is_marked x a) _ m) (second_part (is_broken (sort_of a)) (is_broken (sort_of c)) _ h) in
    let may = both_right (may_be_logical (sort_of a)) _ (fixed_holds (is_broken (sort_of a) || is_broken (sort_of c)) (may_be_logical (sort_of a) && may_be_logical (sort_of c)) (Of kind.Logical) h) in
    has_sort_as (Of kind.Logical) _ (bind (evaluate forms env a) (λ v. or_else v (evaluate forms env c))) (fixed (is_broken (sort_of a) || is_broken (sort_of c)) (may_be_logical (sort_of a) && may_be_logical (sort_of c)) (Of kind.Logical) h)
    (has_bind (sort_of a) (Of kind.Logical) (evaluate forms env a) (λ v. or_else v (evaluate forms env c)) first
    (λ v p. or_has v (evaluate forms env c) (logical_given (sort_of c) (evaluate forms env c) may second)))
has_kind x forms env (b.IfElse test a c k) i m h =
    let s = sort_of test in
    let branches = branch_sort (sort_of a) (sort_of c) in
    let r = if_sort s branches in
    let gate = may_be_logical s && not (is_broken s) in
    let parts = both_left (is_marked x test && (is_marked x a && is_marked x c)) _ m in
    let others = both_right (is_marked x test) _ parts in
    let inner = gate_in gate (sort_or_broken branches) h in
    let first = has_kind x forms env test i.0 (both_left (is_marked x test) _ parts) (not_true (is_broken s) (both_right (may_be_logical s) _ (gate_holds gate (sort_or_broken branches) h))) in
    let second = has_kind x forms env a i.1 (both_left (is_marked x a) _ others) (first_part (is_broken (sort_of a)) (is_broken (sort_of c)) _ inner) in
    let third = has_kind x forms env c i.2 (both_right (is_marked x a) _ others) (second_part (is_broken (sort_of a)) (is_broken (sort_of c)) _ inner) in
    let mark : k ≡ kind_in r = mark_is k (kind_in r) (both_right (is_marked x test && (is_marked x a && is_marked x c)) _ m) in
    let same : r ≡ sort_or_broken branches = gate_is gate (sort_or_broken branches) h in
    has_bind s r (evaluate forms env test) (λ v. bind (branch (holds v) (evaluate forms env a) (evaluate forms env c)) (as_kind k)) first
    (λ v p. subst (λ l. Has r (bind (branch (holds v) (evaluate forms env a) (evaluate forms env c)) (as_kind l))) (sym mark)
    (if_has r (holds v) (evaluate forms env a) (evaluate forms env c) (sort_of a) (sort_of c) second third h (λ e. unknown_branches (sort_of a) (sort_of c) (sym same ∙ e))))
has_kind x forms env (b.Masked a mask) i m h =
    let gate = mask_fits mask (sort_of a) && not (is_broken (sort_of a)) in
    has_sort_as (Of kind.Character) _ (bind (evaluate forms env a) (λ v. Ok (as_masked forms.masked mask v))) (gate_is gate (Of kind.Character) h)
    (any_bind (Of kind.Character) (evaluate forms env a) (λ v. Ok (as_masked forms.masked mask v)) (λ v. unless_has (is_unknown v) (forms.masked mask v)))
has_kind x forms env (b.IsAvailable buffer) i m h = refl
has_kind x forms env (b.IsLocked buffer) i m h = refl
has_kind x forms env b.Retry i m h = refl
has_kind x forms env b.ErrorStatus i m h = refl
has_kind x forms env b.ReturnValue i m h = refl

-- A GOOD EXPRESSION GIVES A VALUE OF ITS SORT
pub good_has : (x : Surroundings) (forms : TextForms) (env : Env) (test : Sort → Bool) (e : Expr) → Keeps env e → is_good x test e ≡ true → Has (sort_of e) (evaluate forms env e)
good_has x forms env test e i h =
    has_kind x forms env e i (both_left (is_marked x e) _ h) (not_true (is_broken (sort_of e)) (both_left (not (is_broken (sort_of e))) _ (both_right (is_marked x e) _ h)))

-- ---- masks

masks_like : (mask : List ℕ) (k l : Kind) → is_like k l ≡ true → mask_is_for mask k ≡ true → mask_is_for mask l ≡ true
unfolding mask_is_for
masks_like mask kind.Character kind.Character h g = g
masks_like mask kind.Integer kind.Integer h g = g
masks_like mask kind.Integer kind.Int64 h g = g
masks_like mask kind.Int64 kind.Integer h g = g
masks_like mask kind.Int64 kind.Int64 h g = g
masks_like mask kind.Decimal kind.Decimal h g = g
masks_like mask kind.Logical kind.Logical h g = g
masks_like mask kind.Date kind.Date h g = g
masks_like mask k l h g = absurd cc

masked_may : (mask : List ℕ) (k : Kind) (t : Sort) → mask_is_for mask k ≡ true → may (is_like k) t ≡ true → may (mask_is_for mask) t ≡ true
masked_may mask k (Of l) g h = masks_like mask k l h g
masked_may mask k Unknown g h = refl
masked_may mask k Broken g h = refl

unknown_masked : (mask : List ℕ) (v : Value) → is_unknown v ≡ true → is_masked_by mask v ≡ true
unknown_masked mask value.Unknown h = refl
unknown_masked mask v h = absurd cc

value_masked : (mask : List ℕ) (s : Sort) (v : Value) → mask_fits mask s ≡ true → has_sort s v ≡ true → is_masked_by mask v ≡ true
value_masked mask (Of k) v g h = masked_may mask k (sort_of_value v) g h
value_masked mask Unknown v g h = unknown_masked mask v h
value_masked mask Broken v g h = unknown_masked mask v h

given_masked : (mask : List ℕ) (s : Sort) (g : Given) (v : Value) → mask_fits mask s ≡ true → Has s g → g ≡ Ok v → is_masked_by mask v ≡ true
given_masked mask s (Ok u) v m h e = let same : u ≡ v = cc in subst (λ w. is_masked_by mask w ≡ true) same (value_masked mask s u m h)
given_masked mask s (Err fault) v m h e = absurd cc

-- EACH MASK FITS THE VALUE THAT IS SHOWN UNDER IT
pub mask_fits_value : (x : Surroundings) (forms : TextForms) (env : Env) (mask : List ℕ) (e : Expr) (v : Value) → Keeps env e → is_shown x (Some mask) e ≡ true → evaluate forms env e ≡ Ok v → is_masked_by mask v ≡ true
mask_fits_value x forms env mask e v i h g =
    given_masked mask (sort_of e) (evaluate forms env e) v (both_right (not (is_broken (sort_of e))) _ (both_right (is_marked x e) _ h)) (good_has x forms env (mask_fits mask) e i h) g
