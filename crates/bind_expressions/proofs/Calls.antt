-- A function with its arguments, judged one after the other.
use Rattle.std.proofs.Common.{◌≡◌, ◌<◌, ◌+◌, ℕ, Bool, true, false, List, [], ◌∷◌, ◌++◌, length, drop, get_or, suc, refl, ap, sym, ◌∙◌, add-one, drop-cons, append_assoc, append-nil, length-append, arith}
use Rattle.std.specs.Prelude.{◌&&◌, ◌==◌, not, if◌then◌else◌, nat_le, nat_lt}
use Rattle.abl_base.specs.declared.place.Place.{Place}
use Rattle.abl_base.specs.declared.rule.Rule.TheVariants.{Y7}
use Rattle.bound_tree.specs.Tree.{Expr}
use Rattle.syntax_tree.specs.Syntax.{starts_at}
use Rattle.syntax_tree.specs.Typed.{arguments_of, expression_of}
use Rattle.syntax_tree.specs.declared.word.Function.{Function}
use Rattle.syntax_tree.specs.declared.expression.Expression.{Expression as TypedExpression}
use Rattle.bind_names.specs.declared.notes.Notes.{Notes}
use Rattle.bind_names.specs.declared.sort.Sort.TheVariants.{Of, Broken}
use Rattle.bind_names.specs.Judged.{Judged, first_of, unless}
use Rattle.bind_names.specs.Names.{Scene}
use Rattle.bind_names.specs.Sorts.{fewest, is_broken, kind_of_function, most, takes}
use Rattle.bind_names.specs.Views.{IsJudged}
use Rattle.bind_names.proofs.Joined.{first_of_append}
use Rattle.bind_expressions.specs.declared.arguments.Arguments.{Arguments}
use Rattle.bind_expressions.specs.Expressions.{Typed, typed, all_fit, arguments, call, called, expression, exprs}
use Rattle.bind_expressions.specs.Views.{IsCalled, IsHolding}

-- each of these arguments is taken and breaks no rule
abbrev pub each_fits : Function → ℕ → List Typed → Bool
each_fits x i [] = true
each_fits x i (a ∷ as_) = takes x i a.sort && (not (is_broken a.sort) && each_fits x (i + 1) as_)

with_true : (p : Bool) → (p && true) ≡ p
with_true true = refl
with_true false = refl

regroup : (p q r s : Bool) → (p && (q && (r && s))) ≡ ((p && (q && r)) && s)
regroup true true r s = refl
regroup true false r s = refl
regroup false q r s = refl

-- all fit where each does and their number does
pub all_fit_is : (x : Function) (i n : ℕ) (as_ : List Typed) → n ≡ i + length as_ → all_fit x i as_ ≡ (each_fits x i as_ && (nat_le (fewest x) n && nat_le n (most x)))
all_fit_is x i n [] e = let d : n ≡ i = omega arith in rw d refl
all_fit_is x i n (a ∷ as_) e =
    let h : all_fit x (i + 1) as_ ≡ (each_fits x (i + 1) as_ && (nat_le (fewest x) n && nat_le n (most x))) = all_fit_is x (i + 1) n as_ (omega arith) in
    ap (λ r. takes x i a.sort && (not (is_broken a.sort) && r)) h ∙ regroup (takes x i a.sort) (not (is_broken a.sort)) (each_fits x (i + 1) as_) (nat_le (fewest x) n && nat_le n (most x))

each_fits_snoc : (x : Function) (i n : ℕ) (as_ : List Typed) (a : Typed) → n ≡ i + length as_ → each_fits x i (as_ ++ a ∷ []) ≡ (each_fits x i as_ && (takes x n a.sort && not (is_broken a.sort)))
each_fits_snoc x i n [] a e = let d : n ≡ i = omega arith in rw d (ap (λ r. takes x i a.sort && r) (with_true (not (is_broken a.sort))))
each_fits_snoc x i n (b ∷ as_) a e =
    let h : each_fits x (i + 1) (as_ ++ a ∷ []) ≡ (each_fits x (i + 1) as_ && (takes x n a.sort && not (is_broken a.sort))) = each_fits_snoc x (i + 1) n as_ a (omega arith) in
    ap (λ r. takes x i b.sort && (not (is_broken b.sort) && r)) h ∙ regroup (takes x i b.sort) (not (is_broken b.sort)) (each_fits x (i + 1) as_) (takes x n a.sort && not (is_broken a.sort))

exprs_snoc : (as_ : List Typed) (a : Typed) → exprs (as_ ++ a ∷ []) ≡ exprs as_ ++ a.expr ∷ []
exprs_snoc [] a = refl
exprs_snoc (b ∷ as_) a = ap (λ es. b.expr ∷ es) (exprs_snoc as_ a)

exprs_length : (as_ : List Typed) → length (exprs as_) ≡ length as_
exprs_length [] = refl
exprs_length (a ∷ as_) = let h : length (exprs as_) ≡ length as_ = exprs_length as_ in omega arith

-- what is bound so far, with the arguments to come, is the whole
pub record CallContinues (w : Scene) (x : Function) (all : List TypedExpression) (i : ℕ) (bound : Arguments) (good : Bool) (now begun : Notes) : Type 0 where
  pub so_far : List Typed
  pub count : length so_far ≡ i
  pub holding : IsHolding bound (exprs so_far)
  pub fit : good ≡ each_fits x 0 so_far
  pub is : so_far ++ (arguments w x i (arguments_of (drop i all))).is ≡ (arguments w x 0 (arguments_of all)).is
  pub first : first_of now.first (arguments w x i (arguments_of (drop i all))).breaks ≡ first_of begun.first (arguments w x 0 (arguments_of all)).breaks
  pub names : now.names ++ (arguments w x i (arguments_of (drop i all))).names ≡ begun.names ++ (arguments w x 0 (arguments_of all)).names

pub call_begins : (w : Scene) (x : Function) (all : List TypedExpression) (bound : Arguments) (n : Notes) → IsHolding bound [] → CallContinues w x all 0 bound true n n
call_begins w x all bound n h = record { so_far = []; count = refl; holding = h; fit = refl; is = refl; first = refl; names = refl }

next_argument : (xs : List TypedExpression) (i : ℕ) (x : TypedExpression) → i < length xs → x ≡ get_or xs i x → drop i xs ≡ x ∷ drop (i + 1) xs
next_argument xs i x lt e = rw (add-one, drop-cons xs i x) (ap (λ y. y ∷ drop (suc i) xs) (sym e))

pub one_more_argument : (w : Scene) (x : Function) (all : List TypedExpression) (i : ℕ) (e : TypedExpression) (bound next : Arguments) (good good' : Bool) (number : ℕ) (y : Typed) (n m k begun : Notes) →
    i < length all → e ≡ get_or all i e → IsJudged (expression w (expression_of e)) y n m →
    ((es : List Expr) → IsHolding bound es → number ≡ length es) →
    k.first ≡ first_of m.first (unless (if nat_lt number (most x) then takes x number y.sort else not (number == most x)) Y7 (starts_at (expression_of e))) → k.names ≡ m.names →
    good' ≡ (good && (takes x number y.sort && not (is_broken y.sort))) →
    ((es : List Expr) → IsHolding bound es → IsHolding next (es ++ y.expr ∷ [])) →
    CallContinues w x all i bound good n begun → CallContinues w x all (i + 1) next good' k begun
one_more_argument w x all i e bound next good good' number y n m k begun lt ee hy number_is first names is_good push h =
    let counted : number ≡ length (exprs h.so_far) = number_is (exprs h.so_far) h.holding in
    let length_is : length (exprs h.so_far) ≡ length h.so_far = exprs_length h.so_far in
    let count_is : length h.so_far ≡ i = h.count in
    let number_i : number ≡ i = omega arith in
    let d : drop i all ≡ e ∷ drop (i + 1) all = next_argument all i e lt ee in
    let is1 = rw d at h.is in
    let first1 = rw d at h.first in
    let names1 = rw d at h.names in
    let first2 : k.first ≡ first_of m.first (unless (if nat_lt i (most x) then takes x i (expression w (expression_of e)).is.sort else not (i == most x)) Y7 (starts_at (expression_of e))) = rw (number_i, hy.is) at first in
    record {
      so_far = h.so_far ++ y ∷ [];
      count = let l = length-append h.so_far (y ∷ []) in omega (arith, l);
      holding = rw exprs_snoc (push (exprs h.so_far) h.holding);
      fit = is_good ∙ ap (λ g. g && (takes x number y.sort && not (is_broken y.sort))) h.fit ∙ sym (each_fits_snoc x 0 number h.so_far y (omega arith));
      is = rw (hy.is, append_assoc) is1;
      first = rw (first2, hy.first) (rw (first_of_append, first_of_append) at first1);
      names = rw (names, hy.names) (rw append_assoc names1);
    }

-- a function of arguments that are judged
pub finished_judged : (x : Function) (place : Place) (j : Judged (List Typed)) (as_ : List Typed) (good : Bool) (r : Typed) (o n m : Notes) →
    as_ ≡ j.is → n.first ≡ first_of o.first j.breaks → n.names ≡ o.names ++ j.names → good ≡ each_fits x 0 as_ → IsCalled x place good (exprs as_) r n m →
    IsJudged (called x place j) r o m
finished_judged x place j as_ good r o n m is first names fit h =
    let l : length (exprs as_) ≡ length as_ = exprs_length as_ in
    record {
      is = rw (← is, all_fit_is x 0 (length (exprs as_)) as_ (omega arith), ← fit) h.is;
      first = let e = h.first in let f : length (exprs as_) ≡ length j.is = l ∙ ap length is in rw first_of_append cc;
      names = let e = h.names in cc;
    }

drop_all : {A : Type 0} (xs : List A) → drop (length xs) xs ≡ []
drop_all [] = refl
drop_all (x ∷ xs) = drop_all xs

pub call_judged : (w : Scene) (x : Function) (place : Place) (all : List TypedExpression) (i : ℕ) (bound : Arguments) (good : Bool) (r : Typed) (n m begun : Notes) → i ≡ length all →
    ((es : List Expr) → IsHolding bound es → IsCalled x place good es r n m) → CallContinues w x all i bound good n begun → IsJudged (called x place (arguments w x 0 (arguments_of all))) r begun m
call_judged w x place all i bound good r n m begun e finish h =
    let d : drop i all ≡ [] = ap (λ j. drop j all) e ∙ drop_all all in
    let is1 = rw d at h.is in
    let names1 = rw d at h.names in
    finished_judged x place (arguments w x 0 (arguments_of all)) h.so_far good r begun n m (sym (append-nil h.so_far) ∙ is1) (rw d at h.first) (sym (append-nil n.names) ∙ names1) h.fit (finish (exprs h.so_far) h.holding)
