-- The marks in an expression that breaks no rule are right, and it is good in its place.
use Rattle.std.proofs.Common.{◌≡◌, ℕ, ◌+◌, Bool, true, false, List, [], ◌++◌, Option, Some, None, refl, ap, ◌∙◌}
use Rattle.std.specs.List.{list_all}
use Rattle.abl_base.specs.declared.place.Place.{Place}
use Rattle.abl_base.specs.declared.rule.Rule.{Rule}
use Rattle.abl_base.specs.declared.rule.Rule.TheVariants as rule
use Rattle.abl_base.specs.declared.value.Kind.{Kind}
use Rattle.abl_base.specs.declared.value.Kind.TheVariants as kind
use Rattle.bound_tree.specs.Tree as b
use Rattle.bound_tree.specs.Tree.{Expr}
use Rattle.syntax_tree.specs.Syntax as s
use Rattle.syntax_tree.specs.Syntax.{Expression, Arguments, named_at, starts_at}
use Rattle.syntax_tree.specs.declared.word.Function.{Function}
use Rattle.syntax_tree.specs.declared.word.Function.TheVariants as f
use Rattle.bind_names.specs.declared.names.NamedBuffer.{NamedBuffer}
use Rattle.bind_names.specs.declared.names.NamingKind.TheVariants.{Free}
use Rattle.bind_names.specs.declared.sort.Sort.{Sort}
use Rattle.bind_names.specs.declared.sort.Sort.TheVariants.{Of}
use Rattle.bind_names.specs.Judged.{unless}
use Rattle.bind_names.specs.Sorts.{branch_sort, if_sort, is_broken, kind_in, may_be_logical}
use Rattle.bind_names.specs.Names.{Scene, Meaning, TheVariable, TheField, TheBuffer, Nothing, buffer, meaning, number_of}
use Rattle.bind_expressions.specs.Expressions.{Typed, typed, no_value, argument, arguments, call, comma, condition, expression, exprs, missing, the_rest, value_of}
use Rattle.bind_expressions.specs.WellKinded.{sort_of}
use Rattle.bind_expressions.proofs.Rightly.{is_right}
use Rattle.bind_expressions.proofs.Unbroken.{is_unbroken}
use Rattle.kind_laws.specs.bound_kinds.WellKinded.{Surroundings, is_condition, is_good, is_marked, is_same_mark}
use Rattle.kind_laws.proofs.BoundKindsLemmas.Parts.{all_get, both, each_left, each_right, holds, nil_left, nil_right, not_false}
use Rattle.kind_laws.proofs.BoundKindsLemmas.Suits.{AreNumbered, IsNumbered, Means, Suits, kind_is, means}

-- ---- names and tests of buffers

value_marked : (x : Surroundings) (w : Scene) (place : Place) (m : Meaning) → Means x m → is_marked x (value_of w place m).is.expr ≡ true
value_marked x w place (TheVariable v mask) h = h.0
value_marked x w place (TheField buffer field kind mask) h = h.there
value_marked x w place (TheBuffer buffer) h = refl
value_marked x w place Nothing h = refl

abbrev the_test : Scene → (ℕ → Expr) → Option NamedBuffer → Typed
the_test w build found = elim found as (λ _. Typed) [ None ↦ no_value | Some it ↦ typed (build (number_of w found)) (Of kind.Logical) ]

test_marked : (x : Surroundings) (w : Scene) (build : ℕ → Expr) (found : Option NamedBuffer) → ((n : ℕ) → is_marked x (build n) ≡ true) → is_marked x (the_test w build found).expr ≡ true
test_marked x w build None h = refl
test_marked x w build (Some it) h = h (number_of w (Some it))

-- ---- IF

same_mark : (k : Option Kind) → is_same_mark k k ≡ true
same_mark None = refl
same_mark (Some k) = kind_is k

if_marked : (t a c p q r : Sort) → p ≡ t → q ≡ a → r ≡ c → is_same_mark (kind_in (if_sort t (branch_sort a c))) (kind_in (if_sort p (branch_sort q r))) ≡ true
if_marked t a c p q r d e f = rw (d, e, f) (same_mark (kind_in (if_sort t (branch_sort a c))))

-- ---- the arguments of functions

call_marked : (x : Surroundings) (g : Function) (es : List Expr) → list_all (is_marked x) es ≡ true → is_marked x (call g es) ≡ true
call_marked x f.Integer es h = all_get (is_marked x) es 0 missing h refl
call_marked x f.Int64 es h = all_get (is_marked x) es 0 missing h refl
call_marked x f.Decimal es h = all_get (is_marked x) es 0 missing h refl
call_marked x f.Substring es h = both _ _ (all_get (is_marked x) es 0 missing h refl) (both _ _ (all_get (is_marked x) es 1 missing h refl) (all_get (is_marked x) es 2 the_rest h refl))
call_marked x f.Length es h = all_get (is_marked x) es 0 missing h refl
call_marked x f.Entry es h = both _ _ (all_get (is_marked x) es 0 missing h refl) (both _ _ (all_get (is_marked x) es 1 missing h refl) (all_get (is_marked x) es 2 comma h refl))
call_marked x f.NumEntries es h = both _ _ (all_get (is_marked x) es 0 missing h refl) (all_get (is_marked x) es 1 comma h refl)
call_marked x f.Date es h = both _ _ (all_get (is_marked x) es 0 missing h refl) (both _ _ (all_get (is_marked x) es 1 missing h refl) (all_get (is_marked x) es 2 missing h refl))
call_marked x f.Year es h = all_get (is_marked x) es 0 missing h refl
call_marked x f.Month es h = all_get (is_marked x) es 0 missing h refl
call_marked x f.Day es h = all_get (is_marked x) es 0 missing h refl

-- ---- expressions

-- an expression that breaks no rule has the sort that it is judged to have
pub sort_is : (w : Scene) (e : Expression) → (expression w e).breaks ≡ [] → sort_of (expression w e).is.expr ≡ (expression w e).is.sort
sort_is w e h = is_right w e (is_unbroken w e h)

mutual
  pub marked : (x : Surroundings) (w : Scene) → Suits x w → (e : Expression) → (expression w e).breaks ≡ [] → AreNumbered x w (expression w e).names → is_marked x (expression w e).is.expr ≡ true
  marked x w u (s.Literal v place) h n = refl
  marked x w u (s.Name name) h n = value_marked x w (named_at name) (meaning w name).is (means x w name u (each_left (IsNumbered x w) (meaning w name).names (value_of w (named_at name) (meaning w name).is).names n))
  marked x w u (s.Grouped place a) h n = marked x w u a h n
  marked x w u (s.Plus place a) h n = marked x w u a (nil_left (expression w a).breaks _ h) n
  marked x w u (s.Minus place a) h n = marked x w u a (nil_left (expression w a).breaks _ h) n
  marked x w u (s.Not place a) h n = marked x w u a (nil_left (expression w a).breaks _ h) n
  marked x w u (s.Two op place a c) h n =
      let one : (expression w a).breaks ≡ [] = nil_left (expression w a).breaks _ (nil_left ((expression w a).breaks ++ (expression w c).breaks) _ h) in
      let other : (expression w c).breaks ≡ [] = nil_right (expression w a).breaks _ (nil_left ((expression w a).breaks ++ (expression w c).breaks) _ h) in
      both _ _ (marked x w u a one (each_left (IsNumbered x w) (expression w a).names _ n)) (marked x w u c other (each_right (IsNumbered x w) (expression w a).names _ n))
  marked x w u (s.And place a c) h n =
      let one : (expression w a).breaks ≡ [] = nil_left (expression w a).breaks _ (nil_left ((expression w a).breaks ++ (expression w c).breaks) _ h) in
      let other : (expression w c).breaks ≡ [] = nil_right (expression w a).breaks _ (nil_left ((expression w a).breaks ++ (expression w c).breaks) _ h) in
      both _ _ (marked x w u a one (each_left (IsNumbered x w) (expression w a).names _ n)) (marked x w u c other (each_right (IsNumbered x w) (expression w a).names _ n))
  marked x w u (s.Or place a c) h n =
      let one : (expression w a).breaks ≡ [] = nil_left (expression w a).breaks _ (nil_left ((expression w a).breaks ++ (expression w c).breaks) _ h) in
      let other : (expression w c).breaks ≡ [] = nil_right (expression w a).breaks _ (nil_left ((expression w a).breaks ++ (expression w c).breaks) _ h) in
      both _ _ (marked x w u a one (each_left (IsNumbered x w) (expression w a).names _ n)) (marked x w u c other (each_right (IsNumbered x w) (expression w a).names _ n))
  marked x w u (s.If place t a c) h n =
      let test : (expression w t).breaks ≡ [] = nil_left (expression w t).breaks _ (nil_left (condition w t).breaks _ h) in
      let rest = nil_right (condition w t).breaks _ h in
      let one : (expression w a).breaks ≡ [] = nil_left (expression w a).breaks _ rest in
      let other : (expression w c).breaks ≡ [] = nil_left (expression w c).breaks _ (nil_right (expression w a).breaks _ rest) in
      let more = each_right (IsNumbered x w) (expression w t).names _ n in
      both _ _
      (both _ _ (marked x w u t test (each_left (IsNumbered x w) (expression w t).names _ n))
      (both _ _ (marked x w u a one (each_left (IsNumbered x w) (expression w a).names _ more)) (marked x w u c other (each_right (IsNumbered x w) (expression w a).names _ more))))
      (if_marked (expression w t).is.sort (expression w a).is.sort (expression w c).is.sort _ _ _ (sort_is w t test) (sort_is w a one) (sort_is w c other))
  marked x w u (s.Available place word) h n = test_marked x w b.IsAvailable (buffer w Free false word).is (λ n. refl)
  marked x w u (s.Locked place word) h n = test_marked x w b.IsLocked (buffer w Free false word).is (λ n. refl)
  marked x w u (s.Retry place) h n = refl
  marked x w u (s.ReturnValue place) h n = refl
  marked x w u (s.ErrorStatus place) h n = refl
  marked x w u (s.Text place a None) h n = marked x w u a h n
  marked x w u (s.Text place a (Some mask)) h n = marked x w u a (nil_left (expression w a).breaks _ h) n
  marked x w u (s.Call g place as_) h n = call_marked x g (exprs (arguments w g 0 as_).is) (all_marked x w u g 0 as_ (nil_left (arguments w g 0 as_).breaks _ h) n)

  all_marked : (x : Surroundings) (w : Scene) → Suits x w → (g : Function) (i : ℕ) (as_ : Arguments) → (arguments w g i as_).breaks ≡ [] → AreNumbered x w (arguments w g i as_).names →
      list_all (is_marked x) (exprs (arguments w g i as_).is) ≡ true
  all_marked x w u g i s.NoMore h n = refl
  all_marked x w u g i (s.More a rest) h n =
      let one : (argument g i (starts_at a) (expression w a)).breaks ≡ [] = nil_left (argument g i (starts_at a) (expression w a)).breaks _ h in
      both _ _ (marked x w u a (nil_left (expression w a).breaks _ one) (each_left (IsNumbered x w) (expression w a).names _ n))
      (all_marked x w u g (i + 1) rest (nil_right (argument g i (starts_at a) (expression w a)).breaks _ h) (each_right (IsNumbered x w) (expression w a).names _ n))

-- IT IS GOOD IN ITS PLACE, where its sort passes the test
pub good : (x : Surroundings) (w : Scene) (test : Sort → Bool) (e : Expression) → Suits x w → (expression w e).breaks ≡ [] → AreNumbered x w (expression w e).names → test (expression w e).is.sort ≡ true →
    is_good x test (expression w e).is.expr ≡ true
good x w test e u h n passes =
    let same = sort_is w e h in
    both _ _ (marked x w u e h n) (both _ _ (not_false _ (ap is_broken same ∙ is_unbroken w e h)) (ap test same ∙ passes))

-- the same, where the test is a rule
pub placed : (x : Surroundings) (w : Scene) (test : Sort → Bool) (broken : Rule) (place : Place) (e : Expression) → Suits x w →
    (expression w e).breaks ++ unless (test (expression w e).is.sort) broken place ≡ [] → AreNumbered x w (expression w e).names → is_good x test (expression w e).is.expr ≡ true
placed x w test broken place e u h n = good x w test e u (nil_left (expression w e).breaks _ h) n (holds _ broken place (nil_right (expression w e).breaks _ h))

-- a condition
pub condition_good : (x : Surroundings) (w : Scene) (e : Expression) → Suits x w → (condition w e).breaks ≡ [] → AreNumbered x w (condition w e).names → is_condition x (condition w e).is.expr ≡ true
condition_good x w e u h n = placed x w may_be_logical rule.Y6 (starts_at e) e u h n
