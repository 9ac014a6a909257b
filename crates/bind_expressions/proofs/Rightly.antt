-- An expression that is not broken has, as it is bound, the sort that it is judged to have.
use Rattle.std.proofs.Common.{◌≡◌, ◌+◌, ℕ, Bool, true, false, Option, Some, None, refl, ap}
use Rattle.std.specs.Prelude.{not, ◌&&◌, ◌||◌, if◌then◌else◌}
use Rattle.abl_base.specs.declared.place.Place.{Place}
use Rattle.abl_base.specs.declared.value.Kind.TheVariants as kind
use Rattle.bound_tree.specs.Tree as b
use Rattle.bound_tree.specs.Tree.{Expr}
use Rattle.syntax_tree.specs.Syntax as s
use Rattle.syntax_tree.specs.Syntax.{Expression, Arguments, named_at, starts_at}
use Rattle.syntax_tree.specs.declared.word.Function.{Function}
use Rattle.bind_names.specs.declared.names.NamedBuffer.{NamedBuffer}
use Rattle.bind_names.specs.declared.names.NamingKind.TheVariants.{Free}
use Rattle.bind_names.specs.declared.sort.Sort.{Sort}
use Rattle.bind_names.specs.declared.sort.Sort.TheVariants.{Of, Unknown, Broken}
use Rattle.bind_names.specs.Judged.{Judged}
use Rattle.bind_names.specs.Names.{Scene, Meaning, TheVariable, TheField, TheBuffer, Nothing, meaning, buffer, number_of}
use Rattle.bind_names.specs.Sorts.{is_broken, sort_or_broken, unless_broken, result_sort, result_of, branches_of, where_holds, may_be_logical, may_be_number, negated, mask_fits}
use Rattle.bind_names.specs.Sorts as so
use Rattle.bind_expressions.specs.Expressions.{Typed, typed, no_value, arguments, expression, value_of, test_of, logical_unless_broken}
use Rattle.bind_expressions.specs.WellKinded.{sort_of}
use Rattle.bind_expressions.proofs.Fitting.{Agrees, AllRight, IsRight, called_right}

-- ---- parts of what is not broken are not broken

first_part : (a c : Bool) (s : Option Sort) → is_broken (sort_or_broken (unless_broken (a || c) s)) ≡ false → a ≡ false
first_part true c s h = absurd cc
first_part false c s h = refl

second_part : (a c : Bool) (s : Option Sort) → is_broken (sort_or_broken (unless_broken (a || c) s)) ≡ false → c ≡ false
second_part true c s h = absurd cc
second_part false true s h = absurd cc
second_part false false s h = refl

gate : (g : Bool) (s : Sort) → is_broken (if g then s else Broken) ≡ false → g ≡ true
gate true s h = refl
gate false s h = absurd cc

gate_in : (g : Bool) (s : Sort) → is_broken (if g then s else Broken) ≡ false → is_broken s ≡ false
gate_in true s h = h
gate_in false s h = absurd cc

not_both : (p q : Bool) → (p && not q) ≡ true → q ≡ false
not_both true true h = absurd cc
not_both true false h = refl
not_both false q h = absurd cc

-- two operands
two_agree : (sorts : Sort → Sort → Option Sort) (x y p q : Sort) → Agrees p x → Agrees q y →
    Agrees (sort_or_broken (unless_broken (is_broken p || is_broken q) (sorts p q))) (sort_or_broken (unless_broken (is_broken x || is_broken y) (sorts x y)))
two_agree sorts x y p q hx hy h =
    let a : p ≡ x = hx (first_part (is_broken x) (is_broken y) (sorts x y) h) in
    let c : q ≡ y = hy (second_part (is_broken x) (is_broken y) (sorts x y) h) in
    rw (a, c) refl

-- the condition and the branches of IF
three_agree : (t x y r p q : Sort) → Agrees r t → Agrees p x → Agrees q y → Agrees (so.if_sort r (so.branch_sort p q)) (so.if_sort t (so.branch_sort x y))
three_agree t x y r p q ht hx hy h =
    let d : r ≡ t = ht (not_both (may_be_logical t) (is_broken t) (gate (may_be_logical t && not (is_broken t)) (sort_or_broken (so.branch_sort x y)) h)) in
    let last = gate_in (may_be_logical t && not (is_broken t)) (sort_or_broken (so.branch_sort x y)) h in
    let a : p ≡ x = hx (first_part (is_broken x) (is_broken y) (branches_of x y) last) in
    let c : q ≡ y = hy (second_part (is_broken x) (is_broken y) (branches_of x y) last) in
    rw (d, a, c) refl

-- one operand that passes a test
one_agrees : (test : Sort → Bool) (f : Sort → Sort) (x p : Sort) → f Broken ≡ Broken → Agrees p x → Agrees (if test p then f p else Broken) (if test x then f x else Broken)
one_agrees test f (Of k) p e hx h = let a : p ≡ Of k = hx refl in rw a refl
one_agrees test f Unknown p e hx h = let a : p ≡ Unknown = hx refl in rw a refl
one_agrees test f Broken p e hx h = absurd (never (test Broken) (f Broken) e h)
  where
    never : (t : Bool) (s : Sort) → s ≡ Broken → is_broken (if t then s else Broken) ≡ false → ⊥
    never true s e h = let e' : is_broken s ≡ true = ap is_broken e in absurd cc
    never false s e h = absurd cc

-- a test that what is broken does not pass
test_agrees : (test : Sort → Bool) (s x p : Sort) → test Broken ≡ false → Agrees p x → Agrees (if test p then s else Broken) (if test x then s else Broken)
test_agrees test s (Of k) p e hx h = let a : p ≡ Of k = hx refl in rw a refl
test_agrees test s Unknown p e hx h = let a : p ≡ Unknown = hx refl in rw a refl
test_agrees test s Broken p e hx h = absurd (never (test Broken) e h)
  where
    never : (t : Bool) → t ≡ false → is_broken (if t then s else Broken) ≡ false → ⊥
    never true e h = absurd cc
    never false e h = absurd cc

-- ---- names

value_is_right : (w : Scene) (place : Place) (m : Meaning) → IsRight (value_of w place m).is
value_is_right w place (TheVariable x mask) h = refl
value_is_right w place (TheField buffer field kind mask) h = refl
value_is_right w place (TheBuffer x) h = absurd cc
value_is_right w place Nothing h = absurd cc

-- what a test of a buffer is
abbrev the_test : Scene → (ℕ → Expr) → Option NamedBuffer → Typed
the_test w build found = elim found as (λ _. Typed) [ None ↦ no_value | Some it ↦ typed (build (number_of w found)) (Of kind.Logical) ]

test_is_right : (w : Scene) (build : ℕ → Expr) (x : Judged (Option NamedBuffer)) → ((n : ℕ) → sort_of (build n) ≡ Of kind.Logical) → IsRight (test_of w build x).is
test_is_right w build x e = elim x.is as (λ found. IsRight (the_test w build found)) [ None ↦ λ h. absurd cc | Some it ↦ λ h. e (number_of w (Some it)) ]

mutual
  pub is_right : (w : Scene) (e : Expression) → IsRight (expression w e).is
  is_right w (s.Literal v place) h = refl
  is_right w (s.Name name) h = value_is_right w (named_at name) (meaning w name).is h
  is_right w (s.Grouped place a) h = is_right w a h
  is_right w (s.Plus place a) h = one_agrees may_be_number (λ x. x) (expression w a).is.sort (sort_of (expression w a).is.expr) refl (is_right w a) h
  is_right w (s.Minus place a) h = one_agrees may_be_number negated (expression w a).is.sort (sort_of (expression w a).is.expr) refl (is_right w a) h
  is_right w (s.Not place a) h = one_agrees may_be_logical logical_unless_broken (expression w a).is.sort (sort_of (expression w a).is.expr) refl (is_right w a) h
  is_right w (s.Two op place a c) h =
      two_agree (result_of op) (expression w a).is.sort (expression w c).is.sort (sort_of (expression w a).is.expr) (sort_of (expression w c).is.expr) (is_right w a) (is_right w c) h
  is_right w (s.And place a c) h =
      two_agree (λ x y. where_holds (may_be_logical x && may_be_logical y) (Of kind.Logical)) (expression w a).is.sort (expression w c).is.sort (sort_of (expression w a).is.expr) (sort_of (expression w c).is.expr) (is_right w a) (is_right w c) h
  is_right w (s.Or place a c) h =
      two_agree (λ x y. where_holds (may_be_logical x && may_be_logical y) (Of kind.Logical)) (expression w a).is.sort (expression w c).is.sort (sort_of (expression w a).is.expr) (sort_of (expression w c).is.expr) (is_right w a) (is_right w c) h
  is_right w (s.If place t a c) h =
      three_agree (expression w t).is.sort (expression w a).is.sort (expression w c).is.sort (sort_of (expression w t).is.expr) (sort_of (expression w a).is.expr) (sort_of (expression w c).is.expr) (is_right w t) (is_right w a) (is_right w c) h
  is_right w (s.Available place word) h = test_is_right w b.IsAvailable (buffer w Free false word) (λ n. refl) h
  is_right w (s.Locked place word) h = test_is_right w b.IsLocked (buffer w Free false word) (λ n. refl) h
  is_right w (s.Retry place) h = refl
  is_right w (s.ReturnValue place) h = refl
  is_right w (s.ErrorStatus place) h = refl
  is_right w (s.Text place a None) h =
      one_agrees (λ x. true) (λ x. if is_broken x then Broken else Of kind.Character) (expression w a).is.sort (sort_of (expression w a).is.expr) refl (is_right w a) h
  is_right w (s.Text place a (Some mask)) h =
      test_agrees (λ x. mask_fits mask.spelling x && not (is_broken x)) (Of kind.Character) (expression w a).is.sort (sort_of (expression w a).is.expr) refl (is_right w a) h
  is_right w (s.Call x place as_) h = called_right x (arguments w x 0 as_).is (all_right w x 0 as_) h

  all_right : (w : Scene) (x : Function) (i : ℕ) (as_ : Arguments) → AllRight (arguments w x i as_).is
  all_right w x i s.NoMore = tt
  all_right w x i (s.More e rest) = (is_right w e, all_right w x (i + 1) rest)
