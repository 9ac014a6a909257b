-- An expression that breaks no rule is not broken.
use Rattle.std.proofs.Common.{◌≡◌, ◌≤◌, ◌+◌, ℕ, length, arith, Bool, true, false, List, [], ◌∷◌, ◌++◌, Option, Some, None, refl, ap, ◌∙◌}
use Rattle.std.specs.Prelude.{not, ◌&&◌, ◌||◌, if◌then◌else◌}
use Rattle.std.specs.Option.{is_some}
use Rattle.abl_base.specs.declared.place.Place.{Place}
use Rattle.abl_base.specs.declared.rule.Rule.{Rule}
use Rattle.abl_base.specs.declared.rule.Rule.TheVariants as rule
use Rattle.abl_base.specs.declared.value.Kind.{Kind}
use Rattle.abl_base.specs.declared.value.Kind.TheVariants as kind
use Rattle.abl_base.specs.declared.value.Value.{Value}
use Rattle.abl_base.specs.declared.value.Value.TheVariants as value
use Rattle.abl_values.specs.Schema.{field_named}
use Rattle.bound_tree.specs.declared.expression.Binary.{Binary}
use Rattle.bound_tree.specs.declared.expression.Binary.TheVariants as two
use Rattle.bound_tree.specs.Tree.{Expr}
use Rattle.bound_tree.specs.Tree as b
use Rattle.syntax_tree.specs.Syntax as s
use Rattle.syntax_tree.specs.Syntax.{Expression, Arguments, named_at, starts_at}
use Rattle.syntax_tree.specs.declared.word.Function.{Function}
use Rattle.syntax_tree.specs.declared.name.Named.{Named}
use Rattle.syntax_tree.specs.declared.name.Named.TheVariants.{Plain, Qualified}
use Rattle.syntax_tree.specs.declared.name.Word.{Word}
use Rattle.bind_names.specs.declared.names.NamedBuffer.{NamedBuffer}
use Rattle.bind_names.specs.declared.names.NamedVariable.{NamedVariable}
use Rattle.bind_names.specs.declared.names.NamingKind.TheVariants.{Free}
use Rattle.bind_names.specs.declared.sort.Sort.{Sort}
use Rattle.bind_names.specs.declared.sort.Sort.TheVariants.{Of, Unknown, Broken}
use Rattle.bind_names.specs.Judged.{Judged, unless}
use Rattle.bind_names.specs.Names.{Scene, Meaning, TheVariable, TheField, TheBuffer, Nothing, meaning, buffer, buffer_named, buffer_or_field, field_among, field_as, field_of, number_of, plain, qualified, the_field, variable_named, with_field, wanted_buffer}
use Rattle.bind_names.specs.Sorts.{are_comparable, branches_of, is_broken, is_date, is_decimal, is_number_kind, is_unknown, kind_of_function, mask_fits, most, may_be_logical, may_be_number, may_be_text, may_be_whole, negated, number_sort, numbers, result_of, same_kind, sort_of_value, sort_or_broken, unless_broken, where_holds}
use Rattle.bind_expressions.specs.Expressions.{Typed, typed, no_value, all_fit, argument, arguments, condition, expression, value_of, test_of, logical_unless_broken}
use Rattle.bind_expressions.specs.WellKinded.{IsWellKinded}
use Rattle.bind_expressions.proofs.Calls.{each_fits}
use Rattle.bind_expressions.proofs.Fitting.{all_fit_true, fits_more, nothing_taken, taken}
use Rattle.bind_expressions.proofs.Rightly.{is_right}

-- ---- lists with nothing in them

nil_left : {A : Type 0} (xs ys : List A) → xs ++ ys ≡ [] → xs ≡ []
nil_left [] ys e = refl
nil_left (x ∷ xs) ys e = absurd cc

nil_right : {A : Type 0} (xs ys : List A) → xs ++ ys ≡ [] → ys ≡ []
nil_right [] ys e = e
nil_right (x ∷ xs) ys e = absurd cc

holds : (t : Bool) (broken : Rule) (place : Place) → unless t broken place ≡ [] → t ≡ true
holds true broken place e = refl
holds false broken place e = absurd cc

-- ---- what operators make is not broken

abbrev IsSound : Option Sort → Type 0
IsSound None = Unit {0}
IsSound (Some s) = is_broken s ≡ false

sound_if : (t : Bool) (o p : Option Sort) → IsSound o → IsSound p → IsSound (if t then o else p)
sound_if true o p ho hp = ho
sound_if false o p ho hp = hp

unbroken_if : (t : Bool) (x y : Sort) → is_broken x ≡ false → is_broken y ≡ false → is_broken (if t then x else y) ≡ false
unbroken_if true x y hx hy = hx
unbroken_if false x y hx hy = hy

sound_where : (t : Bool) (x : Sort) → is_broken x ≡ false → IsSound (where_holds t x)
sound_where true x h = h
sound_where false x h = tt

sound_numbers : (x y : Sort) → IsSound (numbers x y)
sound_numbers x y = sound_where (may_be_number x && may_be_number y) (number_sort x y) (unbroken_if (is_decimal x || is_decimal y) _ _ refl (unbroken_if (is_unknown x || is_unknown y) _ _ refl refl))

sound_result : (op : Binary) (x y : Sort) → IsSound (result_of op x y)
sound_result two.Add x y = sound_if (may_be_text x && may_be_text y) _ _ (unbroken_if (is_unknown x && is_unknown y) _ _ refl refl) (sound_if (is_date x) _ _ (sound_where (may_be_whole y) _ refl) (sound_numbers x y))
sound_result two.Subtract x y =
    sound_if (is_date x) _ _ (sound_if (is_date y) _ _ refl (sound_where (may_be_whole y) _ (unbroken_if (is_unknown y) _ _ refl refl))) (sound_if (is_date y) _ _ (sound_where (is_unknown x) _ refl) (sound_numbers x y))
sound_result two.Multiply x y = sound_numbers x y
sound_result two.Divide x y = sound_where (may_be_number x && may_be_number y) _ refl
sound_result two.Modulo x y = sound_where (may_be_whole x && may_be_whole y) _ refl
sound_result two.Equal x y = sound_where (are_comparable x y) _ refl
sound_result two.Unequal x y = sound_where (are_comparable x y) _ refl
sound_result two.Less x y = sound_where (are_comparable x y) _ refl
sound_result two.Greater x y = sound_where (are_comparable x y) _ refl
sound_result two.AtMost x y = sound_where (are_comparable x y) _ refl
sound_result two.AtLeast x y = sound_where (are_comparable x y) _ refl
sound_result two.Begins x y = sound_where (may_be_text x && may_be_text y) _ refl
sound_result two.NumEntries x y = sound_where (may_be_text x && may_be_text y) _ refl

sound_branches : (x y : Sort) → is_broken x ≡ false → is_broken y ≡ false → IsSound (branches_of x y)
sound_branches (Of k) (Of l) hx hy = sound_if (same_kind k l) _ _ refl (sound_where (is_number_kind k && is_number_kind l) _ (unbroken_if (same_kind k kind.Decimal || same_kind l kind.Decimal) _ _ refl refl))
sound_branches (Of k) Unknown hx hy = refl
sound_branches (Of k) Broken hx hy = refl
sound_branches Unknown y hx hy = hy
sound_branches Broken (Of l) hx hy = hx
sound_branches Broken Unknown hx hy = hx
sound_branches Broken Broken hx hy = hx

-- an option that is there, of parts that are not broken
there : (o : Option Sort) → IsSound o → is_some o ≡ true → is_broken (sort_or_broken o) ≡ false
there None h e = absurd cc
there (Some x) h e = h

made_unbroken : (t : Bool) (o : Option Sort) → t ≡ false → IsSound o → is_some (unless_broken t o) ≡ true → is_broken (sort_or_broken (unless_broken t o)) ≡ false
made_unbroken true o e h is = absurd cc
made_unbroken false o e h is = there o h is

neither : (p q : Bool) → p ≡ false → q ≡ false → (p || q) ≡ false
neither true q e f = absurd cc
neither false q e f = f

-- ---- names

abbrev IsMeant : Meaning → Type 0
IsMeant Nothing = ⊥
IsMeant m = Unit {0}

field_as_meant : (buffer field : ℕ) (mask : List ℕ) (k : Option Kind) (place : Place) → (field_as buffer field mask k place).breaks ≡ [] → IsMeant (field_as buffer field mask k place).is
field_as_meant buffer field mask None place e = absurd cc
field_as_meant buffer field mask (Some k) place e = tt

abbrev by_number : Scene → NamedBuffer → Bool → Place → Option ℕ → Judged Meaning
by_number w x explicit place found = elim found as (λ _. Judged Meaning) [
  | None ↦ record { is = Nothing; breaks = unless false rule.Y1 place; names = [] }
  | Some field ↦ the_field w x field explicit place
]

field_of_meant : (w : Scene) (x : NamedBuffer) (name : List ℕ) (explicit : Bool) (place : Place) → (field_of w x name explicit place).breaks ≡ [] → IsMeant (field_of w x name explicit place).is
field_of_meant w x name explicit place e = go (field_named w.context.schema x.table name) e
  where
    go : (found : Option ℕ) → (by_number w x explicit place found).breaks ≡ [] → IsMeant (by_number w x explicit place found).is
    go None e = absurd cc
    go (Some field) e = field_as_meant _ field _ _ place e

field_among_meant : (w : Scene) (word : Word) (bs : List NamedBuffer) → (field_among w word bs).breaks ≡ [] → IsMeant (field_among w word bs).is
field_among_meant w word [] e = absurd cc
field_among_meant w word (x ∷ []) e = field_of_meant w x word.spelling false word.at e
field_among_meant w word (x ∷ y ∷ bs) e = absurd cc

buffer_or_field_meant : (w : Scene) (word : Word) (x : Option NamedBuffer) → (buffer_or_field w word x).breaks ≡ [] → IsMeant (buffer_or_field w word x).is
buffer_or_field_meant w word (Some x) e = tt
buffer_or_field_meant w word None e = field_among_meant w word (with_field w word.spelling) e

plain_meant : (w : Scene) (word : Word) (v : Option NamedVariable) → (plain w word v).breaks ≡ [] → IsMeant (plain w word v).is
plain_meant w word (Some v) e = tt
plain_meant w word None e = buffer_or_field_meant w word (buffer_named w word.spelling) e

qualified_meant : (w : Scene) (x : Option NamedBuffer) (field : List ℕ) (place : Place) → (qualified w x field place).breaks ≡ [] → IsMeant (qualified w x field place).is
qualified_meant w None field place e = absurd cc
qualified_meant w (Some x) field place e = field_of_meant w x field true place e

meant : (w : Scene) (name : Named) → (meaning w name).breaks ≡ [] → IsMeant (meaning w name).is
meant w (Plain word) e = plain_meant w word (variable_named w.known word.spelling) e
meant w (Qualified x field place) e = qualified_meant w (buffer_named w x) field place e

value_unbroken : (w : Scene) (place : Place) (m : Meaning) → IsMeant m → (value_of w place m).breaks ≡ [] → is_broken (value_of w place m).is.sort ≡ false
value_unbroken w place (TheVariable x mask) h e = refl
value_unbroken w place (TheField x field k mask) h e = refl
value_unbroken w place (TheBuffer x) h e = absurd cc
value_unbroken w place Nothing h e = absurd h

abbrev the_test : Scene → (ℕ → Expr) → Option NamedBuffer → Typed
the_test w build found = elim found as (λ _. Typed) [ None ↦ no_value | Some it ↦ typed (build (number_of w (Some it))) (Of kind.Logical) ]

test_unbroken : (w : Scene) (build : ℕ → Expr) (word : Word) (x : Option NamedBuffer) → (wanted_buffer w Free false word x).breaks ≡ [] → is_broken (test_of w build (wanted_buffer w Free false word x)).is.sort ≡ false
test_unbroken w build word None e = absurd cc
test_unbroken w build word (Some x) e = refl

-- ---- values and signs

value_sort : (v : Value) → is_broken (sort_of_value v) ≡ false
value_sort (value.Text t) = refl
value_sort (value.Int n) = refl
value_sort (value.Int64 n) = refl
value_sort (value.Dec n) = refl
value_sort (value.Logical t) = refl
value_sort (value.Date d) = refl
value_sort value.Unknown = refl

good_unbroken : (t : Bool) (x : Sort) → t ≡ true → is_broken x ≡ false → is_broken (if t then x else Broken) ≡ false
good_unbroken true x e h = h
good_unbroken false x e h = absurd cc

negated_unbroken : (x : Sort) → is_broken x ≡ false → is_broken (negated x) ≡ false
negated_unbroken (Of k) h = unbroken_if (same_kind k kind.Decimal) _ _ refl refl
negated_unbroken Unknown h = refl
negated_unbroken Broken h = h

logical_unbroken : (x : Sort) → is_broken x ≡ false → is_broken (logical_unless_broken x) ≡ false
logical_unbroken (Of k) h = refl
logical_unbroken Unknown h = refl
logical_unbroken Broken h = absurd cc

text_unbroken : (x : Sort) → is_broken x ≡ false → is_broken (if is_broken x then Broken else Of kind.Character) ≡ false
text_unbroken (Of k) h = refl
text_unbroken Unknown h = refl
text_unbroken Broken h = absurd cc

both_hold : (p q : Bool) → p ≡ true → q ≡ false → (p && not q) ≡ true
both_hold true true e f = absurd cc
both_hold true false e f = refl
both_hold false q e f = absurd cc

-- ---- expressions, and the arguments of functions

mutual
  pub is_unbroken : (w : Scene) (e : Expression) → (expression w e).breaks ≡ [] → is_broken (expression w e).is.sort ≡ false
  is_unbroken w (s.Literal v place) e = value_sort v
  is_unbroken w (s.Name name) e =
      value_unbroken w (named_at name) (meaning w name).is (meant w name (nil_left (meaning w name).breaks (value_of w (named_at name) (meaning w name).is).breaks e)) (nil_right (meaning w name).breaks _ e)
  is_unbroken w (s.Grouped place a) e = is_unbroken w a e
  is_unbroken w (s.Plus place a) e =
      good_unbroken (may_be_number (expression w a).is.sort) _ (holds _ _ _ (nil_right (expression w a).breaks _ e)) (is_unbroken w a (nil_left (expression w a).breaks _ e))
  is_unbroken w (s.Minus place a) e =
      good_unbroken (may_be_number (expression w a).is.sort) _ (holds _ _ _ (nil_right (expression w a).breaks _ e)) (negated_unbroken (expression w a).is.sort (is_unbroken w a (nil_left (expression w a).breaks _ e)))
  is_unbroken w (s.Not place a) e =
      good_unbroken (may_be_logical (expression w a).is.sort) _ (holds _ _ _ (nil_right (expression w a).breaks _ e)) (logical_unbroken (expression w a).is.sort (is_unbroken w a (nil_left (expression w a).breaks _ e)))
  is_unbroken w (s.Two op place a c) e =
      let both = nil_left ((expression w a).breaks ++ (expression w c).breaks) _ e in
      made_unbroken _ (result_of op (expression w a).is.sort (expression w c).is.sort)
      (neither _ _ (is_unbroken w a (nil_left (expression w a).breaks _ both)) (is_unbroken w c (nil_right (expression w a).breaks _ both)))
      (sound_result op (expression w a).is.sort (expression w c).is.sort) (holds _ _ _ (nil_right ((expression w a).breaks ++ (expression w c).breaks) _ e))
  is_unbroken w (s.And place a c) e =
      let both = nil_left ((expression w a).breaks ++ (expression w c).breaks) _ e in
      made_unbroken _ _
      (neither _ _ (is_unbroken w a (nil_left (expression w a).breaks _ both)) (is_unbroken w c (nil_right (expression w a).breaks _ both)))
      (sound_where (may_be_logical (expression w a).is.sort && may_be_logical (expression w c).is.sort) (Of kind.Logical) refl) (holds _ _ _ (nil_right ((expression w a).breaks ++ (expression w c).breaks) _ e))
  is_unbroken w (s.Or place a c) e =
      let both = nil_left ((expression w a).breaks ++ (expression w c).breaks) _ e in
      made_unbroken _ _
      (neither _ _ (is_unbroken w a (nil_left (expression w a).breaks _ both)) (is_unbroken w c (nil_right (expression w a).breaks _ both)))
      (sound_where (may_be_logical (expression w a).is.sort && may_be_logical (expression w c).is.sort) (Of kind.Logical) refl) (holds _ _ _ (nil_right ((expression w a).breaks ++ (expression w c).breaks) _ e))
  is_unbroken w (s.If place t a c) e =
      let test : (condition w t).breaks ≡ [] = nil_left (condition w t).breaks _ e in
      let rest = nil_right (condition w t).breaks _ e in
      let one : (expression w a).breaks ≡ [] = nil_left (expression w a).breaks _ rest in
      let last = nil_right (expression w a).breaks _ rest in
      let other : (expression w c).breaks ≡ [] = nil_left (expression w c).breaks _ last in
      let ht = is_unbroken w t (nil_left (expression w t).breaks _ test) in
      let ha = is_unbroken w a one in
      let hc = is_unbroken w c other in
      good_unbroken _ _ (both_hold (may_be_logical (expression w t).is.sort) _ (holds _ _ _ (nil_right (expression w t).breaks _ test)) ht)
      (made_unbroken _ (branches_of (expression w a).is.sort (expression w c).is.sort) (neither _ _ ha hc) (sound_branches _ _ ha hc) (holds _ _ _ (nil_right (expression w c).breaks _ last)))
  is_unbroken w (s.Available place word) e = test_unbroken w b.IsAvailable word (buffer_named w word.spelling) e
  is_unbroken w (s.Locked place word) e = test_unbroken w b.IsLocked word (buffer_named w word.spelling) e
  is_unbroken w (s.Retry place) e = refl
  is_unbroken w (s.ReturnValue place) e = refl
  is_unbroken w (s.ErrorStatus place) e = refl
  is_unbroken w (s.Text place a None) e = text_unbroken (expression w a).is.sort (is_unbroken w a e)
  is_unbroken w (s.Text place a (Some mask)) e =
      let h = is_unbroken w a (nil_left (expression w a).breaks _ e) in
      good_unbroken _ (Of kind.Character) (both_hold (mask_fits mask.spelling (expression w a).is.sort) _ (holds _ _ _ (nil_right (expression w a).breaks _ e)) h) refl
  is_unbroken w (s.Call x place as_) e =
      let fit = all_unbroken w x 0 as_ (nothing_taken x) (nil_left (arguments w x 0 as_).breaks _ e) in
      good_unbroken (all_fit x 0 (arguments w x 0 as_).is) (Of (kind_of_function x))
      (all_fit_true x (arguments w x 0 as_).is fit.0 fit.1 (holds _ _ _ (nil_right (arguments w x 0 as_).breaks _ e))) refl

  all_unbroken : (w : Scene) (x : Function) (i : ℕ) (as_ : Arguments) → i ≤ most x → (arguments w x i as_).breaks ≡ [] →
      (each_fits x i (arguments w x i as_).is ≡ true) × (i + length (arguments w x i as_).is ≤ most x)
  all_unbroken w x i s.NoMore le e = (refl, omega arith)
  all_unbroken w x i (s.More a rest) le e =
      let one : (argument x i (starts_at a) (expression w a)).breaks ≡ [] = nil_left (argument x i (starts_at a) (expression w a)).breaks _ e in
      let sound : is_broken (expression w a).is.sort ≡ false = is_unbroken w a (nil_left (expression w a).breaks _ one) in
      let good = taken x i (expression w a).is.sort le (holds _ _ _ (nil_right (expression w a).breaks _ one)) in
      let more = all_unbroken w x (i + 1) rest (omega (arith, good.1)) (nil_right (argument x i (starts_at a) (expression w a)).breaks _ e) in
      fits_more x i (expression w a).is (arguments w x (i + 1) rest).is good.0 sound more.0 more.1

-- WHAT BREAKS NO RULE IS WELL-KINDED
pub well_kinded : (w : Scene) (e : Expression) → (expression w e).breaks ≡ [] → IsWellKinded (expression w e).is.expr
well_kinded w e h =
    let sound = is_unbroken w e h in
    ap is_broken (is_right w e sound) ∙ sound
