-- RUN that breaks no rule is well-kinded.
use Rattle.std.proofs.Common.{◌≡◌, ℕ, ◌+◌, Bool, true, false, List, [], ◌∷◌, ◌++◌, Option, Some, None, length, map, refl, ap, sym, ◌∙◌, suc, arith, add-one}
use Rattle.std.specs.Prelude.{◌&&◌, ◌||◌, not, if◌then◌else◌, nat_le, slice_get, slice_index_or}
use Rattle.std.proofs.lemmas.Bool.Decides.{nat_tests}
use Rattle.abl_base.specs.declared.place.Place.{Place}
use Rattle.abl_base.specs.declared.rule.Rule.TheVariants as rule
use Rattle.abl_values.specs.Schema.{number_of_name, same_name}
use Rattle.bound_tree.specs.declared.expression.Variable.{Variable}
use Rattle.bound_tree.specs.Tree as b
use Rattle.syntax_tree.specs.Syntax as s
use Rattle.syntax_tree.specs.Syntax.{starts_at}
use Rattle.syntax_tree.specs.declared.name.Named.TheVariants as spelled
use Rattle.syntax_tree.specs.declared.name.Word.{Word}
use Rattle.syntax_tree.specs.declared.word.Direction.{Direction}
use Rattle.syntax_tree.specs.declared.word.Direction.TheVariants as direction
use Rattle.bind_names.specs.declared.names.Formal.{Formal}
use Rattle.bind_names.specs.declared.names.NamedVariable.{NamedVariable}
use Rattle.bind_names.specs.declared.names.Signature.{Signature}
use Rattle.bind_names.specs.Judged.{at, unless}
use Rattle.bind_names.specs.Sorts.{fits, same_kind}
use Rattle.bind_names.specs.Names.{Scene, meaning, variable_named}
use Rattle.bind_expressions.specs.Expressions.{expression}
use Rattle.bind_statements.specs.Runs.{beyond, good_direction, good_value, run, run_argument, run_arguments, run_numbered, same_direction, variable_for}
use Rattle.kind_laws.specs.bound_kinds.WellKinded.{Surroundings, are_arguments, is_argument, is_body, is_run, is_variable}
use Rattle.kind_laws.proofs.BoundKindsLemmas.Parts.{Maybe, both, each_left, each_right, holds, nil_left, nil_right}
use Rattle.kind_laws.proofs.BoundKindsLemmas.Suits.{AreNumbered, IsGood, IsNumbered, Match, Suits, formal_kinds, kinds_of, known_good}
use Rattle.kind_laws.proofs.BoundKindsLemmas.Marked.{good}
use Rattle.kind_laws.proofs.BoundKindsLemmas.Assigned.{alone}

-- ---- one argument

-- the argument is bound to one that is good for the parameter
pub record IsOne (x : Surroundings) (p : Variable) (bound : List b.Argument) : Type 0 where
  pub argument : b.Argument
  pub is : bound ≡ argument ∷ []
  pub good : is_argument x p argument ≡ true

second : (d g : Bool) → d ≡ true → (not d || g) ≡ true → g ≡ true
second true g e h = h
second false g e h = absurd cc

variable_good : (x : Surroundings) (w : Scene) (build : Variable → b.Argument) (f : Formal) (p : Variable) (d : Direction) (place : Place) (name : Word) (o : Option NamedVariable) → Maybe (IsGood x) o →
    ((v : Variable) → is_argument x p (build v) ≡ (is_variable x v && same_kind p.kind v.kind)) → f.kind ≡ p.kind → (variable_for w build (Some f) d place name o).breaks ≡ [] → IsOne x p (variable_for w build (Some f) d place name o).is
variable_good x w build f p d place name None g is e h =
    absurd (never (nil_right (unless (good_direction (Some f) d) rule.Y7 place) _ (nil_right (meaning w (spelled.Plain name)).breaks _ h)))
  where
    never : at rule.Y7 name.at ≡ [] → ⊥
    never e = absurd cc
variable_good x w build f p d place name (Some v) g is e h =
    let same : same_kind f.kind v.variable.kind ≡ true = holds _ _ _ (nil_right (unless (good_direction (Some f) d) rule.Y7 place) _ h) in
    record { argument = build v.variable; is = refl; good = is v.variable ∙ both _ _ g.there (ap (λ k. same_kind k v.variable.kind) (sym e) ∙ same) }

argument_good : (x : Surroundings) (w : Scene) → Suits x w → (f : Formal) (p : Variable) (a : s.Argument) → f.kind ≡ p.kind → (run_argument w (Some f) a).breaks ≡ [] → AreNumbered x w (run_argument w (Some f) a).names →
    IsOne x p (run_argument w (Some f) a).is
argument_good x w u f p (s.Input place e) is h n =
    let rest = nil_right (expression w e).breaks _ h in
    let right : same_direction f.direction direction.Input ≡ true = holds _ _ _ (nil_left (unless (good_direction (Some f) direction.Input) rule.Y7 place) _ rest) in
    let fit : good_value (Some f) (expression w e).is.sort ≡ true = holds _ _ _ (nil_right (unless (good_direction (Some f) direction.Input) rule.Y7 place) _ rest) in
    record {
      argument = b.In (expression w e).is.expr;
      is = refl;
      good = good x w (λ t. fits t p.kind) e u (nil_left (expression w e).breaks _ h) n (ap (fits (expression w e).is.sort) (sym is) ∙ second _ _ right fit);
    }
argument_good x w u f p (s.Output place name) is h n =
    variable_good x w b.Out f p direction.Output place name (variable_named w.known name.spelling) (known_good x w.known name.spelling u.known) (λ v. refl) is h
argument_good x w u f p (s.InputOutput place name) is h n =
    variable_good x w b.InOut f p direction.InputOutput place name (variable_named w.known name.spelling) (known_good x w.known name.spelling u.known) (λ v. refl) is h

-- ---- all of them

fewer : (m n : ℕ) → nat_le (suc m) (suc n) ≡ true → nat_le m n ≡ true
fewer m n h = grind (arith, nat_tests)

none : (m : ℕ) → nat_le (suc m) 0 ≡ true → ⊥
none m h = grind (arith, nat_tests)

one_more : (x : Surroundings) (p : Variable) (ps : List Variable) (bound more : List b.Argument) → IsOne x p bound → are_arguments x ps more ≡ true → are_arguments x (p ∷ ps) (bound ++ more) ≡ true
one_more x p ps bound more h g = rw h.is (both _ _ h.good g)

arguments_good : (x : Surroundings) (w : Scene) → Suits x w → (fs : List Formal) (ps : List Variable) (as_ : List s.Argument) → formal_kinds fs ≡ kinds_of ps → nat_le (length fs) (length as_) ≡ true →
    (run_arguments w fs as_).breaks ≡ [] → AreNumbered x w (run_arguments w fs as_).names → are_arguments x ps (run_arguments w fs as_).is ≡ true
arguments_good x w u [] [] [] e l h n = refl
arguments_good x w u [] [] (a ∷ as_) e l h n = absurd (never (nil_right ((run_argument w None a).breaks ++ (beyond w false as_).breaks) _ h))
  where
    never : {p : Place} → at rule.Y7 p ≡ [] → ⊥
    never e = absurd cc
arguments_good x w u [] (p ∷ ps) as_ e l h n = absurd cc
arguments_good x w u (f ∷ fs) [] as_ e l h n = absurd cc
arguments_good x w u (f ∷ fs) (p ∷ ps) [] e l h n = absurd (none (length fs) l)
arguments_good x w u (f ∷ fs) (p ∷ ps) (a ∷ as_) e l h n =
    let head : f.kind ≡ p.kind = cc in
    let tail : formal_kinds fs ≡ kinds_of ps = cc in
    one_more x p ps (run_argument w (Some f) a).is (run_arguments w fs as_).is
    (argument_good x w u f p a head (nil_left (run_argument w (Some f) a).breaks _ h) (each_left (IsNumbered x w) (run_argument w (Some f) a).names _ n))
    (arguments_good x w u fs ps as_ tail (fewer (length fs) (length as_) l) (nil_right (run_argument w (Some f) a).breaks _ h) (each_right (IsNumbered x w) (run_argument w (Some f) a).names _ n))

-- ---- the procedure

abbrev no_signature : Signature
no_signature = record { name = []; formals = [] }

-- the procedure found at p, counted from k, has these parameters
pub record IsFound (gs : List Signature) (pss : List (List Variable)) (k p : ℕ) : Type 0 where
  pub index : ℕ
  pub is : p ≡ k + index
  pub parameters : List Variable
  pub there : slice_get pss index ≡ Some parameters
  pub kinds : formal_kinds (slice_index_or gs index no_signature).formals ≡ kinds_of parameters

maybe_if : {A : Type 0} (P : A → Type 0) (c : Bool) (a : A) (o : Option A) → P a → Maybe P o → Maybe P (if c then Some a else o)
maybe_if P true a o h g = h
maybe_if P false a o h g = g

maybe_more : {A : Type 0} (P Q : A → Type 0) (o : Option A) → ((a : A) → P a → Q a) → Maybe P o → Maybe Q o
maybe_more P Q None f h = tt
maybe_more P Q (Some a) f h = f a h

found : (k : ℕ) (gs : List Signature) (pss : List (List Variable)) (name : List ℕ) → Match gs pss → Maybe (IsFound gs pss k) (number_of_name k (map (λ g. g.name) gs) name)
found k [] [] name m = tt
found k [] (ps ∷ pss) name m = absurd m
found k (g ∷ gs) [] name m = absurd m
found k (g ∷ gs) (ps ∷ pss) name m =
    maybe_if (IsFound (g ∷ gs) (ps ∷ pss) k) (same_name g.name name) k (number_of_name (k + 1) (map (λ g. g.name) gs) name) (record { index = 0; is = omega arith; parameters = ps; there = refl; kinds = m.0 })
    (maybe_more (IsFound gs pss (k + 1)) (IsFound (g ∷ gs) (ps ∷ pss) k) (number_of_name (k + 1) (map (λ g. g.name) gs) name)
    (λ p h. record { index = suc h.index; is = further k p h.index h.is; parameters = h.parameters; there = h.there; kinds = h.kinds }) (found (k + 1) gs pss name m.1))
  where
    further : (k p i : ℕ) → p ≡ k + 1 + i → p ≡ k + suc i
    further k p i e = omega arith

next : {A : Type 0} (a : A) (xs : List A) (i : ℕ) → slice_get (a ∷ xs) (i + 1) ≡ slice_get xs i
next a xs i = rw add-one refl

numbered_good : (x : Surroundings) (w : Scene) (u : Suits x w) (name : Word) (as_ : List s.Argument) (quiet : Bool) (o : Option ℕ) → Maybe (IsFound w.context.procedures u.source.others 0) o → (run_numbered w name as_ quiet o).breaks ≡ [] →
    AreNumbered x w (run_numbered w name as_ quiet o).names → is_body x (run_numbered w name as_ quiet o).is.body ≡ true
numbered_good x w u name as_ quiet None f h n = absurd (never (nil_right (beyond w false as_).breaks _ h))
  where
    never : at rule.Y1 name.at ≡ [] → ⊥
    never e = absurd cc
numbered_good x w u name as_ quiet (Some p) f h n =
    let place : p ≡ f.index = f.is ∙ omega arith in
    let there : slice_get x.parameters (p + 1) ≡ Some f.parameters = ap (λ pss. slice_get pss (p + 1)) u.source.parameters ∙ next u.source.main u.source.others p ∙ ap (slice_get u.source.others) place ∙ f.there in
    let kinds : formal_kinds (slice_index_or w.context.procedures p no_signature).formals ≡ kinds_of f.parameters = ap (λ i. formal_kinds (slice_index_or w.context.procedures i no_signature).formals) place ∙ f.kinds in
    alone _
    (ap (λ o. is_run x o (run_arguments w (slice_index_or w.context.procedures p no_signature).formals as_).is) there
    ∙ arguments_good x w u (slice_index_or w.context.procedures p no_signature).formals f.parameters as_ kinds
    (holds _ _ _ (nil_right (run_arguments w (slice_index_or w.context.procedures p no_signature).formals as_).breaks _ h))
    (nil_left (run_arguments w (slice_index_or w.context.procedures p no_signature).formals as_).breaks _ h) n)

pub run_good : (x : Surroundings) (w : Scene) → Suits x w → (name : Word) (as_ : List s.Argument) (quiet : Bool) → (run w name as_ quiet).breaks ≡ [] → AreNumbered x w (run w name as_ quiet).names → is_body x (run w name as_ quiet).is.body ≡ true
run_good x w u name as_ quiet h n =
    numbered_good x w u name as_ quiet (number_of_name 0 (map (λ p. p.name) w.context.procedures) name.spelling) (found 0 w.context.procedures u.source.others name.spelling u.source.match) h n
