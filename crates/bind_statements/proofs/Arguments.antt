-- RUN with its arguments.
use Rattle.std.proofs.Common.{◌≡◌, ◌<◌, ◌≤◌, ◌+◌, ℕ, zero, suc, Bool, false, List, [], ◌∷◌, ◌++◌, length, map, drop, get_or, Option, Some, None, refl, ap, sym, ◌∙◌, add-one, drop-cons, append_assoc, append-nil, arith}
use Rattle.std.proofs.lemmas.List.{length-map}
use Rattle.std.specs.Prelude.{nat_le, slice_get}
use Rattle.std.specs.Option.{option_map}
use Rattle.abl_base.specs.declared.place.Place.{Place}
use Rattle.abl_base.specs.declared.rule.Rule.TheVariants.{Y1, Y7}
use Rattle.syntax_tree.specs.Syntax as s
use Rattle.syntax_tree.specs.Typed.{argument_of}
use Rattle.syntax_tree.specs.declared.name.Named.TheVariants.{Plain}
use Rattle.syntax_tree.specs.declared.name.Word.{Word}
use Rattle.syntax_tree.specs.declared.statement.Argument.{Argument as TypedArgument}
use Rattle.syntax_tree.specs.declared.word.Direction.{Direction}
use Rattle.bound_tree.specs.Tree as b
use Rattle.bound_tree.specs.Tree.{Argument}
use Rattle.bound_tree.specs.declared.expression.Variable.{Variable}
use Rattle.bind_names.specs.declared.names.Formal.{Formal}
use Rattle.bind_names.specs.declared.names.NamedVariable.{NamedVariable}
use Rattle.bind_names.specs.declared.notes.Notes.{Notes}
use Rattle.bind_names.specs.Judged.{Judged, at, breaking, fine, first_of, made, made_of, unless}
use Rattle.bind_names.specs.Names.{Scene, meaning}
use Rattle.bind_names.specs.Views.{IsJudged}
use Rattle.bind_names.proofs.Joined.{first_of_append}
use Rattle.bind_expressions.specs.Parts.{does}
use Rattle.bind_statements.specs.Runs.{argument_at, beyond, good_direction, good_kind, run_argument, run_arguments, run_numbered, run_unknown, variable_for}
use Rattle.bind_statements.specs.Views.{formals_of, too_many, walk}

-- ---- an argument that is to be a variable

abbrev pub for_variable : Scene → (Variable → Argument) → Option Formal → Direction → Place → Word → Option Variable → Judged (List Argument)
for_variable w build formal d place name (Some v) =
    breaking (fine (build v ∷ [])) (unless (good_direction formal d) Y7 place ++ unless (good_kind formal v.kind) Y7 name.at)
for_variable w build formal d place name None =
    breaking (made (λ m. []) (meaning w (Plain name))) (unless (good_direction formal d) Y7 place ++ at Y7 name.at)

pub variable_for_is : (w : Scene) (build : Variable → Argument) (formal : Option Formal) (d : Direction) (place : Place) (name : Word) (x : Option NamedVariable) →
    variable_for w build formal d place name x ≡ for_variable w build formal d place name (option_map (λ (v : NamedVariable). v.variable) x)
variable_for_is w build formal d place name None = refl
variable_for_is w build formal d place name (Some v) = refl

-- ---- all arguments: those beyond the parameters are walked like the others, and one violation follows

beyond_is : (w : Scene) (as_ : List s.Argument) → (beyond w false as_).is ≡ (walk w [] as_).is
beyond_is w [] = refl
beyond_is w (a ∷ as_) = ap (λ xs. (run_argument w None a).is ++ xs) (beyond_is w as_)

beyond_breaks : (w : Scene) (as_ : List s.Argument) → (beyond w false as_).breaks ≡ (walk w [] as_).breaks
beyond_breaks w [] = refl
beyond_breaks w (a ∷ as_) = append-nil ((run_argument w None a).breaks ++ (beyond w false as_).breaks) ∙ ap (λ vs. (run_argument w None a).breaks ++ vs) (beyond_breaks w as_)

beyond_names : (w : Scene) (as_ : List s.Argument) → (beyond w false as_).names ≡ (walk w [] as_).names
beyond_names w [] = refl
beyond_names w (a ∷ as_) = ap (λ ns. (run_argument w None a).names ++ ns) (beyond_names w as_)

run_is : (w : Scene) (formals : List Formal) (as_ : List s.Argument) → (run_arguments w formals as_).is ≡ (walk w formals as_).is
run_is w formals [] = refl
run_is w [] (a ∷ as_) = ap (λ xs. (run_argument w None a).is ++ xs) (beyond_is w as_)
run_is w (x ∷ formals) (a ∷ as_) = ap (λ xs. (run_argument w (Some x) a).is ++ xs) (run_is w formals as_)

run_breaks : (w : Scene) (formals : List Formal) (as_ : List s.Argument) → (run_arguments w formals as_).breaks ≡ (walk w formals as_).breaks ++ too_many formals as_
run_breaks w formals [] = refl
run_breaks w [] (a ∷ as_) = ap (λ vs. ((run_argument w None a).breaks ++ vs) ++ at Y7 (argument_at a)) (beyond_breaks w as_)
run_breaks w (x ∷ formals) (a ∷ as_) =
    ap (λ vs. (run_argument w (Some x) a).breaks ++ vs) (run_breaks w formals as_) ∙ sym (append_assoc (run_argument w (Some x) a).breaks (walk w formals as_).breaks (too_many formals as_))

run_names : (w : Scene) (formals : List Formal) (as_ : List s.Argument) → (run_arguments w formals as_).names ≡ (walk w formals as_).names
run_names w formals [] = refl
run_names w [] (a ∷ as_) = ap (λ ns. (run_argument w None a).names ++ ns) (beyond_names w as_)
run_names w (x ∷ formals) (a ∷ as_) = ap (λ ns. (run_argument w (Some x) a).names ++ ns) (run_names w formals as_)

pub run_judged : (w : Scene) (formals : List Formal) (as_ : List s.Argument) (bound : List Argument) (o n m : Notes) →
    IsJudged (walk w formals as_) bound o n → m.first ≡ first_of n.first (too_many formals as_) → m.names ≡ n.names → IsJudged (run_arguments w formals as_) bound o m
run_judged w formals as_ bound o n m h first names = record {
  is = h.is ∙ sym (run_is w formals as_);
  first = let a = h.first in let b = run_breaks w formals as_ in rw b (rw first_of_append cc);
  names = let a = h.names in let b = run_names w formals as_ in cc;
}

pub beyond_judged : (w : Scene) (as_ : List s.Argument) (bound : List Argument) (o n : Notes) → IsJudged (walk w [] as_) bound o n → IsJudged (beyond w false as_) bound o n
beyond_judged w as_ bound o n h = record {
  is = h.is ∙ sym (beyond_is w as_);
  first = let a = h.first in let b = beyond_breaks w as_ in cc;
  names = let a = h.names in let b = beyond_names w as_ in cc;
}

-- ---- the walk

abbrev step : Scene → Option Formal → s.Argument → List Formal → List s.Argument → Judged (List Argument)
step w formal a formals as_ = made_of (λ x xs. x ++ xs) (run_argument w formal a) (walk w formals as_)

walk_step : (w : Scene) (formals : List Formal) (i : ℕ) (a : s.Argument) (as_ : List s.Argument) → walk w (drop i formals) (a ∷ as_) ≡ step w (slice_get formals i) a (drop (suc i) formals) as_
walk_step w [] zero a as_ = refl
walk_step w [] (suc i) a as_ = refl
walk_step w (x ∷ formals) zero a as_ = refl
walk_step w (x ∷ formals) (suc i) a as_ = walk_step w formals i a as_

pub record WalkContinues (w : Scene) (formals : List Formal) (all : List TypedArgument) (i : ℕ) (bound : List Argument) (now begun : Notes) : Type 0 where
  pub is : bound ++ (walk w (drop i formals) (map argument_of (drop i all))).is ≡ (walk w formals (map argument_of all)).is
  pub first : first_of now.first (walk w (drop i formals) (map argument_of (drop i all))).breaks ≡ first_of begun.first (walk w formals (map argument_of all)).breaks
  pub names : now.names ++ (walk w (drop i formals) (map argument_of (drop i all))).names ≡ begun.names ++ (walk w formals (map argument_of all)).names

next_one : (xs : List TypedArgument) (i : ℕ) (x : TypedArgument) → i < length xs → x ≡ get_or xs i x → drop i xs ≡ x ∷ drop (suc i) xs
next_one xs i x lt e = rw (drop-cons xs i x) (ap (λ y. y ∷ drop (suc i) xs) (sym e))

pub one_more_run_argument : (w : Scene) (formals : List Formal) (all : List TypedArgument) (i : ℕ) (a : TypedArgument) (bound more new : List Argument) (n m begun : Notes) →
    i < length all → a ≡ get_or all i a → IsJudged (run_argument w (slice_get formals i) (argument_of a)) more n m → new ≡ bound ++ more →
    WalkContinues w formals all i bound n begun → WalkContinues w formals all (i + 1) new m begun
one_more_run_argument w formals all i a bound more new n m begun lt e j is h =
    let d : drop i all ≡ a ∷ drop (suc i) all = next_one all i a lt e in
    let t : walk w (drop i formals) (argument_of a ∷ map argument_of (drop (suc i) all)) ≡ step w (slice_get formals i) (argument_of a) (drop (suc i) formals) (map argument_of (drop (suc i) all)) =
    walk_step w formals i (argument_of a) (map argument_of (drop (suc i) all)) in
    let is1 = rw (d, t) at h.is in
    let first1 = rw (d, t) at h.first in
    let names1 = rw (d, t) at h.names in
    rw add-one (record {
      is = rw (is, j.is) (rw append_assoc is1);
      first = rw j.first (rw first_of_append at first1);
      names = rw j.names (rw append_assoc names1);
    })

drop_all : {A : Type 0} (xs : List A) → drop (length xs) xs ≡ []
drop_all [] = refl
drop_all (x ∷ xs) = drop_all xs

pub walk_judged : (w : Scene) (formals : List Formal) (all : List TypedArgument) (i : ℕ) (bound : List Argument) (n begun : Notes) → i ≡ length all →
    WalkContinues w formals all i bound n begun → IsJudged (walk w formals (map argument_of all)) bound begun n
walk_judged w formals all i bound n begun e h =
    let d : drop i all ≡ [] = ap (λ j. drop j all) e ∙ drop_all all in
    record {
      is = sym (append-nil bound) ∙ (rw d at h.is);
      first = rw d at h.first;
      names = sym (append-nil n.names) ∙ (rw d at h.names);
    }

-- ---- the first that is one too many

pub too_many_none : (formals : List Formal) (all : List TypedArgument) → length all ≤ length formals → too_many formals (map argument_of all) ≡ []
too_many_none formals [] le = refl
too_many_none [] (a ∷ all) le = absurd (omega arith)
too_many_none (x ∷ formals) (a ∷ all) le = too_many_none formals all (omega arith)

pub too_many_some : (formals : List Formal) (all : List TypedArgument) (a : TypedArgument) → length formals < length all → a ≡ get_or all (length formals) a →
    too_many formals (map argument_of all) ≡ at Y7 (argument_at (argument_of a))
too_many_some formals [] a lt e = absurd (omega arith)
too_many_some [] (x ∷ all) a lt e = rw (sym e) refl
too_many_some (y ∷ formals) (x ∷ all) a lt e = too_many_some formals all a (omega arith) e

-- ---- RUN of an unknown procedure, and of a known one

pub run_unknown_judged : (w : Scene) (name : Word) (as_ : List s.Argument) (bound : List Argument) (o n m : Notes) →
    IsJudged (walk w [] as_) bound o n → m.first ≡ first_of n.first (at Y1 name.at) → m.names ≡ n.names → IsJudged (run_unknown w name as_) (does w b.Stop) o m
run_unknown_judged w name as_ bound o n m h first names =
    let j = beyond_judged w as_ bound o n h in
    record {
      is = refl;
      first = let a = j.first in rw first_of_append cc;
      names = let a = j.names in cc;
    }

pub run_known_judged : (w : Scene) (name : Word) (as_ : List s.Argument) (quiet : Bool) (p number : ℕ) (formals : List Formal) (bound : List Argument) (o n m : Notes) →
    formals ≡ formals_of w p → IsJudged (run_arguments w formals as_) bound o n → m.first ≡ first_of n.first (unless (nat_le (length formals) (length as_)) Y7 name.at) → m.names ≡ n.names → number ≡ p + 1 →
    IsJudged (run_numbered w name as_ quiet (Some p)) (does w (b.Run number bound quiet)) o m
run_known_judged w name as_ quiet p number formals bound o n m is h first names same = record {
  is = let a = h.is in rw (← is, same, a) refl;
  first = let a = h.first in rw (← is) (rw first_of_append cc);
  names = let a = h.names in rw (← is) cc;
}

-- the same, as the program has it
pub run_known_stmt : (w : Scene) (name : Word) (all : List TypedArgument) (quiet : Bool) (p number : ℕ) (formals : List Formal) (bound : List Argument) (t : b.Stmt) (o n m : Notes) →
    formals ≡ formals_of w p → IsJudged (run_arguments w formals (map argument_of all)) bound o n → m.first ≡ first_of n.first (unless (nat_le (length formals) (length all)) Y7 name.at) → m.names ≡ n.names → number ≡ p + 1 →
    t ≡ b.Run number bound quiet → IsJudged (run_numbered w name (map argument_of all) quiet (Some p)) (does w t) o m
run_known_stmt w name all quiet p number formals bound t o n m is h first names same is_t =
    let l : length (map argument_of all) ≡ length all = length-map all argument_of in
    rw is_t (run_known_judged w name (map argument_of all) quiet p number formals bound o n m is h (rw l first) names same)
