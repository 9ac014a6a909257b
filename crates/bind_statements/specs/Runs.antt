-- What RUN is bound to: Y7 at an argument of a wrong kind or direction, at the first one too many, and at the name where they are too few.
use Rattle.std.specs.Prelude.{ℕ, ◌+◌, Bool, true, false, not, ◌||◌, nat_le, List, [], ◌∷◌, ◌++◌, length, map, Option, Some, None, slice_index_or}
use Rattle.abl_base.specs.declared.place.Place.{Place}
use Rattle.abl_base.specs.declared.rule.Rule.TheVariants.{Y1, Y7}
use Rattle.abl_base.specs.declared.value.Kind.{Kind}
use Rattle.abl_values.specs.Schema.{number_of_name}
use Rattle.bound_tree.specs.declared.expression.Variable.{Variable}
use Rattle.bound_tree.specs.Tree as b
use Rattle.syntax_tree.specs.Syntax as s
use Rattle.syntax_tree.specs.declared.name.Named.TheVariants as spelled
use Rattle.syntax_tree.specs.declared.name.Word.{Word}
use Rattle.syntax_tree.specs.Syntax.{starts_at}
use Rattle.syntax_tree.specs.declared.word.Direction.{Direction}
use Rattle.syntax_tree.specs.declared.word.Direction.TheVariants as direction
use Rattle.bind_names.specs.declared.names.NamedVariable.{NamedVariable}
use Rattle.bind_names.specs.declared.sort.Sort.{Sort}
use Rattle.bind_names.specs.Judged.{Judged, at, unless, fine, made, made_of, breaking}
use Rattle.bind_names.specs.Sorts.{same_kind, fits}
use Rattle.bind_names.specs.declared.names.Formal.{Formal}
use Rattle.bind_names.specs.Names.{Scene, variable_named, meaning}
use Rattle.bind_expressions.specs.Expressions.{expression}
use Rattle.bind_expressions.specs.Parts.{Done, does}

abbrev pub same_direction : Direction → Direction → Bool
same_direction direction.Input direction.Input = true
same_direction direction.Output direction.Output = true
same_direction direction.InputOutput direction.InputOutput = true
same_direction a b = false

abbrev pub good_direction : Option Formal → Direction → Bool
good_direction None d = true
good_direction (Some x) d = same_direction x.direction d

-- an INPUT argument, for a parameter where there is one
abbrev pub good_value : Option Formal → Sort → Bool
good_value None k = true
good_value (Some x) k = not (same_direction x.direction direction.Input) || fits k x.kind

abbrev pub good_kind : Option Formal → Kind → Bool
good_kind None k = true
good_kind (Some x) k = same_kind x.kind k

-- an OUTPUT or INPUT-OUTPUT argument is a variable of the parameter's kind
abbrev pub variable_for : Scene → (Variable → b.Argument) → Option Formal → Direction → Place → Word → Option NamedVariable → Judged (List b.Argument)
variable_for w build formal d place name (Some v) =
    breaking (fine (build v.variable ∷ [])) (unless (good_direction formal d) Y7 place ++ unless (good_kind formal v.variable.kind) Y7 name.at)
variable_for w build formal d place name None =
    breaking (made (λ m. []) (meaning w (spelled.Plain name))) (unless (good_direction formal d) Y7 place ++ at Y7 name.at)

abbrev pub run_argument : Scene → Option Formal → s.Argument → Judged (List b.Argument)
run_argument w formal (s.Input place e) =
    let x = expression w e in
    breaking (made (λ x. b.In x.expr ∷ []) x) (unless (good_direction formal direction.Input) Y7 place ++ unless (good_value formal x.is.sort) Y7 (starts_at e))
run_argument w formal (s.Output place name) = variable_for w b.Out formal direction.Output place name (variable_named w.known name.spelling)
run_argument w formal (s.InputOutput place name) = variable_for w b.InOut formal direction.InputOutput place name (variable_named w.known name.spelling)

abbrev pub argument_at : s.Argument → Place
argument_at (s.Input place e) = place
argument_at (s.Output place name) = place
argument_at (s.InputOutput place name) = place

-- the arguments for these parameters; the first one beyond them is one too many
abbrev pub beyond : Scene → Bool → List s.Argument → Judged (List b.Argument)
beyond w first [] = fine []
beyond w first (a ∷ as_) = breaking (made_of (λ x xs. x ++ xs) (run_argument w None a) (beyond w false as_)) (unless (not first) Y7 (argument_at a))

abbrev pub run_arguments : Scene → List Formal → List s.Argument → Judged (List b.Argument)
run_arguments w formals [] = fine []
run_arguments w [] (a ∷ as_) = beyond w true (a ∷ as_)
run_arguments w (x ∷ formals) (a ∷ as_) = made_of (λ x xs. x ++ xs) (run_argument w (Some x) a) (run_arguments w formals as_)

-- of an unknown procedure: Y1
abbrev pub run_unknown : Scene → Word → List s.Argument → Judged Done
run_unknown w name as_ = breaking (made (λ xs. does w b.Stop) (beyond w false as_)) (at Y1 name.at)

-- of the one with this number among the internal procedures
abbrev pub run_numbered : Scene → Word → List s.Argument → Bool → Option ℕ → Judged Done
run_numbered w name as_ quiet None = run_unknown w name as_
run_numbered w name as_ quiet (Some p) =
    let formals = (slice_index_or w.context.procedures p (record { name = []; formals = [] })).formals in
    breaking (made (λ xs. does w (b.Run (p + 1) xs quiet)) (run_arguments w formals as_)) (unless (nat_le (length formals) (length as_)) Y7 name.at)

-- RUN
abbrev pub run : Scene → Word → List s.Argument → Bool → Judged Done
run w name as_ quiet = run_numbered w name as_ quiet (number_of_name 0 (map (λ p. p.name) w.context.procedures) name.spelling)
