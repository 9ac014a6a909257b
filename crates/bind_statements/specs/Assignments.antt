-- What assignments, CREATE, DELETE and RELEASE are bound to.
use Rattle.std.specs.Prelude.{ℕ, Bool, true, false, List, [], ◌∷◌, ◌++◌, map, Option, Some, None, unwrap_or}
use Rattle.std.specs.Option.{is_some}
use Rattle.abl_base.specs.declared.place.Place.{Place}
use Rattle.abl_base.specs.declared.rule.Rule.TheVariants.{Y1, Y5, Y8}
use Rattle.abl_base.specs.declared.value.Kind.{Kind}
use Rattle.abl_values.specs.declared.schema.SequenceDef.{SequenceDef}
use Rattle.abl_values.specs.Schema.{number_of_name}
use Rattle.bound_tree.specs.declared.statement.Target.{Target}
use Rattle.bound_tree.specs.declared.statement.Target.TheVariants as target
use Rattle.bound_tree.specs.Tree as b
use Rattle.bound_tree.specs.Tree.{Stmt}
use Rattle.syntax_tree.specs.Syntax as s
use Rattle.syntax_tree.specs.declared.name.Named.{Named}
use Rattle.syntax_tree.specs.declared.name.Word.{Word}
use Rattle.syntax_tree.specs.Syntax.{Expression, named_at}
use Rattle.bind_names.specs.declared.names.NamingKind.TheVariants as naming_kind
use Rattle.bind_names.specs.Judged.{Judged, unless, fine, broken, made, made_of, breaking, naming}
use Rattle.bind_names.specs.Sorts.{is_number_kind}
use Rattle.bind_names.specs.Names.{Scene, Meaning, TheVariable, TheField, TheBuffer, names_it, meaning, buffer, number_of}
use Rattle.bind_names.specs.Names as n
use Rattle.bind_expressions.specs.Expressions.{Typed, expression, value_for, of_meaning}
use Rattle.bind_expressions.specs.Parts.{Done, does}

-- ---- targets: Y8 at a buffer

abbrev pub target_of : Scene → Place → Meaning → Judged (Option Target)
target_of w place (TheVariable x mask) = fine (Some (target.Variable x))
target_of w place (TheField buffer field kind mask) = fine (Some (target.Field buffer field kind))
target_of w place (TheBuffer x) = naming (names_it w x naming_kind.Free false place) (broken None Y8 place)
target_of w place n.Nothing = fine None

abbrev pub the_target : Scene → Named → Judged (Option Target)
the_target w name = of_meaning (meaning w name) (target_of w (named_at name))

abbrev pub target_kind : Option Target → Option Kind
target_kind None = None
target_kind (Some (target.Variable x)) = Some x.kind
target_kind (Some (target.Field buffer field kind)) = Some kind

-- the value for a target; its kind is not checked if the target breaks a rule
abbrev pub value_for_target : Scene → Option Kind → Expression → Judged Typed
value_for_target w None e = expression w e
value_for_target w (Some k) e = value_for w k e

-- a sequence gives a number: Y1 at an unknown one, Y5 at NEXT-VALUE or CURRENT-VALUE for another target
abbrev pub takes_number : Option Kind → Bool
takes_number None = true
takes_number (Some k) = is_number_kind k

abbrev pub sequence_names : List SequenceDef → List (List ℕ)
sequence_names = map (λ q. q.name)

abbrev pub sequence : Scene → Option Kind → Place → Word → Judged ℕ
sequence w k place name =
    let number = number_of_name 0 (sequence_names w.context.schema.sequences) name.spelling in
    breaking (fine (unwrap_or number 0)) (unless (is_some number) Y1 name.at ++ unless (takes_number k) Y5 place)

abbrev pub right_side : Scene → Option Kind → s.RightSide → Judged b.Right
right_side w k (s.ValueOf e) = made (λ x. b.ValueOf x.expr) (value_for_target w k e)
right_side w k (s.NextValue place name) = made b.NextOf (sequence w k place name)
right_side w k (s.CurrentValue place name) = made b.CurrentOf (sequence w k place name)

abbrev pub assignment : Option Target → b.Right → List b.Assignment
assignment None right = []
assignment (Some t) right = record { target = t; right = right } ∷ []

abbrev pub pair : Scene → s.Pair → Judged (List b.Assignment)
pair w p =
    let t = the_target w p.target in
    made_of assignment t (right_side w (target_kind t.is) p.right)

abbrev pub pairs : Scene → List s.Pair → Judged (List b.Assignment)
pairs w [] = fine []
pairs w (p ∷ ps) = made_of (λ x xs. x ++ xs) (pair w p) (pairs w ps)

-- an assignment, or ASSIGN
abbrev pub assign : Scene → List s.Pair → Bool → Judged Done
assign w ps quiet = made (λ xs. does w (b.Assign xs quiet)) (pairs w ps)

-- ---- records

-- a record statement
abbrev pub record_statement : Scene → (ℕ → Bool → Stmt) → Word → Bool → Judged Done
record_statement w build x quiet = made (λ x. does w (build (number_of w x) quiet)) (buffer w naming_kind.Free true x)
