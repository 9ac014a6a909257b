-- How the contracts see the values of the program.
use Rattle.std.specs.Prelude.{◌≡◌, ℕ, Bool, true, List, [], ◌∷◌, ◌++◌, Option, Some, None, slice_index_or}
use Rattle.abl_base.specs.declared.rule.Rule.TheVariants.{Y7}
use Rattle.abl_base.specs.declared.place.Place.{Place}
use Rattle.syntax_tree.specs.Syntax as s
use Rattle.syntax_tree.specs.declared.name.Named.{Named}
use Rattle.bound_tree.specs.declared.expression.Variable.{Variable}
use Rattle.bound_tree.specs.declared.statement.Argument.{Argument as SourceArgument}
use Rattle.bound_tree.specs.declared.statement.Assignment.{Assignment as SourceAssignment}
use Rattle.bound_tree.specs.Bound.{argument_of, assignment_of}
use Rattle.bound_tree.specs.Tree.{Argument, Assignment, Create, Expr, Release, Remove, Stmt}
use Rattle.bind_names.specs.declared.names.Formal.{Formal}
use Rattle.bind_names.specs.declared.names.NamedBuffer.{NamedBuffer}
use Rattle.bind_names.specs.declared.names.NamingKind.TheVariants.{Free}
use Rattle.bind_names.specs.declared.violation.Violation.{Violation}
use Rattle.bind_names.specs.Judged.{Judged, at, fine, made_of}
use Rattle.bind_names.specs.Names.{Scene, from, names_it}
use Rattle.bind_expressions.specs.Expressions.{expression}
use Rattle.bind_statements.specs.declared.buffers.Touch.{Touch}
use Rattle.bind_statements.specs.declared.buffers.Touch.TheVariants as touch
use Rattle.bind_expressions.specs.Parts.{the_expr}
use Rattle.bind_statements.specs.Runs.{argument_at, run_argument}
use Rattle.bind_statements.specs.Streams.{export_names, lone_buffer, named_alone}

-- a pair of an assignment that may be at fault
abbrev pub assignments_of : Option SourceAssignment → List Assignment
assignments_of None = []
assignments_of (Some x) = assignment_of x ∷ []

-- an argument of RUN that may be at fault
abbrev pub run_arguments_of : Option SourceArgument → List Argument
run_arguments_of None = []
run_arguments_of (Some x) = argument_of x ∷ []

-- an argument that is built of a variable, where there is one
abbrev pub variables_of : (Variable → Argument) → Option Variable → List Argument
variables_of build None = []
variables_of build (Some x) = build x ∷ []

-- the parameters of the internal procedure with this number
abbrev pub formals_of : Scene → ℕ → List Formal
formals_of w p = (slice_index_or w.context.procedures p (record { name = []; formals = [] })).formals

-- the arguments of RUN, each for its parameter where there is one
abbrev pub walk : Scene → List Formal → List s.Argument → Judged (List Argument)
walk w formals [] = fine []
walk w [] (a ∷ as_) = made_of (λ x xs. x ++ xs) (run_argument w None a) (walk w [] as_)
walk w (x ∷ formals) (a ∷ as_) = made_of (λ x xs. x ++ xs) (run_argument w (Some x) a) (walk w formals as_)

-- the first argument that is one too many
abbrev pub too_many : List Formal → List s.Argument → List Violation
too_many formals [] = []
too_many [] (a ∷ as_) = at Y7 (argument_at a)
too_many (x ∷ formals) (a ∷ as_) = too_many formals as_

-- the name that an expression is, where it is a name alone
abbrev pub name_in : s.Expression → Option Named
name_in (s.Name name) = Some name
name_in e = None

-- a bound expression
abbrev pub expr_in : Scene → s.Expression → Judged Expr
expr_in w e = the_expr (expression w e)

-- the one target of IMPORT, where there is one alone and it is no `^`
abbrev pub target_alone : List (Option Named) → Option Named
target_alone (Some name ∷ []) = Some name
target_alone names = None

-- the one buffer that EXPORT names alone, and its naming
pub record IsExported (w : Scene) (es : List s.Expression) (x : NamedBuffer) (place : Place) : Type 0 where
  pub buffer : from (named_alone es) (lone_buffer w) ≡ Some x
  pub names : export_names w es (Some x) ≡ names_it w x Free true place ∷ []

-- CREATE, DELETE or RELEASE
abbrev pub touch_stmt : Touch → ℕ → Bool → Stmt
touch_stmt touch.Create = Create
touch_stmt touch.Delete = Remove
touch_stmt touch.Release = Release
