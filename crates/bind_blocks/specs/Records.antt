-- What record phrases and FIND are bound to.
use Rattle.std.specs.Prelude.{ℕ, Bool, true, false, not, ◌&&◌, ◌||◌, ◌==◌, if◌then◌else◌, List, [], ◌∷◌, ◌++◌, map, Option, Some, None, unwrap_or, slice_index_or}
use Rattle.std.specs.Option.{is_some}
use Rattle.std.specs.List.{list_any}
use Rattle.abl_base.specs.declared.rule.Rule.TheVariants.{Y10}
use Rattle.abl_base.specs.declared.value.Kind.TheVariants.{Character}
use Rattle.abl_values.specs.declared.schema.FieldDef.{FieldDef}
use Rattle.abl_values.specs.declared.schema.IndexDef.{IndexDef}
use Rattle.abl_values.specs.declared.schema.KeyPart.{KeyPart}
use Rattle.abl_values.specs.Schema.{same_name, number_of_name, fields_of, indexes_of, primary_of, no_field, no_index}
use Rattle.bound_tree.specs.declared.block.LockWanted.{LockWanted}
use Rattle.bound_tree.specs.declared.block.LockWanted.TheVariants as lock
use Rattle.bound_tree.specs.declared.expression.Binary.{Binary}
use Rattle.bound_tree.specs.declared.expression.Binary.TheVariants as two
use Rattle.bound_tree.specs.declared.statement.FindWord.{FindWord}
use Rattle.bound_tree.specs.declared.statement.FindWord.TheVariants as find_word
use Rattle.bound_tree.specs.Tree as b
use Rattle.bound_tree.specs.Tree.{Expr, Stmt}
use Rattle.syntax_tree.specs.Syntax as s
use Rattle.syntax_tree.specs.declared.name.Word.{Word}
use Rattle.syntax_tree.specs.Syntax.{Expression}
use Rattle.syntax_tree.specs.declared.word.FindWhich.{FindWhich}
use Rattle.syntax_tree.specs.declared.word.FindWhich.TheVariants as which
use Rattle.bind_names.specs.declared.names.NamedBuffer.{NamedBuffer}
use Rattle.bind_names.specs.declared.names.NamingKind.TheVariants as naming_kind
use Rattle.bind_names.specs.Judged.{Judged, unless, fine, made, made_of, breaking}
use Rattle.bind_names.specs.Names.{Scene, Meaning, TheField, buffer_number, meaning, buffer, number_of, or_else, from}
use Rattle.bind_expressions.specs.Expressions.{expression, condition}
use Rattle.bind_expressions.specs.Parts.{Done, does}

-- the first part of WHERE that gives a value for a component of an index: `field = e` outside of parentheses, where e does not name
-- the buffer
abbrev pub and_parts : Expression → List Expression
and_parts (s.And place x y) = and_parts x ++ and_parts y
and_parts e = e ∷ []

abbrev pub is_field : ℕ → ℕ → Meaning → Bool
is_field buffer field (TheField b f k mask) = (b == buffer) && (f == field)
is_field buffer field m = false

abbrev pub is_equal_sign : Binary → Bool
is_equal_sign two.Equal = true
is_equal_sign op = false

abbrev pub said_of : Scene → NamedBuffer → ℕ → Expression → Option Expr
said_of w x field (s.Two op place (s.Name name) e) =
    let value = expression w e in
    if is_equal_sign op && (is_field (buffer_number w x.name) field (meaning w name).is && not (list_any (λ n. same_name n.name x.name) value.names))
    then Some value.is.expr else None
said_of w x field e = None

abbrev pub first_said : Scene → NamedBuffer → ℕ → List Expression → Option Expr
first_said w x field [] = None
first_said w x field (e ∷ es) = or_else (said_of w x field e) (first_said w x field es)

-- the values of the leading components of the index
abbrev pub bracket_of : Scene → NamedBuffer → List FieldDef → List Expression → List KeyPart → List b.BracketValue
bracket_of w x fields said [] = []
bracket_of w x fields said (p ∷ ps) = elim (first_said w x p.field said) as (λ _. List b.BracketValue) [
  | None ↦ []
  | Some e ↦ record { kind = unwrap_or (slice_index_or fields p.field no_field).kind Character; value = e } ∷ bracket_of w x fields said ps
]

-- the options of a record phrase: WHERE as it is written and as it is bound, the index, the lock, NO-WAIT and NO-ERROR
pub record Asked : Type 0 where
  pub where_it : Option Expression
  pub test : Option Expr
  pub index : Option ℕ
  pub lock : LockWanted
  pub wait : Bool
  pub quiet : Bool

abbrev pub indexes_at : Scene → Option NamedBuffer → List IndexDef
indexes_at w None = []
indexes_at w (Some x) = indexes_of w.context.schema x.table

abbrev pub index_number : Scene → Option NamedBuffer → List ℕ → Option ℕ
index_number w x name = number_of_name 0 (map (λ i. i.name) (indexes_at w x)) name

-- Y6 at a WHERE that is no condition, Y10 at an index that the buffer's table does not have
abbrev pub record_option : Scene → Option NamedBuffer → s.RecordOption → Asked → Judged Asked
record_option w x (s.Where place e) so_far = made (λ t. record so_far { where_it = Some e; test = Some t.expr }) (condition w e)
record_option w x (s.UseIndex place index) so_far =
    breaking (fine (record so_far { index = index_number w x index.spelling }))
    (unless (not (is_some x) || is_some (index_number w x index.spelling)) Y10 index.at)
record_option w x (s.Lock place lock) so_far = fine (record so_far { lock = lock })
record_option w x (s.NoWait place) so_far = fine (record so_far { wait = false })
record_option w x (s.NoError place) so_far = fine (record so_far { quiet = true })

abbrev pub record_options : Scene → Option NamedBuffer → Asked → List s.RecordOption → Judged Asked
record_options w x so_far [] = fine so_far
record_options w x so_far (o ∷ os) =
    let first = record_option w x o so_far in
    let more = record_options w x first.is os in
    record { is = more.is; breaks = first.breaks ++ more.breaks; names = first.names ++ more.names }

abbrev pub nothing_asked : Scene → Option NamedBuffer → Asked
nothing_asked w x = record { where_it = None; test = None; index = from x (λ x. primary_of w.context.schema x.table); lock = lock.Share; wait = true; quiet = false }

abbrev pub bracket : Scene → Option NamedBuffer → Option ℕ → Option Expression → List b.BracketValue
bracket w (Some x) (Some i) (Some e) =
    bracket_of w x (fields_of w.context.schema x.table) (and_parts e) (slice_index_or (indexes_of w.context.schema x.table) i no_index).parts
bracket w x i e = []

abbrev pub reading : Scene → Option NamedBuffer → Asked → b.Reading
reading w x a = record { buffer = number_of w x; index = a.index; bracket = bracket w x a.index a.where_it; test = a.test; lock = a.lock }

-- a buffer and its options
abbrev pub looked_for : Scene → Judged (Option NamedBuffer) → List s.RecordOption → Judged (b.Reading × Asked)
looked_for w x os = made_of (λ x a. (reading w x a, a)) x (record_options w x.is (nothing_asked w x.is) os)

abbrev pub find_word_of : FindWhich → Option FindWord
find_word_of which.Only = Some find_word.Only
find_word_of which.First = Some find_word.First
find_word_of which.Last = Some find_word.Last
find_word_of which.Next = Some find_word.Next
find_word_of which.Previous = Some find_word.Previous
find_word_of which.Current = None

abbrev pub found : Option FindWord → b.Reading → Asked → Stmt
found (Some word) r a = b.Find word r a.wait a.quiet
found None r a = b.FindCurrent r a.wait a.quiet

-- FIND
abbrev pub find : Scene → FindWhich → Word → List s.RecordOption → Judged Done
find w word x os = made (λ r. does w (found (find_word_of word) r.0 r.1)) (looked_for w (buffer w naming_kind.Free true x) os)
