-- What DEFINE is bound to.
use Rattle.std.specs.Prelude.{ℕ, ◌+◌, Bool, true, false, not, ◌&&◌, ◌||◌, ◌==◌, nat_lt, if◌then◌else◌, List, [], ◌∷◌, ◌++◌, length, map, Option, Some, None, unwrap_or, Result, Ok, Err, codes}
use Rattle.std.specs.Option.{is_some}
use Rattle.abl_base.specs.declared.place.Place.{Place}
use Rattle.abl_base.specs.declared.rule.Rule.TheVariants.{Y1, Y3, Y11, Y12, Y13, Y14}
use Rattle.abl_base.specs.declared.value.Kind.{Kind}
use Rattle.abl_base.specs.declared.value.Kind.TheVariants.{Character, Integer, Int64, Decimal, Logical, Date}
use Rattle.abl_base.specs.declared.value.Value.{Value}
use Rattle.abl_values.specs.declared.arithmetic.ArithFault.{ArithFault}
use Rattle.abl_values.specs.Fit.{fitted, default_initial}
use Rattle.abl_values.specs.Masks.{mask_is_for}
use Rattle.abl_values.specs.Schema.{number_of_name, table_named}
use Rattle.bound_tree.specs.declared.expression.Variable.{Variable}
use Rattle.bound_tree.specs.Tree.{Nothing}
use Rattle.syntax_tree.specs.Syntax as s
use Rattle.syntax_tree.specs.declared.name.Word.{Word}
use Rattle.syntax_tree.specs.declared.definition.VariableOption.{VariableOption}
use Rattle.syntax_tree.specs.declared.definition.VariableOption.TheVariants as opt
use Rattle.bind_names.specs.declared.names.NamedBuffer.{NamedBuffer}
use Rattle.bind_names.specs.declared.names.NamingKind.TheVariants as naming_kind
use Rattle.bind_names.specs.declared.violation.Violation.{Violation}
use Rattle.bind_names.specs.Judged.{Judged, is_before, unless, fine, broken, made, breaking, naming}
use Rattle.bind_names.specs.Sorts.{fits, sort_of_value}
use Rattle.bind_statements.specs.declared.definitions.Options.{Options}
use Rattle.bind_names.specs.declared.names.Defined.{Defined}
use Rattle.bind_names.specs.declared.names.Known.{Known}
use Rattle.bind_names.specs.Names.{Scene, names_it}
use Rattle.bind_expressions.specs.Parts.{Done}

-- the name is taken in the procedure by a variable, a buffer or a stream
abbrev pub is_taken : Defined → List ℕ → Bool
is_taken d name =
    is_some (number_of_name 0 (map (λ v. v.name) d.variables) name)
    || (is_some (number_of_name 0 (map (λ b. b.name) d.buffers) name) || is_some (number_of_name 0 (map (λ s. s.name) d.streams) name))

-- the first violation so far is before this place
abbrev pub is_past : Option Violation → Place → Bool
is_past None place = false
is_past (Some v) place = is_before v.place place

-- the options of a variable before any is read; the first of each kind counts
abbrev pub no_options : Options
no_options = record { undoable = true; initial = None; mask = None }

abbrev pub value_in : Result Value ArithFault → Option Value
value_in (Ok v) = Some v
value_in (Err fault) = None

-- the value as a variable of the kind begins with it, where it fits
abbrev pub initial_value : Kind → Value → Option Value
initial_value k v = if fits (sort_of_value v) k then value_in (fitted v k) else None

-- Y12 at a mask for another kind
abbrev pub with_mask : Kind → Word → Options → Judged Options
with_mask k mask so_far =
    if is_some so_far.mask then fine so_far
    else breaking (fine (record so_far { mask = Some mask.spelling })) (unless (mask_is_for mask.spelling k) Y12 mask.at)

-- Y13 at a literal that does not fit
abbrev pub with_initial : Kind → Value → Place → Options → Judged Options
with_initial k v literal_at so_far =
    if is_some so_far.initial then fine so_far
    else breaking (fine (record so_far { initial = Some (unwrap_or (initial_value k v) (default_initial k)) }))
    (unless (is_some (initial_value k v)) Y13 literal_at)

abbrev pub option : Kind → VariableOption → Options → Judged Options
option k (opt.NoUndo place) so_far = fine (record so_far { undoable = false })
option k (opt.Label place) so_far = fine so_far
option k (opt.Format place mask) so_far = with_mask k mask so_far
option k (opt.Initial place v literal_at) so_far = with_initial k v literal_at so_far

abbrev pub options : Kind → Options → List VariableOption → Judged Options
options k so_far [] = fine so_far
options k so_far (o ∷ os) =
    let x = option k o so_far in
    let more = options k x.is os in
    record { is = more.is; breaks = x.breaks ++ more.breaks; names = x.names ++ more.names }

-- the mask by which PUT shows values of the kind where no other is given
abbrev pub default_mask : Kind → List ℕ
default_mask Character = codes "x(8)"
default_mask Integer = codes "->,>>>,>>9"
default_mask Int64 = codes "->,>>>,>>9"
default_mask Decimal = codes "->>,>>9.99"
default_mask Logical = codes "yes/no"
default_mask Date = codes "99/99/99"

-- one more variable
abbrev pub with_variable : Kind → Word → Options → Bool → Defined → Defined
with_variable k name o is_parameter d =
    let x : Variable = record { external = false; undoable = o.undoable; number = length (if o.undoable then d.undoable else d.no_undo); kind = k } in
    let v = unwrap_or o.initial (default_initial k) in
    record d {
      variables = d.variables ++ record { name = name.spelling; variable = x; mask = unwrap_or o.mask (default_mask k) } ∷ [];
      undoable = if o.undoable then d.undoable ++ v ∷ [] else d.undoable;
      no_undo = if o.undoable then d.no_undo else d.no_undo ++ v ∷ [];
      parameters = if is_parameter then d.parameters ++ x ∷ [] else d.parameters;
    }

-- Y3 at a name that is taken, Y14 at the 1,025th variable of the source
abbrev pub variable : Scene → Kind → Word → List VariableOption → Bool → Judged Done
variable w k name os is_parameter =
    let o = options k no_options os in
    breaking (made (λ o. record { body = Nothing; after = record w.known { own = with_variable k name o is_parameter w.known.own; variables = w.known.variables + 1 } }) o)
    (unless (not (is_taken w.known.own name.spelling)) Y3 name.at ++ unless (nat_lt w.known.variables 1024) Y14 name.at)

-- a parameter is defined in an internal procedure, outside of its blocks
abbrev pub may_have_parameters : Scene → Bool
may_have_parameters w = not (w.procedure == 0) && (length w.around == 1)

-- the known with one more buffer of the procedure, and with one more stream
abbrev pub with_buffer : NamedBuffer → Known → Known
with_buffer x k = record k { own = record k.own { buffers = k.own.buffers ++ x ∷ [] } }

abbrev pub with_stream : Word → Known → Known
with_stream name k = record k { own = record k.own { streams = k.own.streams ++ record { name = name.spelling; number = k.streams + 1 } ∷ [] }; streams = k.streams + 1 }

-- Y1 at an unknown table
abbrev pub buffer_for : Scene → Word → Word → Option ℕ → Judged Done
buffer_for w name table None = broken (record { body = Nothing; after = w.known }) Y1 table.at
buffer_for w name table (Some t) =
    let x : NamedBuffer = record { name = name.spelling; table = t } in
    naming (names_it w x naming_kind.Definition true name.at) (fine (record { body = Nothing; after = with_buffer x w.known }))

abbrev pub define : Scene → s.Definition → Judged Done
define w (s.Variable name k os) = variable w k name os false
define w (s.Parameter direction place name k os) = breaking (variable w k name os true) (unless (may_have_parameters w) Y11 place)
define w (s.Buffer name table) =
    breaking (buffer_for w name table (table_named w.context.schema table.spelling))
    (unless (not (is_some (table_named w.context.schema name.spelling) || is_taken w.known.own name.spelling)) Y3 name.at)
define w (s.Stream name) =
    breaking (fine (record { body = Nothing; after = with_stream name w.known }))
    (unless (not (is_taken w.known.own name.spelling)) Y3 name.at ++ unless (nat_lt w.known.streams 16) Y14 name.at)
