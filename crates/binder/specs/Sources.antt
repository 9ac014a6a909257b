-- What a whole source is bound to, or the first of the rules Y that it breaks.
use Rattle.std.specs.Prelude.{ℕ, ◌+◌, Bool, true, false, not, ◌&&◌, ◌==◌, if◌then◌else◌, List, [], ◌∷◌, ◌++◌, length, map, drop, Option, Some, None, unwrap_or, Result, Ok, Err}
use Rattle.std.specs.List.{list_any}
use Rattle.abl_base.specs.declared.place.Place.{Place}
use Rattle.abl_base.specs.declared.rule.Rule.TheVariants.{Y3, Y14}
use Rattle.abl_values.specs.Schema.{SchemaData, number_of_name, same_name}
use Rattle.bound_tree.specs.declared.block.BlockKind.TheVariants as block_kind
use Rattle.bound_tree.specs.declared.procedure.BufferDef.{BufferDef}
use Rattle.bound_tree.specs.declared.procedure.Reference.{Reference}
use Rattle.bound_tree.specs.declared.procedure.ReferenceKind.{ReferenceKind}
use Rattle.bound_tree.specs.declared.procedure.ReferenceKind.TheVariants as reference_kind
use Rattle.bound_tree.specs.Tree as b
use Rattle.bound_tree.specs.Tree.{Body, Nothing, Source, start_of_source}
use Rattle.syntax_tree.specs.Syntax as s
use Rattle.syntax_tree.specs.declared.name.Word.{Word}
use Rattle.syntax_tree.specs.Syntax.{Statement, Statements, Item, Program}
use Rattle.bind_names.specs.declared.names.NamedBuffer.{NamedBuffer}
use Rattle.bind_names.specs.declared.names.Naming.{Naming}
use Rattle.bind_names.specs.declared.names.NamingKind.{NamingKind}
use Rattle.bind_names.specs.declared.names.NamingKind.TheVariants as naming_kind
use Rattle.bind_names.specs.declared.violation.Violation.{Violation}
use Rattle.bind_names.specs.Judged.{Judged, unless, fine, first}
use Rattle.bind_names.specs.declared.names.Defined.{Defined}
use Rattle.bind_names.specs.declared.names.Known.{Known}
use Rattle.bind_names.specs.declared.names.Formal.{Formal}
use Rattle.bind_names.specs.declared.names.Signature.{Signature}
use Rattle.bind_names.specs.declared.names.Around.{Around}
use Rattle.bind_names.specs.Names.{Context, Scene, buffers_in, named_in}
use Rattle.bind_expressions.specs.Parts.{append, scene_after}
use Rattle.bind_blocks.specs.Headers.{header}
use Rattle.binder.specs.Statements.{statement, statements}

-- ---- the internal procedures, with their parameters in the order of the text

abbrev mutual
  pub formals_of : Statement → List Formal
  formals_of (s.Block h body) = formals_in body
  formals_of (s.Choose test then_it else_it) = formals_of then_it ++ formals_in else_it
  formals_of (s.Define (s.Parameter direction place name kind os)) = record { direction = direction; kind = kind } ∷ []
  formals_of t = []

  pub formals_in : Statements → List Formal
  formals_in s.Nothing = []
  formals_in (s.Then t ts) = formals_of t ++ formals_in ts

abbrev pub signatures : Program → List Signature
signatures [] = []
signatures (s.Alone t ∷ items) = signatures items
signatures (s.Procedure place name body ∷ items) = record { name = name.spelling; formals = formals_in body } ∷ signatures items

-- ---- procedures

abbrev pub nothing_defined : Defined
nothing_defined = record { variables = []; undoable = []; no_undo = []; parameters = []; buffers = []; streams = [] }

-- a procedure's block around its statements
abbrev pub procedure_block : ℕ → Around
procedure_block number = record { number = number; label = None; iterates = false; undoes = true }

-- at the begin of a source: the external procedure's block has number 0
abbrev pub beginning : Context → Scene
beginning context = record {
  context = context;
  known = record { own = nothing_defined; outer = None; variables = 0; streams = 0; blocks = 1; inputs = []; outputs = [] };
  procedure = 0;
  buffers = buffers_in 0 context.namings;
  named = named_in 0 context.namings;
  around = procedure_block 0 ∷ [];
  block = 0;
}

-- at the begin of the internal procedure of this number, which sees the external one's variables and streams
abbrev pub inside_procedure : ℕ → Scene → Scene
inside_procedure number w = record {
  context = w.context;
  known = record w.known { own = nothing_defined; outer = Some w.known.own; blocks = w.known.blocks + 1 };
  procedure = number;
  buffers = buffers_in number w.context.namings;
  named = named_in number w.context.namings;
  around = procedure_block w.known.blocks ∷ [];
  block = w.known.blocks;
}

-- after it, what the external one has defined is known again
abbrev pub outside_again : Defined → Known → Known
outside_again own k = record k { own = own; outer = None }

abbrev pub buffer_def : NamedBuffer → BufferDef
buffer_def x = record { name = x.name; table = x.table }

-- the kind of reference that a naming is, unless it is a definition
abbrev pub kind_of_reference : NamingKind → Option ReferenceKind
kind_of_reference naming_kind.Definition = None
kind_of_reference naming_kind.Strong = Some reference_kind.Strong
kind_of_reference naming_kind.Weak = Some reference_kind.Weak
kind_of_reference naming_kind.Free = Some reference_kind.Free

abbrev pub reference : List NamedBuffer → Naming → Option ReferenceKind → List Reference
reference buffers n None = []
reference buffers n (Some kind) =
    record { buffer = unwrap_or (number_of_name 0 (map (λ x. x.name) buffers) n.name) 0; kind = kind; block = n.block; place = n.place } ∷ []

-- the references to buffers in a procedure, in text order
abbrev pub references_in : ℕ → List NamedBuffer → List Naming → List Reference
references_in p buffers [] = []
references_in p buffers (n ∷ ns) = (if n.procedure == p then reference buffers n (kind_of_reference n.kind) else []) ++ references_in p buffers ns

-- the procedure of this name, whose first word is at this place
abbrev pub procedure_with : Scene → Place → List ℕ → Defined → Body → b.Procedure
procedure_with w place name d body = record {
  name = name;
  undoable = d.undoable;
  no_undo = d.no_undo;
  buffers = map buffer_def w.buffers;
  parameters = d.parameters;
  header = header w place false block_kind.Procedure None None (record { while_test = None; on_error = None; on_endkey = None });
  body = body;
  references = references_in w.procedure w.buffers w.context.namings;
}

-- ---- the whole source

-- the external procedure's statements, the internal procedures, and what is known at the end
pub record Parts : Type 0 where
  pub body : Body
  pub procedures : List b.Procedure
  pub after : Known

abbrev pub has_word : List ℕ → Word → Bool
has_word name w = same_name w.spelling name

-- the items of a source after the internal procedures of these names. Y3 at a procedure's name that one of them has
abbrev pub items : Scene → List Word → Program → Judged Parts
items w names [] = fine (record { body = Nothing; procedures = []; after = w.known })
items w names (s.Alone t ∷ rest) =
    let x = statement w t in
    let more = items (scene_after w x.is.after) names rest in
    record {
      is = record { body = append x.is.body more.is.body; procedures = more.is.procedures; after = more.is.after };
      breaks = x.breaks ++ more.breaks;
      names = x.names ++ more.names;
    }
items w names (s.Procedure place name body ∷ rest) =
    let v = inside_procedure (length names + 1) w in
    let x = statements v body in
    let more = items (scene_after w (outside_again w.known.own x.is.after)) (name ∷ names) rest in
    record {
      is = record { body = more.is.body; procedures = procedure_with v place name.spelling x.is.after.own x.is.body ∷ more.is.procedures; after = more.is.after };
      breaks = unless (not (list_any (has_word name.spelling) names)) Y3 name.at ++ (x.breaks ++ more.breaks);
      names = x.names ++ more.names;
    }

-- the source with its external procedure first, which has no name and begins at the first byte
abbrev pub source_with : Scene → Parts → Source
source_with w p = record {
  procedures = procedure_with w start_of_source [] p.after.own p.body ∷ p.procedures;
  streams = p.after.streams;
  outputs = p.after.outputs;
  inputs = p.after.inputs;
}

-- the source as it is judged where these are the namings of buffers in it
abbrev pub judged : SchemaData → Program → List Naming → Judged Source
judged schema program said =
    let w = beginning (record { schema = schema; namings = said; procedures = signatures program }) in
    let x = items w [] program in
    record { is = source_with w x.is; breaks = x.breaks; names = x.names }

-- THE NAMINGS OF BUFFERS: the explicit ones are found without any, and a field alone is found among the buffers that they name
abbrev pub explicit_namings : SchemaData → Program → List Naming
explicit_namings schema program = (judged schema program []).names

abbrev pub namings : SchemaData → Program → List Naming
namings schema program = (judged schema program (explicit_namings schema program)).names

-- the first namings, each of another buffer of its procedure
abbrev pub is_same_buffer : Naming → Naming → Bool
is_same_buffer n m = (n.procedure == m.procedure) && same_name n.name m.name

abbrev pub first_namings : List Naming → List Naming → List Naming
first_namings before [] = []
first_namings before (n ∷ ns) = if list_any (is_same_buffer n) before then first_namings before ns else n ∷ first_namings (n ∷ before) ns

-- Y14 at the 65th buffer of the source and at each later one
abbrev pub too_many_buffers : List Naming → List Violation
too_many_buffers ns = map (λ n. record { rule = Y14; place = n.place }) (drop 64 (first_namings [] ns))

-- every rule Y that the source breaks, with its place
abbrev pub violations : SchemaData → Program → List Violation
violations schema program =
    let x = judged schema program (namings schema program) in
    x.breaks ++ too_many_buffers x.names

abbrev pub or_first : Option Violation → Source → Result Source Violation
or_first None tree = Ok tree
or_first (Some v) tree = Err v

-- THE BOUND TREE, OR THE FIRST VIOLATION
abbrev pub bound : SchemaData → Program → Result Source Violation
bound schema program = or_first (first (violations schema program)) (judged schema program (namings schema program)).is
