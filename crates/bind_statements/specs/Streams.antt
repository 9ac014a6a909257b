-- What INPUT FROM and OUTPUT TO are bound to, and what IMPORT and EXPORT are.
use Rattle.std.specs.Prelude.{ℕ, ◌+◌, Bool, true, ◌||◌, nat_lt, if◌then◌else◌, List, [], ◌∷◌, ◌++◌, length, Option, Some, None, unwrap_or}
use Rattle.std.specs.Option.{is_some, option_map}
use Rattle.abl_base.specs.declared.rule.Rule.TheVariants.{Y1, Y14}
use Rattle.abl_values.specs.declared.schema.FieldDef.{FieldDef}
use Rattle.abl_values.specs.Masks.{same_bytes}
use Rattle.abl_values.specs.Schema.{fields_of}
use Rattle.bound_tree.specs.declared.statement.Target.{Target}
use Rattle.bound_tree.specs.declared.statement.Target.TheVariants as target
use Rattle.bound_tree.specs.Tree as b
use Rattle.bound_tree.specs.Tree.{Stmt, Nothing, Then}
use Rattle.syntax_tree.specs.Syntax as s
use Rattle.syntax_tree.specs.declared.name.Named.{Named}
use Rattle.syntax_tree.specs.declared.name.Named.TheVariants as spelled
use Rattle.syntax_tree.specs.declared.name.Word.{Word}
use Rattle.syntax_tree.specs.Syntax.{Expression, named_at, starts_at}
use Rattle.bind_names.specs.declared.names.NamedBuffer.{NamedBuffer}
use Rattle.bind_names.specs.declared.names.Naming.{Naming}
use Rattle.bind_names.specs.declared.names.NamingKind.TheVariants as naming_kind
use Rattle.bind_names.specs.Judged.{Judged, unless, fine, broken, made, made_of, breaking, naming}
use Rattle.bind_names.specs.Names.{Scene, variable_named, stream_named, buffer_named, buffer_number, names_it, from}
use Rattle.bind_expressions.specs.Expressions.{expression}
use Rattle.bind_expressions.specs.Parts.{Done, does, listed, the_expr}
use Rattle.bind_statements.specs.Assignments.{the_target}

abbrev pub stream : Scene → Option Word → Judged ℕ
stream w None = fine 0
stream w (Some name) = elim (stream_named w.known name.spelling) as (λ _. Judged ℕ) [ None ↦ broken 0 Y1 name.at | Some x ↦ fine x.number ]

-- with the stream before it
abbrev pub on_stream : {A : Type 0} → Judged ℕ → (ℕ → Judged A) → Judged A
on_stream n f =
    let x = f n.is in
    record { is = x.is; breaks = n.breaks ++ x.breaks; names = n.names ++ x.names }

-- ---- files

-- the names of files, each once
abbrev pub is_file : List ℕ → List ℕ → Bool
is_file = same_bytes

abbrev pub file_number : ℕ → List (List ℕ) → List ℕ → Option ℕ
file_number i [] name = None
file_number i (x ∷ xs) name = if is_file x name then Some i else file_number (i + 1) xs name

abbrev pub with_file : List (List ℕ) → List ℕ → List (List ℕ)
with_file files name = if is_some (file_number 0 files name) then files else files ++ name ∷ []

-- Y14 at the 17th named input
abbrev pub input_from : Scene → ℕ → Word → Judged Done
input_from w number file =
    breaking (fine (record {
      body = Then (b.InputFrom number (unwrap_or (file_number 0 w.known.inputs file.spelling) (length w.known.inputs))) Nothing;
      after = record w.known { inputs = with_file w.known.inputs file.spelling };
    }))
    (unless (is_some (file_number 0 w.known.inputs file.spelling) || nat_lt (length w.known.inputs) 16) Y14 file.at)

abbrev pub output_to : Scene → ℕ → Word → Bool → Judged Done
output_to w number file append_it =
    fine (record {
      body = Then (b.OutputTo number (unwrap_or (file_number 0 w.known.outputs file.spelling) (length w.known.outputs)) append_it) Nothing;
      after = record w.known { outputs = with_file w.known.outputs file.spelling };
    })

-- INPUT FROM, and INPUT CLOSE where there is no file
abbrev pub input : Scene → Option Word → Option Word → Judged Done
input w name None = made (λ n. does w (b.InputClose n)) (stream w name)
input w name (Some file) = on_stream (stream w name) (λ n. input_from w n file)

-- OUTPUT TO, and OUTPUT CLOSE where there is no file
abbrev pub output : Scene → Option Word → Option Word → Bool → Judged Done
output w name None append_it = made (λ n. does w (b.OutputClose n)) (stream w name)
output w name (Some file) append_it = on_stream (stream w name) (λ n. output_to w n file append_it)

-- ---- IMPORT and EXPORT

-- the fields of a buffer as targets; a field of an unsupported kind is left as it is
abbrev pub field_targets : ℕ → ℕ → List FieldDef → List (Option Target)
field_targets buffer i [] = []
field_targets buffer i (d ∷ ds) = option_map (target.Field buffer i) d.kind ∷ field_targets buffer (i + 1) ds

-- the buffer that a name alone names, unless it is a variable
abbrev pub lone_buffer : Scene → Named → Option NamedBuffer
lone_buffer w (spelled.Plain word) = if is_some (variable_named w.known word.spelling) then None else buffer_named w word.spelling
lone_buffer w (spelled.Qualified x field place) = None

abbrev pub import_target : Scene → Option Named → Judged (Option Target)
import_target w None = fine None
import_target w (Some name) = the_target w name

abbrev pub import_alone : Scene → Named → Option NamedBuffer → Judged (List (Option Target))
import_alone w name (Some x) = naming (names_it w x naming_kind.Free true (named_at name)) (fine (field_targets (buffer_number w x.name) 0 (fields_of w.context.schema x.table)))
import_alone w name None = made (λ t. t ∷ []) (the_target w name)

abbrev pub import_targets : Scene → List (Option Named) → Judged (List (Option Target))
import_targets w (Some name ∷ []) = import_alone w name (lone_buffer w name)
import_targets w names = listed (import_target w) names

-- IMPORT
abbrev pub import : Scene → Option Word → List (Option Named) → Bool → Judged Done
import w name targets quiet = made_of (λ n ts. does w (b.Import n ts quiet)) (stream w name) (import_targets w targets)

abbrev pub named_alone : List Expression → Option Named
named_alone (s.Name name ∷ []) = Some name
named_alone es = None

abbrev pub export_record : Scene → ℕ → List Expression → Option NamedBuffer → Judged Stmt
export_record w number es (Some x) = made (λ place. b.ExportRecord number (buffer_number w x.name)) (fine number)
export_record w number es None = made (b.Export number) (listed (λ e. the_expr (expression w e)) es)

abbrev pub export_names : Scene → List Expression → Option NamedBuffer → List Naming
export_names w (e ∷ es) (Some x) = names_it w x naming_kind.Free true (starts_at e) ∷ []
export_names w es x = []

abbrev pub exported : Scene → ℕ → List Expression → Judged Stmt
exported w number es =
    let alone = from (named_alone es) (lone_buffer w) in
    let x = export_record w number es alone in
    record { is = x.is; breaks = x.breaks; names = export_names w es alone ++ x.names }

-- EXPORT
abbrev pub export : Scene → Option Word → List Expression → Judged Done
export w name es = on_stream (stream w name) (λ n. made (does w) (exported w n es))
