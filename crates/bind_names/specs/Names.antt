-- What names mean at a place of a source.
use Rattle.std.specs.Prelude.{ℕ, Bool, true, false, ◌&&◌, ◌==◌, if◌then◌else◌, List, [], ◌∷◌, ◌++◌, map, slice_index_or, Option, Some, None, unwrap_or, slice_get}
use Rattle.std.specs.Option.{is_some, option_map}
use Rattle.std.specs.List.{filter, list_any}
use Rattle.abl_base.specs.declared.place.Place.{Place}
use Rattle.abl_base.specs.declared.rule.Rule.TheVariants.{Y1, Y2, Y8, Y9}
use Rattle.abl_base.specs.declared.value.Kind.{Kind}
use Rattle.abl_values.specs.Schema.{SchemaData, same_name, number_of_name, table_named, field_named, fields_of, name_of, no_field}
use Rattle.bound_tree.specs.declared.expression.Variable.{Variable}
use Rattle.syntax_tree.specs.declared.name.Named.{Named}
use Rattle.syntax_tree.specs.declared.name.Named.TheVariants.{Plain, Qualified}
use Rattle.syntax_tree.specs.declared.name.Word.{Word}
use Rattle.bind_names.specs.declared.names.NamedVariable.{NamedVariable}
use Rattle.bind_names.specs.declared.names.NamedBuffer.{NamedBuffer}
use Rattle.bind_names.specs.declared.names.NamedStream.{NamedStream}
use Rattle.bind_names.specs.declared.names.NamingKind.{NamingKind}
use Rattle.bind_names.specs.declared.names.NamingKind.TheVariants.{Free}
use Rattle.bind_names.specs.declared.names.Naming.{Naming}
use Rattle.bind_names.specs.declared.names.Defined.{Defined}
use Rattle.bind_names.specs.declared.names.Known.{Known}
use Rattle.bind_names.specs.declared.names.Signature.{Signature}
use Rattle.bind_names.specs.declared.names.Around.{Around}
use Rattle.bind_names.specs.Judged.{Judged, fine, broken, naming}

-- the context that is the same throughout a source: the schema, the namings of buffers in it, and its internal procedures
pub record Context : Type 0 where
  pub schema : SchemaData
  pub namings : List Naming
  pub procedures : List Signature

-- a place: the number of its procedure, all buffers of this procedure in the order of their first namings, those that it names explicitly,
-- the blocks around the place, the innermost first, and the number of that one
pub record Scene : Type 0 where
  pub context : Context
  pub known : Known
  pub procedure : ℕ
  pub buffers : List NamedBuffer
  pub named : List NamedBuffer
  pub around : List Around
  pub block : ℕ

-- ---- variables and streams: the procedure's own, else those of the external one

abbrev pub or_else : {A : Type 0} → Option A → Option A → Option A
or_else None other = other
or_else (Some a) other = Some a

abbrev pub from : {A B : Type 0} → Option A → (A → Option B) → Option B
from None f = None
from (Some a) f = f a

abbrev pub variable_in : Defined → List ℕ → Option NamedVariable
variable_in d name = from (number_of_name 0 (map (λ v. v.name) d.variables) name) (slice_get d.variables)

abbrev pub stream_in : Defined → List ℕ → Option NamedStream
stream_in d name = from (number_of_name 0 (map (λ v. v.name) d.streams) name) (slice_get d.streams)

abbrev pub defined_buffer : Defined → List ℕ → Option NamedBuffer
defined_buffer d name = from (number_of_name 0 (map (λ v. v.name) d.buffers) name) (slice_get d.buffers)

-- as an internal procedure sees it
abbrev pub from_outside : NamedVariable → NamedVariable
from_outside v = record v { variable = record v.variable { external = true } }

abbrev pub variable_named : Known → List ℕ → Option NamedVariable
variable_named k name = or_else (variable_in k.own name) (from k.outer (λ d. option_map from_outside (variable_in d name)))

abbrev pub stream_named : Known → List ℕ → Option NamedStream
stream_named k name = or_else (stream_in k.own name) (from k.outer (λ d. stream_in d name))

-- ---- buffers: those that the procedure has defined, and each table's own

-- the table's own buffer
abbrev pub buffer_of_table : SchemaData → ℕ → NamedBuffer
buffer_of_table s t = record { name = name_of s t; table = t }

abbrev pub buffer_named : Scene → List ℕ → Option NamedBuffer
buffer_named w name =
    or_else (defined_buffer w.known.own name) (option_map (buffer_of_table w.context.schema) (table_named w.context.schema name))

abbrev pub has_name : List ℕ → NamedBuffer → Bool
has_name name b = same_name b.name name

-- each buffer that is named, once, in the order of the first namings
abbrev pub distinct : List NamedBuffer → List Naming → List NamedBuffer
distinct so_far [] = so_far
distinct so_far (n ∷ ns) = distinct (if list_any (has_name n.name) so_far then so_far else so_far ++ record { name = n.name; table = n.table } ∷ []) ns

-- the buffers of a procedure
abbrev pub buffers_in : ℕ → List Naming → List NamedBuffer
buffers_in p namings = distinct [] (filter (λ n. n.procedure == p) namings)

-- those that it names explicitly
abbrev pub named_in : ℕ → List Naming → List NamedBuffer
named_in p namings = distinct [] (filter (λ n. n.explicit && (n.procedure == p)) namings)

-- the number of a buffer: its place in that order
abbrev pub buffer_number : Scene → List ℕ → ℕ
buffer_number w name = unwrap_or (number_of_name 0 (map (λ b. b.name) w.buffers) name) 0

-- a naming of the buffer at this place
abbrev pub names_it : Scene → NamedBuffer → NamingKind → Bool → Place → Naming
names_it w b kind explicit place = record {
  procedure = w.procedure;
  name = b.name;
  table = b.table;
  kind = kind;
  explicit = explicit;
  block = w.block;
  place = place;
}

-- ---- names in expressions and targets

pub data Meaning : Type 0 where
  TheVariable : (variable : Variable) (mask : List ℕ) → Meaning
  TheField : (buffer field : ℕ) (kind : Kind) (mask : List ℕ) → Meaning
  TheBuffer : (buffer : NamedBuffer) → Meaning
  -- it breaks a rule
  Nothing : Meaning

-- a field by its definition: Y9 where its kind is not supported
abbrev pub field_as : ℕ → ℕ → List ℕ → Option Kind → Place → Judged Meaning
field_as buffer field mask (Some kind) place = fine (TheField buffer field kind mask)
field_as buffer field mask None place = broken Nothing Y9 place

-- the field with this number
abbrev pub the_field : Scene → NamedBuffer → ℕ → Bool → Place → Judged Meaning
the_field w b field explicit place =
    let def = slice_index_or (fields_of w.context.schema b.table) field no_field in
    naming (names_it w b Free explicit place) (field_as (buffer_number w b.name) field def.mask def.kind place)

-- the field with this name of the buffer, where it has one
abbrev pub field_of : Scene → NamedBuffer → List ℕ → Bool → Place → Judged Meaning
field_of w b name explicit place = elim (field_named w.context.schema b.table name) as (λ _. Judged Meaning) [
  | None ↦ broken Nothing Y1 place
  | Some field ↦ the_field w b field explicit place
]

-- the buffer is known here, and its table has such a field
abbrev pub has_field : Scene → List ℕ → NamedBuffer → Bool
has_field w name b = is_some (buffer_named w b.name) && is_some (field_named w.context.schema b.table name)

-- the buffers named in this procedure, later text included, that have the field
abbrev pub with_field : Scene → List ℕ → List NamedBuffer
with_field w name = filter (has_field w name) w.named

-- a field of the one buffer that has it: Y2 where two have it. A stream is no value (Y8); any other name is unknown (Y1)
abbrev pub field_among : Scene → Word → List NamedBuffer → Judged Meaning
field_among w word [] = broken Nothing (if is_some (stream_named w.known word.spelling) then Y8 else Y1) word.at
field_among w word (b ∷ []) = field_of w b word.spelling false word.at
field_among w word (b ∷ c ∷ bs) = broken Nothing Y2 word.at

abbrev pub buffer_or_field : Scene → Word → Option NamedBuffer → Judged Meaning
buffer_or_field w word (Some b) = fine (TheBuffer b)
buffer_or_field w word None = field_among w word (with_field w word.spelling)

-- a variable, else a buffer, else a field
abbrev pub plain : Scene → Word → Option NamedVariable → Judged Meaning
plain w word (Some v) = fine (TheVariable v.variable v.mask)
plain w word None = buffer_or_field w word (buffer_named w word.spelling)

abbrev pub qualified : Scene → Option NamedBuffer → List ℕ → Place → Judged Meaning
qualified w None field place = broken Nothing Y1 place
qualified w (Some b) field place = field_of w b field true place

-- WHAT A NAME MEANS
abbrev pub meaning : Scene → Named → Judged Meaning
meaning w (Plain word) = plain w word (variable_named w.known word.spelling)
meaning w (Qualified buffer field place) = qualified w (buffer_named w buffer) field place

-- a buffer that is required here, with its naming: Y1 where there is none
abbrev pub wanted_buffer : Scene → NamingKind → Bool → Word → Option NamedBuffer → Judged (Option NamedBuffer)
wanted_buffer w kind explicit word None = broken None Y1 word.at
wanted_buffer w kind explicit word (Some b) = naming (names_it w b kind explicit word.at) (fine (Some b))

abbrev pub buffer : Scene → NamingKind → Bool → Word → Judged (Option NamedBuffer)
buffer w kind explicit word = wanted_buffer w kind explicit word (buffer_named w word.spelling)

-- its number
abbrev pub number_of : Scene → Option NamedBuffer → ℕ
number_of w None = 0
number_of w (Some b) = buffer_number w b.name
