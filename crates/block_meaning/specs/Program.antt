-- What a client runs and does not change: the tables of its schema, its source, its inputs, and the forms of values in texts.
use Rattle.std.specs.Prelude.{ℕ, true, false, List, [], slice_index_or, None}
use Rattle.abl_values.specs.declared.schema.TableDef.{TableDef}
use Rattle.abl_values.specs.Schema.{no_table}
use Rattle.bound_tree.specs.declared.block.BlockKind.TheVariants as block
use Rattle.bound_tree.specs.declared.procedure.BufferDef.{BufferDef}
use Rattle.bound_tree.specs.Tree.{Source, Procedure, Header, Nothing, start_of_source}
use Rattle.abl_base.specs.text_forms.TextForms.{TextForms}
pub use Rattle.abl_values.specs.Schema.{no_field, no_index}

-- the program of a client
pub record Program : Type 0 where
  -- every table of the schema, by number
  pub tables : List TableDef
  pub source : Source
  -- the client's own input, and the named ones
  pub input : List ℕ
  pub inputs : List (List ℕ)
  pub forms : TextForms

-- a table of the schema
abbrev pub table_at : Program → ℕ → TableDef
table_at p t = slice_index_or p.tables t no_table

-- the defaults where a list has no such item
abbrev pub no_header : Header
no_header = record {
  number = 0;
  kind = block.Procedure;
  place = start_of_source;
  transaction = false;
  flags = record { starts = false; undo = true; retry_seen = false };
  scoped = [];
  to = None;
  while_test = None;
  fetch = None;
  on_error = None;
  on_endkey = None;
}

-- the default procedure
abbrev pub no_procedure : Procedure
no_procedure = record { name = []; undoable = []; no_undo = []; buffers = []; parameters = []; header = no_header; body = Nothing; references = [] }

-- a procedure by its number; the external one is 0
abbrev pub procedure_at : Program → ℕ → Procedure
procedure_at p n = slice_index_or p.source.procedures n no_procedure

-- ---- names, as the schema or the source spells them

-- of a table
abbrev pub table_name : Program → ℕ → List ℕ
table_name p t = (table_at p t).name

-- of a field
abbrev pub field_name : Program → ℕ → ℕ → List ℕ
field_name p t f = (slice_index_or (table_at p t).fields f no_field).name

-- of an index
abbrev pub index_name : Program → ℕ → ℕ → List ℕ
index_name p t i = (slice_index_or (table_at p t).indexes i no_index).name

-- the default where a procedure has no such buffer
abbrev pub no_buffer_def : BufferDef
no_buffer_def = record { name = []; table = 0 }

-- a buffer of a procedure
abbrev pub buffer_name : Program → ℕ → ℕ → List ℕ
buffer_name p n b = (slice_index_or (procedure_at p n).buffers b no_buffer_def).name
