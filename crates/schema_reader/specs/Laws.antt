-- What two schemas have in common exactly where they have one canonical text: all that a reader returns, except the
-- case of names and the masks, which the canonical text leaves out, and the order of tables and sequences.
use Rattle.std.specs.Prelude.{◌≡◌, ◌<◌, ℕ, List, [], length, map, None}
use Rattle.abl_values.specs.declared.schema.FieldDef.{FieldDef}
use Rattle.abl_values.specs.declared.schema.IndexDef.{IndexDef}
use Rattle.abl_values.specs.declared.schema.SequenceDef.{SequenceDef}
use Rattle.abl_values.specs.Order.{folded}
use Rattle.abl_values.specs.Schema.{SchemaData, field_named, fields_of, indexes_of, name_of, primary_of, table_named}
use Rattle.abl_values.specs.Sound.{IsSound}
use Rattle.schema_lines.specs.Files.{items_of}
use Rattle.schema_reader.specs.Meaning.{schema_of}
use Rattle.schema_reader.specs.Rules.{violation_of}

-- a field with its name in small letters and without its mask
abbrev pub observable_field : FieldDef → FieldDef
observable_field f = record f { name = folded f.name; mask = [] }

abbrev pub observable_index : IndexDef → IndexDef
observable_index i = record i { name = folded i.name }

abbrev pub observable_sequence : SequenceDef → SequenceDef
observable_sequence s = record s { name = folded s.name }

-- every reader returns the same for both, up to the case of names, and tables and sequences are in one order. Masks are left out, since the canonical text has none
pub record AnswerAlike (a b : SchemaData) : Type 0 where
  pub tables : length a.tables ≡ length b.tables
  pub table : (name : List ℕ) → table_named a name ≡ table_named b name
  pub field : (t : ℕ) (name : List ℕ) → t < length a.tables → field_named a t name ≡ field_named b t name
  pub table_name : (t : ℕ) → t < length a.tables → folded (name_of a t) ≡ folded (name_of b t)
  pub fields : (t : ℕ) → t < length a.tables → map observable_field (fields_of a t) ≡ map observable_field (fields_of b t)
  pub indexes : (t : ℕ) → t < length a.tables → map observable_index (indexes_of a t) ≡ map observable_index (indexes_of b t)
  pub primary : (t : ℕ) → t < length a.tables → primary_of a t ≡ primary_of b t
  pub sequences : map observable_sequence a.sequences ≡ map observable_sequence b.sequences
  pub order : a.order ≡ b.order

-- a file without violation means a sound schema
abbrev pub SchemasOfFilesAreSound : Type 0
SchemasOfFilesAreSound = (text : List ℕ) → violation_of text ≡ None → IsSound (schema_of (items_of text))
