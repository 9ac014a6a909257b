-- Tables and sequences that are read, and those that are to come.
use Rattle.std.specs.Prelude.{◌≡◌, ℕ, Bool, not, List, ◌++◌, length, count_by}
use Rattle.abl_values.specs.declared.schema.TableDef.{TableDef}
use Rattle.abl_values.specs.declared.schema.SequenceDef.{SequenceDef}
use Rattle.abl_values.specs.Schema.{SchemaData, lines_in_order}
use Rattle.schema_text.specs.declared.entries.Entries.{Entries}

abbrev pub data_of : Entries → SchemaData
data_of e = record { tables = e.tables; sequences = e.sequences; order = e.order }

-- the schema begins with these tables and sequences, and this is the text of the others
pub record IsBegun (s : SchemaData) (e : Entries) (text : List ℕ) : Type 0 where
  pub tables : List TableDef
  pub sequences : List SequenceDef
  pub order : List Bool
  pub all_tables : s.tables ≡ e.tables ++ tables
  pub all_sequences : s.sequences ≡ e.sequences ++ sequences
  pub all_order : s.order ≡ e.order ++ order
  pub table_places : count_by (λ b. b) order ≡ length tables
  pub sequence_places : count_by not order ≡ length sequences
  pub others : text ≡ lines_in_order order tables sequences
