-- What the answers of the calls mean.
use Rattle.std.specs.Prelude.{◌≡◌, ◌≢◌, ℕ, Bool, true, false, List, None, IsTrue}
use Rattle.abl_values.specs.Schema.{SchemaData, canonical_text, primary_of}
use Rattle.abl_values.specs.Sound.{IsSound}
use Rattle.schema_text.specs.Written.{IsHeld}
use Rattle.log_meaning.specs.steps.Steps.{Image}
use Rattle.log_meaning.specs.Images.{Recovers}
use Rattle.database_layout.specs.stored_text.Held.{HoldText}
use Rattle.indexed_store.specs.Opened.{HoldStore}
use Rattle.database_layout.specs.contents.Contents.{AreContents}
use Rattle.host_io.specs.Out.{OutState, Writes}
use Rattle.host_io.specs.declared.out.Stream.TheVariants.{Output as Standard}
use Rattle.row_store.specs.declared.store.FoundRow.{FoundRow}
use Rattle.slot_rows.specs.Decoded.{decoded}
use Rattle.disk_database.specs.table.Order.{AreAll, AreFirst, export_lines}
use Rattle.disk_database.specs.declared.table.writing.TableError.{TableError}
use Rattle.disk_database.specs.declared.table.writing.TableError.TheVariants as error
use Rattle.disk_database.specs.Parts.{LeaveUnused}
use Rattle.disk_database.specs.declared.refusals.OpenRefusal.{OpenRefusal}
use Rattle.disk_database.specs.declared.refusals.OpenRefusal.TheVariants.{NotCreated, SchemaDiffers, Disk, NoMemory}
use Rattle.disk_database.specs.declared.refusals.DumpRefusal.{DumpRefusal}
use Rattle.disk_database.specs.declared.refusals.DumpRefusal.TheVariants.{Database, Output}

-- where the disk recovers to slots, they hold the text of this schema
abbrev pub HasText : Image → SchemaData → Type 0
HasText seen schema = (slots : ℕ → List ℕ) → Recovers seen slots → HoldText slots (canonical_text schema)

-- the slots hold a database of this schema: its text, values for its sequences and sound rows in chains, and zeros where nothing belongs
pub record AreDatabase (schema : SchemaData) (slots : ℕ → List ℕ) : Type 0 where
  pub text : HoldText slots (canonical_text schema)
  pub unused : LeaveUnused schema slots
  pub store : HoldStore schema slots

-- the image is born of this schema, with the contents that its slots hold (`IsBorn` of database_layout::contents)
abbrev pub IsBornOf : Image → SchemaData → Type 0
IsBornOf seen schema = (slots : ℕ → List ℕ) × Recovers seen slots × AreContents schema slots

-- the image is that of a database of this schema, which is sound and one that a `Schema` can hold: what it recovers to holds one
pub record IsDatabaseOf (seen : Image) (schema : SchemaData) : Type 0 where
  pub sound : IsSound schema
  pub held : IsHeld schema
  pub slots : ℕ → List ℕ
  pub recovered : Recovers seen slots
  pub are : AreDatabase schema slots

-- it is that of no database, whatever the schema
abbrev pub IsNoDatabase : Image → Type 0
IsNoDatabase seen = (schema : SchemaData) → ¬ IsDatabaseOf seen schema

-- Why the disk was not opened with this schema. NotCreated: its image is that of no database, of no schema at all. SchemaDiffers: its image is that
-- of a database, of a schema with another text, which is stored
abbrev pub IsRefused : SchemaData → Bool → Image → OpenRefusal → Type 0
IsRefused schema observable seen NotCreated = IsTrue observable → IsNoDatabase seen
IsRefused schema observable seen (SchemaDiffers stored given) =
    (given ≡ canonical_text schema) × (stored ≢ given) × (IsTrue observable → (other : SchemaData) × (canonical_text other ≡ stored) × IsDatabaseOf seen other)
IsRefused schema observable seen refusal = Unit {0}

-- whether the refusal is a judgement on what the disk holds: no database, or one of another schema
abbrev pub is_judgement : OpenRefusal → Bool
is_judgement NotCreated = true
is_judgement (SchemaDiffers stored given) = true
is_judgement refusal = false

-- whether a dump was refused because the output did not take a whole line
abbrev pub is_output : DumpRefusal → Bool
is_output Output = true
is_output refusal = false

-- whether it was refused because the disk failed
abbrev pub is_disk : DumpRefusal → Bool
is_disk (Database Disk) = true
is_disk refusal = false

-- whether it was refused by such a judgement
abbrev pub is_judged : DumpRefusal → Bool
is_judged (Database refusal) = is_judgement refusal
is_judged Output = false

-- why a table was not written
abbrev pub IsNotDumped : SchemaData → Bool → Image → DumpRefusal → Type 0
IsNotDumped schema observable seen (Database refusal) = IsRefused schema observable seen refusal
IsNotDumped schema observable seen Output = Unit {0}

-- why the database was not dumped, where the table was written in part: the answer of the table, or out of memory in place of a fault of the disk
abbrev pub of_table : TableError → DumpRefusal
of_table error.Disk = Database Disk
of_table error.NoMemory = Database NoMemory
of_table error.Output = Output

-- The lines of the first rows of the table were written to standard output, of all rows where the whole is; the last one in part where the
-- output failed. The rows are those of the slots to which the disk recovers
pub record IsDumped (schema : SchemaData) (observable : Bool) (seen : Image) (table : ℕ) (whole output : Bool) (old new : OutState) : Type 0 where
  pub list : List FoundRow
  pub lines : Writes output Standard (export_lines list) old new
  pub first : IsTrue observable → (slots : ℕ → List ℕ) → Recovers seen slots → AreFirst schema (decoded schema slots) table (primary_of schema table) None list
  pub all : whole ≡ true → IsTrue observable → (slots : ℕ → List ℕ) → Recovers seen slots → AreAll schema (decoded schema slots) table (primary_of schema table) None list
