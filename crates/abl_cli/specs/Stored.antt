-- The commands `create` and `dump`: what they read, what they do to the disk, and what they write.
use Rattle.std.specs.Prelude.{◌≡◌, ◌≢◌, ◌⊎◌, ◌≤◌, length, Bool, true, false, not, IsTrue, List, ℕ, [], Option, Some, None}
use Rattle.storage.specs.faults.Faults.{Rose}
use Rattle.schema_reader.specs.Rules.{violation_of}
use Rattle.abl_values.specs.Schema.{SchemaData, canonical_text, table_named}
use Rattle.host_io.specs.Files.{FileState}
use Rattle.host_io.specs.Out.{OutState}
use Rattle.log_meaning.specs.steps.Steps.{Image, Run}
use Rattle.database_layout.specs.contents.Contents.{new_contents}
use Rattle.database_layout.specs.contents.Born.{IsBorn}
use Rattle.database_layout.specs.creation.Created.{CreatesNew}
use Rattle.disk_database.specs.declared.refusals.CreateRefusal.{CreateRefusal}
use Rattle.disk_database.specs.declared.refusals.CreateRefusal.TheVariants as create
use Rattle.disk_database.specs.declared.refusals.DumpRefusal.{DumpRefusal}
use Rattle.disk_database.specs.declared.refusals.DumpRefusal.TheVariants as dump
use Rattle.disk_database.specs.Answers.{HasText as HasStoredText, IsDatabaseOf, IsDumped, IsNoDatabase, IsNotDumped, is_disk, is_judged, is_output}
use Rattle.command_arguments.specs.CommandLine.{Dump}
use Rattle.run_report.specs.declared.ending.Report.{Report}
use Rattle.run_report.specs.declared.refusal.Refusal.{Refusal}
use Rattle.run_report.specs.declared.refusal.Refusal.TheVariants.{AlreadyCreated, Client, Disk, NoMemory, NoTable, NotCreated, Output, SchemaDiffers}
use Rattle.run_report.specs.Ending.{IsRefused, WritesStatus, status_after}
use Rattle.source_files.specs.Files.{HasText, IsNotRead}
use Rattle.source_files.specs.Compiled.{BreaksSchema, schema_in}
use Rattle.run_works.specs.Disks.{DiskState, IsUntouched, KeepsContents, ReadsAsDatabase, opening_refusal}

-- ---- the schema

-- the file of this name breaks no rule, and denotes this schema
pub record HasSchema (files : FileState) (name : List ℕ) (schema : SchemaData) : Type 0 where
  pub df : List ℕ
  pub has : HasText files name df
  pub clean : violation_of df ≡ None
  pub is : schema ≡ schema_in df

-- the first thing that keeps the schema from being read: the file, or the rule that it breaks first, or out of memory
pub data PreventsSchema (files : FileState) (faults : ℕ) (name : List ℕ) : Refusal → Type 0 where
  no_df : {refusal : Refusal} → IsNotRead files faults name refusal → PreventsSchema files faults name refusal
  df_breaks : {refusal : Refusal} {df : List ℕ} → HasText files name df → BreaksSchema df refusal → PreventsSchema files faults name refusal

-- the schema has the table that the arguments of a dump name, with this number
pub record HasTable (files : FileState) (named : Dump) (schema : SchemaData) (table : ℕ) : Type 0 where
  pub has : HasSchema files named.schema schema
  pub is : table_named schema named.table ≡ Some table

-- the first thing that prevents a dump before the database is opened: the schema, or that it has no such table, or out of memory
pub data PreventsDump (files : FileState) (faults : ℕ) (named : Dump) : Refusal → Type 0 where
  no_schema : {refusal : Refusal} → PreventsSchema files faults named.schema refusal → PreventsDump files faults named refusal
  no_table : (schema : SchemaData) → HasSchema files named.schema schema → table_named schema named.table ≡ None → PreventsDump files faults named (NoTable named.table)
  dump_wants : PreventsDump files faults named NoMemory

-- ---- create

-- the refusal of a creation, as the command reports it
abbrev pub creation_refusal : CreateRefusal → Refusal
creation_refusal create.AlreadyCreated = AlreadyCreated
creation_refusal create.Disk = Disk
creation_refusal create.NoMemory = NoMemory

-- at each moment of the call an image recovers only to what one at the call recovered to, or to the new database
pub record Creates (schema : SchemaData) (was now : DiskState) : Type 0 where
  pub observable : now.observable ≡ was.observable
  pub steps : Run was.time now.time was.left now.left (CreatesNew schema)

-- the disk held no database, of whatever schema, the text of this schema has at most 2^20 bytes, and each image that a crash now may leave is
-- born: the new database of this schema
pub record IsMade (schema : SchemaData) (was now : DiskState) : Type 0 where
  pub fresh : IsTrue was.observable → IsNoDatabase was.seen
  pub short : length (canonical_text schema) ≤ 1048576
  pub born : (image : Image) → now.left now.time image → IsBorn image (new_contents schema)

-- why it was not made: the disk holds a database, of some schema, or it failed, or there was not enough memory. Unless the disk failed it is as
-- it was; and where it failed, a database is as it was
pub record IsNotMade (was now : DiskState) (refusal : Refusal) : Type 0 where
  pub why : CreateRefusal
  pub is : refusal ≡ creation_refusal why
  pub already : why ≡ create.AlreadyCreated → IsTrue was.observable → (other : SchemaData) × IsDatabaseOf was.seen other
  pub rose : why ≡ create.Disk → Rose was.failures now.failures
  pub stays : (why ≡ create.Disk → ⊥) → IsUntouched was now
  pub harmless : why ≡ create.Disk → IsTrue was.observable → IsUntouched was now ⊎ IsNoDatabase was.seen

-- the report of a command that did its work, with nothing written
pub record IsSilent (old new : OutState) (report : Report) : Type 0 where
  pub refusal : report.refusal ≡ None
  pub status : report.status ≡ 0
  pub trace : report.trace ≡ []
  pub ends : report.ends ≡ []
  pub out : new ≡ old

-- THE RESULT OF A CREATION
pub data CreateResult (schema : SchemaData) (was now : DiskState) (old new : OutState) (report : Report) : Type 0 where
  Made : Creates schema was now → IsMade schema was now → IsSilent old new report → CreateResult schema was now old new report
  NotMade : {refusal : Refusal} → Creates schema was now → IsNotMade was now refusal → IsRefused [] refusal old new report → CreateResult schema was now old new report

-- ---- dump

-- the refusal of a dump, as the command reports it
abbrev pub dump_refusal : Option DumpRefusal → Option Refusal
dump_refusal None = None
dump_refusal (Some (dump.Database why)) = Some (opening_refusal why)
dump_refusal (Some dump.Output) = Some Output

-- whether all rows were written: where the dump was refused, the first ones may have been
abbrev pub has_all_rows : Option DumpRefusal → Bool
has_all_rows None = true
has_all_rows (Some why) = false

-- whether the last line was written whole: where the output failed, it may end within a line
abbrev pub has_whole_lines : Option DumpRefusal → Bool
has_whole_lines None = true
has_whole_lines (Some why) = not (is_output why)

-- What reads of the disk gave: without a refusal the text of this schema, and a database of it; else why, and Disk only where its count rose.
-- Where the disk holds no database, or one of another schema, it is untouched
abbrev pub IsDumpCause : SchemaData → DiskState → DiskState → Option DumpRefusal → Type 0
IsDumpCause schema was now None = (IsTrue was.observable → HasStoredText was.seen schema) × ReadsAsDatabase was schema
IsDumpCause schema was now (Some why) =
    IsNotDumped schema was.observable was.seen why × (is_disk why ≡ true → Rose was.failures now.failures) × (is_judged why ≡ true → IsUntouched was now)

-- THE RESULT OF A DUMP once its table is known: the lines of the committed rows in the order of the primary index (`IsDumped`), of all of
-- them or, where it was refused, of the first ones. The contents of the disk stay
pub record DumpResult (schema : SchemaData) (table : ℕ) (was now : DiskState) (old new : OutState) (report : Report) : Type 0 where
  pub why : Option DumpRefusal
  pub refusal : report.refusal ≡ dump_refusal why
  pub cause : IsDumpCause schema was now why
  pub between : OutState
  pub written : IsDumped schema was.observable was.seen table (has_all_rows why) (has_whole_lines why) old between
  pub kept : KeepsContents schema was now
  pub status : report.status ≡ status_after report.refusal
  pub trace : report.trace ≡ []
  pub ends : report.ends ≡ []
  pub lines : WritesStatus [] [] report.refusal between new

-- ---- for laws

-- What a refusal says of a disk that is observable. NotCreated: its image is that of no database, of whatever schema. AlreadyCreated: it is that of one.
-- SchemaDiffers: it is that of a database of a schema with the stored text, which is not the given one
abbrev pub SaysOfDisk : DiskState → Refusal → Type 0
SaysOfDisk disk NotCreated = IsNoDatabase disk.seen
SaysOfDisk disk AlreadyCreated = (schema : SchemaData) × IsDatabaseOf disk.seen schema
SaysOfDisk disk (SchemaDiffers stored given) = (stored ≢ given) × ((schema : SchemaData) × (canonical_text schema ≡ stored) × IsDatabaseOf disk.seen schema)
SaysOfDisk disk refusal = Unit {0}

-- Whether a command that ends by this refusal has written nothing to the disk. The others: the disk failed, out of memory, standard output did not
-- take the report, a client ended in an error or a stop
abbrev pub is_before_writes : Refusal → Bool
is_before_writes Disk = false
is_before_writes NoMemory = false
is_before_writes Output = false
is_before_writes (Client first) = false
is_before_writes refusal = true

-- A REFUSED COMMAND WRITES NOTHING: where it ends by a refusal of an argument, a file, a rule, a table, or of what the disk holds (`NotCreated`,
-- `AlreadyCreated`, `SchemaDiffers`), the disk is untouched
abbrev pub WritesNothingIfRefused : DiskState → DiskState → Report → Type 0
WritesNothingIfRefused was now report = (refusal : Refusal) → report.refusal ≡ Some refusal → is_before_writes refusal ≡ true → IsUntouched was now
