-- What commands come to that nothing prevents, over a disk that has a database of their schema.
use Rattle.std.specs.Prelude.{◌≡◌, ℕ, true, IsTrue, List, Some}
use Rattle.abl_values.specs.Schema.{SchemaData}
use Rattle.host_io.specs.Files.{FileState}
use Rattle.database_meaning.specs.declared.contents.Contents.{Contents}
use Rattle.database_meaning.specs.Traces.{IsSoundContents}
use Rattle.command_arguments.specs.CommandLine.{Create, IsCreate, create_arguments, Dump, IsDump, dump_arguments}
use Rattle.run_report.specs.Ending.{has_closed}
use Rattle.run_report.specs.Report.{status_of}
use Rattle.run_report.specs.declared.ending.Report.{Report}
use Rattle.run_report.specs.declared.refusal.Refusal.{Refusal}
use Rattle.run_works.specs.declared.outcome.Outcome.{Outcome}
use Rattle.run_works.specs.Disks.{DiskState, HoldsContents, IsNotOpened}

-- the disk holds sound contents of this schema, as the promise of a run asks (`HoldsContents`)
pub record HasDatabase (schema : SchemaData) (disk : DiskState) : Type 0 where
  pub contents : Contents
  pub sound : IsSoundContents (record { schema = schema; clients = 0 }) contents
  pub holds : HoldsContents disk schema contents

-- the arguments name the creation, and the files are observable and fail for a missing file alone
pub record NamesCreation (arguments : List (List ℕ)) (files : FileState) (create : Create) : Type 0 where
  pub is_create : IsCreate create
  pub arguments_are : arguments ≡ create_arguments create
  pub observable : IsTrue files.observable
  pub sound : IsTrue files.sound

-- the arguments name the dump, and the files likewise
pub record NamesTable (arguments : List (List ℕ)) (files : FileState) (dump : Dump) : Type 0 where
  pub is_dump : IsDump dump
  pub arguments_are : arguments ≡ dump_arguments dump
  pub observable : IsTrue files.observable
  pub sound : IsTrue files.sound

-- how a run ends where nothing prevents it, the database is opened and no write fails: each client ended well, or one ended in an error or a
-- stop, or memory was out, or the disk failed during the run
pub data RunEnd (report : Report) : Type 0 where
  all_well : report.status ≡ 0 → RunEnd report
  a_client_failed : report.status ≡ 8 → RunEnd report
  memory_was_out : report.status ≡ 7 → RunEnd report
  disk_failed : has_closed report.trace ≡ true → report.status ≡ 5 → RunEnd report

-- so it ended, or the database was not opened
pub data IsDone {D : Type 0} (seen : D → DiskState) (disk : D) (schema : SchemaData) (outcome : Outcome D) : Type 0 where
  ended : RunEnd outcome.report → IsDone seen disk schema outcome
  not_opened : (refusal : Refusal) → outcome.report.refusal ≡ Some refusal → outcome.report.status ≡ status_of refusal → IsNotOpened schema (seen disk) (seen outcome.disk) refusal → IsDone seen disk schema outcome
