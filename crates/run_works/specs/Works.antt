-- A run of works over the database of a disk, and its report.
use Rattle.std.specs.Prelude.{◌≡◌, ◌<◌, ℕ, All, length, List}
use Rattle.abl_values.specs.Schema.{SchemaData}
use Rattle.host_io.specs.Out.{OutState}
use Rattle.database_protocol.specs.declared.ends.ClientEnd.{ClientEnd}
use Rattle.database_protocol.specs.declared.event.Event.{Event}
use Rattle.client_output.specs.declared.section.Section.{Section}
use Rattle.command_arguments.specs.declared.parts.Mode.{Mode}
use Rattle.run_report.specs.declared.ending.Report.{Report}
use Rattle.run_report.specs.declared.refusal.Refusal.{Refusal}
use Rattle.run_report.specs.declared.refusal.Refusal.TheVariants.{NoMemory}
use Rattle.run_report.specs.Ending.{IsRefused, IsReported}
use Rattle.client_threads.specs.served.Works.{DidAsMeant, Work}
use Rattle.run_works.specs.Disks.{DiskState, IsDurable, IsNotOpened, KeepsContents, ReadsAsDatabase}

-- A RUN of the clients of these names and works in this mode over the database of this schema that the disk has, and its report. Each client
-- did as its source means under its own answers, whatever the schedule, and was refused no operation that its own events make well formed. The
-- trace is of these clients alone; it is legal from the contents of the disk, and these survive a crash at any moment. No run is over
-- another schema, or over no database
pub record HasRun (mode : Mode) (schema : SchemaData) (names : List (List ℕ)) (units : ℕ) (works : List Work) (was now : DiskState) (old new : OutState) (report : Report) : Type 0 where
  pub ends : List ClientEnd
  pub parts : List (List Section)
  pub did : DidAsMeant (record { schema = schema; clients = length works }) units report.trace 0 works ends parts
  pub clients : All (λ (e : Event). e.client < length works) report.trace
  pub durable : IsDurable (record { schema = schema; clients = length works }) report.trace was now
  pub born : ReadsAsDatabase was schema
  pub reported : IsReported mode schema names ends parts old new report

-- A RUN THAT DID NOT BEGIN, since the database was not opened, or there was no memory for the clients' threads. A disk that holds no database,
-- or one of another schema, is untouched (`IsNotOpened`). The contents of the disk stay: those of the given schema, and where there was memory
-- those of any
pub record HasNotRun (schema : SchemaData) (names : List (List ℕ)) (was now : DiskState) (old new : OutState) (report : Report) : Type 0 where
  pub refusal : Refusal
  pub cause : IsNotOpened schema was now refusal
  pub kept : KeepsContents schema was now
  pub others : (refusal ≡ NoMemory → ⊥) → (other : SchemaData) → KeepsContents other was now
  pub reported : IsRefused names refusal old new report
