-- Clients that run in three phases over one database.
use Rattle.std.specs.Prelude.{◌≡◌, ◌+◌, ℕ, List, [], ◌∷◌}
use Rattle.abl_values.specs.Schema.{SchemaData}
use Rattle.host_io.specs.Out.{OutState}
use Rattle.block_meaning.specs.Program.{Program}
use Rattle.block_meaning.specs.Meaning.{run}
use Rattle.block_meaning.specs.State.{Progress}
use Rattle.database_protocol.specs.declared.answer.Answer.{Answer}
use Rattle.database_protocol.specs.declared.ends.ClientEnd.{ClientEnd}
use Rattle.database_protocol.specs.declared.ends.ClientEnd.TheVariants.{NoMemory}
use Rattle.database_protocol.specs.declared.event.Event.{Event}
use Rattle.client_output.specs.declared.section.Section.{Section}
use Rattle.database_meaning.specs.Setting.{Setting}
use Rattle.client_threads.specs.clients.Phases.{AreThreePhases}
use Rattle.command_arguments.specs.declared.parts.Mode.{Mode}
use Rattle.run_report.specs.declared.ending.Report.{Report}
use Rattle.run_report.specs.Ending.{IsReported}
use Rattle.client_threads.specs.served.ClientRun.{ClientOutcome, own_events}
use Rattle.run_works.specs.Disks.{DiskState, IsDurable, ReadsAsDatabase}
use Rattle.client_threads.specs.served.Works.{IsProgram, Work}

-- What a client of a phase did over a database of this setting: as its source means under the answers to its own events. Or there was no
-- memory to begin the phase, and the client has requested nothing and written nothing
pub data PhaseOutcome (setting : Setting) (outputs : List (List ℕ)) (m : List Answer → Progress) (own : List Event) : ClientEnd → List Section → Type 0 where
  Did : {how : ClientEnd} {sections : List Section} → ClientOutcome setting outputs m own how sections → PhaseOutcome setting outputs m own how sections
  NotBegun : own ≡ [] → PhaseOutcome setting outputs m own NoMemory []

-- what each client did over a database of this setting, with this number of units. The clients have the numbers from this one on, and came to
-- these ends and wrote these sections
abbrev pub DidInPhases : Setting → ℕ → List Event → ℕ → List Work → List ClientEnd → List (List Section) → Type 0
DidInPhases setting units trace number [] [] [] = Unit {0}
DidInPhases setting units trace number (w ∷ ws) (how ∷ ends) (sections ∷ parts) =
    ((p : Program) → IsProgram w p → PhaseOutcome setting w.tree.outputs (run p units) (own_events number trace) how sections) × DidInPhases setting units trace (number + 1) ws ends parts
DidInPhases setting units trace number works ends parts = ⊥

-- A RUN IN THREE PHASES of the clients of these names and works over the database of this schema that the disk has, and its report: each client
-- did as its source means under its own answers, or could not begin. The phases are one trace over one database, which is legal from the
-- contents of the disk; and these survive a crash at any moment. No phase is over another schema, or over no database
pub record HasRunPhases (mode : Mode) (schema : SchemaData) (names : List (List ℕ)) (units clients : ℕ) (works : List Work) (was now : DiskState) (old new : OutState) (report : Report) : Type 0 where
  pub ends : List ClientEnd
  pub parts : List (List Section)
  pub did : DidInPhases (record { schema = schema; clients = clients + 2 }) units report.trace 0 works ends parts
  pub phases : AreThreePhases clients report.trace
  pub durable : IsDurable (record { schema = schema; clients = clients + 2 }) report.trace was now
  pub born : ReadsAsDatabase was schema
  pub reported : IsReported mode schema names ends parts old new report
