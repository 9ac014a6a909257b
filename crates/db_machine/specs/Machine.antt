-- The database between two steps: what always holds of it, and with what contents it may have been opened.
use Rattle.std.specs.Prelude.{◌≡◌, ℕ, ◌+◌, ◌≤◌, Bool, false, IsTrue, List, length, refl}
use Rattle.std.specs.Coded.{Coded, code_by, coded×, coded_ℕ, coded_bool, coded_list}
use Rattle.abl_base.specs.declared.limits.TheConstants.{MAX_TRACE_BYTES}
use Rattle.abl_values.specs.Schema.{SchemaData}
use Rattle.abl_values.specs.contracts.schema.Schema as schema
use Rattle.database_protocol.specs.contracts.event.Event as event
use Rattle.db_core.specs.contracts.control.Control as control
use Rattle.database_protocol.specs.declared.event.Event.{Event}
use Rattle.database_meaning.specs.declared.contents.Contents.{Contents}
use Rattle.database_meaning.specs.Setting.{Setting}
use Rattle.database_meaning.specs.State.{State}
use Rattle.database_meaning.specs.Traces.{Follows, IsSoundContents, left_by, opened}
use Rattle.row_store.specs.Rows.{RowState}
use Rattle.db_core.specs.declared.control.Control.{Control}
use Rattle.db_core.specs.Represents.{IsSound, Represents}
use Rattle.db_machine.specs.Replies.{IsSize}
use Rattle.db_machine.specs.Running.{running_in}

-- a database as contracts see it
pub record Machine (R : Type 0) : Type 0 where
  pub rows : R
  pub control : Control
  pub schema : SchemaData
  pub size : ℕ  -- the counted bytes of the trace, up to one more than may be
  pub closed : Bool
  pub running : List Bool  -- for each client whether it has not ended
  pub trace : List Event

-- a database is stored as the tuple of its parts
abbrev pub machine_code : {R : Type 0} → Coded R → Coded (Machine R)
machine_code {R} rows =
    code_by (R × (Control × (SchemaData × (ℕ × (Bool × (List Bool × List Event))))))
    (coded× rows (coded× control.the_row.coded (coded× schema.the_row.coded (coded× coded_ℕ (coded× coded_bool (coded× (coded_list coded_bool) (coded_list event.the_row.coded)))))))
    (λ m. (m.rows, (m.control, (m.schema, (m.size, (m.closed, (m.running, m.trace)))))))
    (λ p. record { rows = p.0; control = p.1.0; schema = p.1.1.0; size = p.1.1.1.0; closed = p.1.1.1.1.0; running = p.1.1.1.1.1.0; trace = p.1.1.1.1.1.1 })
    (λ _. refl)

-- some state is represented, where the store is observable
abbrev pub IsSome : RowState → Control → Type 0
IsSome rows control = IsTrue rows.observable → (f : Setting) × (s : State) × Represents f rows control s

-- whatever the store is: the control data are sound, the counts stay within bounds, and an open database has not failed
pub record IsSafe (rows : RowState) (control : Control) (schema : SchemaData) (size : ℕ) (closed : Bool) (trace : List Event) : Type 0 where
  pub sound : IsSound rows control
  pub few : length control.sessions.items ≤ 16
  pub same_schema : rows.schema ≡ schema
  pub sequences : length control.sequences.items ≡ length schema.sequences
  pub frees : control.frees ≤ length trace
  pub bound : size ≤ MAX_TRACE_BYTES + 1
  pub fine : closed ≡ false → rows.failed ≡ false
  pub some : IsSome rows control

-- The database may be one of this setting that was opened with these contents: its store is observable, each answer of the trace was
-- allowed in the state that the events before it left, and the state that all events leave is represented
pub record WasOpened (rows : RowState) (control : Control) (size : ℕ) (closed : Bool) (trace : List Event) (f : Setting) (contents : Contents) : Type 0 where
  pub observable : IsTrue rows.observable
  pub sound_contents : IsSoundContents f contents
  pub follows : Follows f (opened contents) trace
  pub represents : Represents f rows control (left_by f contents trace)
  pub size_is : IsSize size (left_by f contents trace).size
  pub closed_is : closed ≡ (left_by f contents trace).closed

-- There is memory for the End of each client that has not ended; the number is that of the events for which there is memory
pub record IsReserved (control : Control) (running : List Bool) (trace : List Event) (most : ℕ) : Type 0 where
  pub clients : length running ≡ length control.sessions.items
  pub room : length trace + running_in running ≤ most
