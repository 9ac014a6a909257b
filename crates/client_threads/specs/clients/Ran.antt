-- A client of block code that has run to its end.
use Rattle.std.specs.Prelude.{◌≡◌, ℕ, List, [], Some}
use Rattle.database_protocol.specs.declared.event.Event.{Event}
use Rattle.database_protocol.specs.declared.ends.ClientEnd.{ClientEnd}
use Rattle.database_meaning.specs.Setting.{Setting}
use Rattle.block_meaning.specs.Program.{Program}
use Rattle.block_meaning.specs.Meaning.{run}
use Rattle.client_core.specs.Refines.{Refines, HasNotBegun}
use Rattle.client_runner.specs.Meant.{AllFit, NoneIsRefused, RefusesOnlyUnsure}
use Rattle.client_runner.specs.declared.task.Task.{Task}
use Rattle.client_threads.specs.session.Along.{IsOnLevels}
use Rattle.client_threads.specs.declared.session.session.ClientSession.{ClientSession}
use Rattle.client_threads.specs.clients.Outcome.{HasDone, own_events}

-- a client of a run over a database of this type
abbrev pub ClientTask : Type 0 → Type 0
ClientTask D = Task ClientSession D

-- the client has not begun, and is to run this program with this number of units. The named outputs have these names
pub record IsToRun {D : Type 0} (task : ClientTask D) (names : List (List ℕ)) (p : Program) (units : ℕ) : Type 0 where
  pub begins : HasNotBegun task.client.client
  pub refines : Refines task.client.client names (run p units) []

-- The client of this number has come to its end in this trace: under the answers of its own events it did what its program means. In each
-- setting of the database the answers fit their operations, only operations are Refused that the client's own events before them do not
-- make well formed, and so none of those on levels is
pub record HasRunIn {D : Type 0} (HasSetting : Setting → Type 0) (trace : List Event) (number : ℕ) (old new : ClientTask D) : Type 0 where
  pub how : ClientEnd
  pub ended : new.end ≡ Some how
  pub done : (names : List (List ℕ)) (p : Program) (units : ℕ) → IsToRun old names p units → HasDone new.client.client names (run p units) (own_events number trace) how
  pub fits : (setting : Setting) → HasSetting setting → AllFit setting (own_events number trace)
  pub refused : (setting : Setting) → HasSetting setting → RefusesOnlyUnsure setting (own_events number trace)
  pub unrefused : (names : List (List ℕ)) (p : Program) (units : ℕ) (setting : Setting) → IsToRun old names p units → HasSetting setting → NoneIsRefused IsOnLevels (own_events number trace)
