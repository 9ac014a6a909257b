-- What a client sees of the database: its setting, the contents at opening, and which clients are active.
use Rattle.std.specs.Prelude.{◌≡◌, ◌<◌, ◌↔◌, ℕ, length, Some}
use Rattle.std.proofs.Common.{ap, sym, subst, ◌∙◌}
use Rattle.database_meaning.specs.declared.contents.Contents.{Contents}
use Rattle.database_meaning.specs.declared.state.BlockedRequest.{BlockedRequest}
use Rattle.database_meaning.specs.Setting.{Setting}
use Rattle.database_meaning.specs.State.{State}
use Rattle.database_meaning.specs.Traces.{IsLegal, left_by}
use Rattle.database_interface.specs.Step.{StaysBlocked}
use Rattle.row_store.specs.Rows.{Durable, RowState}
use Rattle.row_store.specs.Times.{Times}
use Rattle.db_core.specs.Crashes.{IsDurable}
use Rattle.db_core.specs.Known.{IsWaiting, known}
use Rattle.db_core.specs.Levels.{SameLevels}
use Rattle.db_core.proofs.RefusalLaws.{waiting_same}
use Rattle.db_machine.specs.Machine.{Machine, WasOpened}
use Rattle.db_machine.specs.Running.{IsRunning}

-- the schema and the number of clients are those of the database. Whatever contents it had at opening, the trace leaves the levels and the
-- exclusive locks that the control data have
pub record HasSetting {R : Type 0} (db : Machine R) (f : Setting) : Type 0 where
  pub schema : f.schema ≡ db.schema
  pub clients : f.clients ≡ length db.control.sessions.items
  pub levels : (contents : Contents) → SameLevels (known db.control) (left_by f contents db.trace)

-- it is one of this setting, whose rows are in this state, and may have been opened with these contents. Of these a stop leaves what was
-- committed by then, or one commit more
pub record IsOpened {R : Type 0} (rows : RowState) (left : ℕ → Durable → Type 0) (times : Times) (db : Machine R) (f : Setting) (contents : Contents) : Type 0 where
  pub setting : HasSetting db f
  pub was : WasOpened rows db.control db.size db.closed db.trace f contents
  pub durable : IsDurable rows left times f contents db.trace

-- the client has not ended
abbrev pub IsActive : {R : Type 0} → Machine R → ℕ → Type 0
IsActive db client = (client < length db.control.sessions.items) × IsRunning db.running client

-- the client was answered Blocked, and no step has freed anything since
abbrev pub IsBlocked : {R : Type 0} → Machine R → ℕ → Type 0
IsBlocked db client = IsWaiting (known db.control) client

-- ---- laws of a database, as terms

pub legal : {R : Type 0} (rows : RowState) (left : ℕ → Durable → Type 0) (times : Times) (db : Machine R) (f : Setting) (contents : Contents) → IsOpened rows left times db f contents → IsLegal f contents db.trace
legal rows left times db f contents opened = (opened.was.sound_contents, opened.was.follows)

pub one_of : {R : Type 0} (db : Machine R) (f : Setting) (client : ℕ) → HasSetting db f → IsActive db client → client < f.clients
one_of db f client has active = subst (λ (n : ℕ). client < n) (sym has.clients) active.0

stays_blocked : (s : State) (client : ℕ) → IsWaiting s client → StaysBlocked s client
stays_blocked s client (w, is, frees) = (w.op, is ∙ ap (λ (n : ℕ). let b : BlockedRequest = record { op = w.op; frees = n } in Some b) frees)

is_waiting : (s : State) (client : ℕ) → StaysBlocked s client → IsWaiting s client
is_waiting s client (op, is) = (record { op = op; frees = s.frees }, is, λ i. s.frees)

pub blocked_as : {R : Type 0} (rows : RowState) (left : ℕ → Durable → Type 0) (times : Times) (db : Machine R) (f : Setting) (contents : Contents) (client : ℕ) → IsOpened rows left times db f contents → IsBlocked db client ↔ StaysBlocked (left_by f contents db.trace) client
blocked_as rows left times db f contents client opened =
    let s = left_by f contents db.trace in
    let same = waiting_same f rows db.control s opened.was.represents opened.was.observable rows.schema opened.was.represents.schema client in
    (λ waits. stays_blocked s client (same.0 waits), λ stays. same.1 (is_waiting s client stays))
