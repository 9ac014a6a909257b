-- The state as far as the control data alone know it: what Refused depends on.
use Rattle.std.specs.Prelude.{◌≡◌, ◌<◌, ℕ, false, [], length, map, Some}
use Rattle.std.specs.FinMap.{empty}
use Rattle.abl_values.specs.Schema.{SchemaData}
use Rattle.database_meaning.specs.declared.state.BlockedRequest.{BlockedRequest}
use Rattle.database_meaning.specs.Setting.{Setting}
use Rattle.database_meaning.specs.State.{Client, Overlay, State}
use Rattle.database_protocol.specs.declared.operation.Op.{Op}
use Rattle.database_meaning.specs.Answers.{AsksAgain, IsWellFormed}
use Rattle.record_locks.specs.Table.{client_of}
use Rattle.db_core.specs.declared.control.Control.{Control}
use Rattle.db_core.specs.Represents.{marks_at, blocked_at}

abbrev pub no_overlay : ℕ → Overlay
no_overlay mark = empty

-- a client's levels without their copies, its locks and its blocked request
abbrev pub known_client : Control → ℕ → Client
known_client control c =
    record {
      overlay = empty;
      levels = map no_overlay (marks_at control c);
      reserved_keys = [];
      drawn = 0;
      written = 0;
      held = (client_of control.locks c).held;
      blocked = blocked_at control c;
    }

abbrev pub known : Control → State
known control = record { committed = empty; sequences = control.sequences.items; client = known_client control; frees = control.frees; size = 0; closed = false }

-- the schema, with the number of clients of the control data
abbrev pub setting_at : SchemaData → Control → Setting
setting_at schema control = record { schema = schema; clients = length control.sessions.items }

-- the client was answered Blocked, and no step has freed a lock or a reserved key since
abbrev pub IsWaiting : State → ℕ → Type 0
IsWaiting s c = (w : BlockedRequest) × ((s.client c).blocked ≡ Some w) × (w.frees ≡ s.frees)

-- the client is known, the operation is well formed, and it is not asked again in vain. The definition refuses what is not allowed
abbrev pub IsAllowed : Setting → State → ℕ → Op → Type 0
IsAllowed f s c op = (c < f.clients) × IsWellFormed f s c op × ¬ AsksAgain s c op
