-- One step of a database, as its trace shows it.
use Rattle.std.specs.Prelude.{◌≡◌, ◌⊎◌, ℕ, List, Some}
use Rattle.database_protocol.specs.declared.operation.Op.{Op}
use Rattle.database_protocol.specs.declared.answer.Answer.{Answer}
use Rattle.database_protocol.specs.declared.answer.Answer.TheVariants.{Refused}
use Rattle.database_protocol.specs.declared.event.Event.{Event}
use Rattle.database_meaning.specs.declared.contents.Contents.{Contents}
use Rattle.database_meaning.specs.Setting.{Setting}
use Rattle.database_meaning.specs.State.{State}
use Rattle.database_meaning.specs.Answers.{IsWellFormed}
use Rattle.database_meaning.specs.Traces.{left_by}

-- the event of a client's operation and its answer
abbrev pub event_of : ℕ → Op → Answer → Event
event_of client op answer = record { client = client; op = op; answer = answer }

-- the client's last request was answered Blocked, and no step has freed anything since
abbrev pub StaysBlocked : State → ℕ → Type 0
StaysBlocked s client = (op : Op) × ((s.client client).blocked ≡ Some (record { op = op; frees = s.frees }))

-- In whatever contents the database began, the events leave a state in which the operation names no open level or no row that the client
-- holds exclusively, or what the schema does not have. What IsWellFormed asks of a state is the same for all contents at opening
abbrev pub IsIllFormed : Setting → List Event → ℕ → Op → Type 0
IsIllFormed setting trace client op = (contents : Contents) → ¬ IsWellFormed setting (left_by setting contents trace) client op

-- Refused is the answer only where the client is blocked, or where the operation is ill formed
abbrev pub IsRefusedRightly : Setting → List Event → Type 0 → ℕ → Op → Answer → Type 0
IsRefusedRightly setting trace Blocked client op answer = answer ≡ Refused → Blocked ⊎ IsIllFormed setting trace client op
