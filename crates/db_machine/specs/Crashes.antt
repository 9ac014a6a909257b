-- The answer of a call that may fail, and what a step does to what stops leave.
use Rattle.std.specs.Prelude.{◌≡◌, ℕ, Bool, List, Result, Ok, Err}
use Rattle.database_protocol.specs.declared.operation.Op.{Op}
use Rattle.database_protocol.specs.declared.answer.Answer.{Answer}
use Rattle.database_protocol.specs.declared.answer.Answer.TheVariants.{Closed, NoMemory}
use Rattle.database_protocol.specs.declared.event.Event.{Event}
use Rattle.database_meaning.specs.declared.contents.Contents.{Contents}
use Rattle.database_meaning.specs.Setting.{Setting}
use Rattle.database_meaning.specs.Traces.{left_by}
use Rattle.row_store.specs.declared.store.RowFault.{RowFault}
use Rattle.row_store.specs.declared.store.RowFault.TheVariants.{Disk as DiskFailed, NoMemory as OutOfMemory}
use Rattle.row_store.specs.Rows.{Durable, RowState}
use Rattle.row_store.specs.Times.{Times}
use Rattle.db_core.specs.declared.control.Control.{Control}
use Rattle.db_core.specs.Crashes.{IsDurable, longer}
use Rattle.db_core.specs.Represents.{Represents}
use Rattle.db_machine.specs.declared.replies.Reply.{Reply}

-- the answer that the client gets
abbrev pub answer_for : Result Reply RowFault → Answer
answer_for (Ok reply) = reply.answer
answer_for (Err OutOfMemory) = NoMemory
answer_for (Err DiskFailed) = Closed

-- the event comes to the trace, of a database whose state is the one that the trace leaves
abbrev pub StepsOn : RowState → RowState → (ℕ → Durable → Type 0) → (ℕ → Durable → Type 0) → Times → Times → Control → Bool → ℕ → Op → Answer → Type 0
StepsOn old new before after was now control closed client op answer =
    (f : Setting) (contents : Contents) (trace : List Event) → Represents f old control (left_by f contents trace) → closed ≡ (left_by f contents trace).closed
    → IsDurable old before was f contents trace → IsDurable new after now f contents (longer trace client op answer)
