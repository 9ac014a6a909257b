-- One answer of the machine: what it is, and what it leaves.
use Rattle.std.specs.Prelude.{◌≡◌, ◌⊎◌, ℕ, ◌+◌, ◌<◌, ◌≤◌, min, Bool, length, IsTrue, if◌then◌else◌}
use Rattle.abl_base.specs.declared.limits.TheConstants.{MAX_TRACE_BYTES}
use Rattle.abl_values.specs.Schema.{SchemaData}
use Rattle.database_protocol.specs.declared.operation.Op.{Op}
use Rattle.database_protocol.specs.declared.operation.Op.TheVariants.{CurrentValue, End, Get, Next}
use Rattle.database_protocol.specs.declared.answer.Answer.{Answer}
use Rattle.database_protocol.specs.declared.answer.Answer.TheVariants.{AtEnd, Busy, Deadlock, Duplicate, Full, Gone, KeyTooLong, SequenceEnd, TraceFull, TxFull}
use Rattle.database_meaning.specs.Setting.{HasTable, Setting}
use Rattle.database_meaning.specs.State.{State}
use Rattle.database_meaning.specs.Answers.{Answers, FromGone, HasOrder}
use Rattle.database_meaning.specs.Counts.{HasRoom, event_size, is_counted}
use Rattle.database_meaning.specs.Steps.{after}
use Rattle.row_store.specs.Rows.{IsObservable, RowState}
use Rattle.db_core.specs.declared.control.Control.{Control}
use Rattle.db_core.specs.Keeps.{Keeps, NextCounts}
use Rattle.db_core.specs.Known.{known, setting_at}
use Rattle.db_core.specs.Levels.{SameLevels}
use Rattle.db_core.specs.Represents.{IsSound, Represents}

-- ---- the size of the trace

-- the counted bytes, kept up to one more than may be
abbrev pub IsSize : ℕ → ℕ → Type 0
IsSize kept size = kept ≡ min size (MAX_TRACE_BYTES + 1)

-- the trace of this size has room for the event. An End needs none
abbrev pub HasPlace : ℕ → Op → Answer → Type 0
HasPlace kept op a = (op ≡ End) ⊎ (kept + event_size op a ≤ MAX_TRACE_BYTES)

-- the size after the event
abbrev pub size_after : ℕ → Op → Answer → ℕ
size_after size op a = if is_counted op a then size + event_size op a else size

-- the answer is the decided one where there is room for it, and else TraceFull
abbrev pub IsFitted : ℕ → Op → Answer → Answer → Type 0
IsFitted kept op decided a = (HasPlace kept op decided × (a ≡ decided)) ⊎ (¬ HasPlace kept op decided × (a ≡ TraceFull))

-- ---- an answer

-- an answer after which nothing but the client's blocked request changes
abbrev pub IsRefusal : Answer → Type 0
IsRefusal TraceFull = Unit {0}
IsRefusal Gone = Unit {0}
IsRefusal (KeyTooLong index) = Unit {0}
IsRefusal (Busy holders) = Unit {0}
IsRefusal (Deadlock cycle) = Unit {0}
IsRefusal (Duplicate index row) = Unit {0}
IsRefusal Full = Unit {0}
IsRefusal TxFull = Unit {0}
IsRefusal SequenceEnd = Unit {0}
IsRefusal AtEnd = Unit {0}
IsRefusal _ = ⊥

-- the rows of the table from TraceFull on, the last part of ByTable
abbrev pub ByRoom : Setting → State → ℕ → Op → Answer → Type 0
ByRoom f s c op a = (HasRoom s op a × FromGone f s c op a) ⊎ ((a ≡ TraceFull) × (b : Answer) × FromGone f s c op b × ¬ HasRoom s op b)

-- an operation that is not refused, of an open database, was answered by the table, and the state after the answer is represented. Levels
-- and exclusive locks are as in the state after the answer, whatever the store says
pub record IsReply (old new : RowState) (before now : Control) (size client : ℕ) (op : Op) (a : Answer) : Type 0 where
  pub keeps : Keeps old new before now
  pub sound : IsSound new now
  pub answers : IsObservable old → (f : Setting) (s : State) → Represents f old before s → IsSize size s.size → ByRoom f s client op a
  pub represents : IsObservable old → (f : Setting) (s : State) → Represents f old before s → Represents f new now (after f s client op a)
  pub levels : (f : Setting) (s : State) → SameLevels (known before) s → SameLevels (known now) (after f s client op a)

-- any operation was answered as the definition allows, and the state after the answer is represented. Levels and exclusive locks are as in
-- the state after the answer, whatever the store says
pub record IsStep (old new : RowState) (before now : Control) (size : ℕ) (closed : Bool) (client : ℕ) (op : Op) (a : Answer) : Type 0 where
  pub observable : new.observable ≡ old.observable
  pub schema : new.schema ≡ old.schema
  pub counts : NextCounts before now
  pub sound : IsSound new now
  pub answers : IsTrue old.observable → (f : Setting) (s : State) → Represents f old before s → IsSize size s.size → closed ≡ s.closed → Answers f s client op a
  pub represents : IsTrue old.observable → (f : Setting) (s : State) → Represents f old before s → Represents f new now (after f s client op a)
  pub levels : (f : Setting) (s : State) → SameLevels (known before) s → SameLevels (known now) (after f s client op a)

-- a question about what there is: its table, index or sequence exists
abbrev pub AsksWhatIs : SchemaData → Control → Op → Type 0
AsksWhatIs schema control (Next table index prefix cursor forward) = HasTable schema table × HasOrder (setting_at schema control) table index
AsksWhatIs schema control (Get table row) = HasTable schema table
AsksWhatIs schema control (CurrentValue sequence) = sequence < length control.sequences.items
AsksWhatIs schema control _ = ⊥
