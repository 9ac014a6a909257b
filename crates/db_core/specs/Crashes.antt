-- What a stop of the store leaves: the contents after the commits that were acknowledged by then, or after one commit more.
use Rattle.std.specs.Prelude.{◌≡◌, ◌⊎◌, ℕ, ◌+◌, ◌<◌, ◌≤◌, false, List, [], ◌∷◌, ◌++◌, length, filter}
use Rattle.std.specs.FinMap.{get}
use Rattle.database_protocol.specs.declared.answer.Answer.{Answer}
use Rattle.database_protocol.specs.declared.answer.Answer.TheVariants.{Committed}
use Rattle.database_protocol.specs.declared.operation.Op.{Op}
use Rattle.database_protocol.specs.declared.event.Event.{Event}
use Rattle.database_meaning.specs.declared.contents.Contents.{Contents}
use Rattle.database_meaning.specs.Setting.{Setting}
use Rattle.database_meaning.specs.Traces.{acknowledged, after_commits, commits, is_committed, left_by, rows_of}
use Rattle.row_store.specs.Rows.{Durable, RowState, durable_of}
use Rattle.row_store.specs.Times.{Times}
use Rattle.db_core.specs.declared.control.Control.{Control}
use Rattle.db_core.specs.Represents.{Represents}

-- ---- the clause

-- the durable state is these contents
pub record Holds (durable : Durable) (contents : Contents) : Type 0 where
  pub rows : (k : ℕ) → get (rows_of contents.rows) k ≡ durable.rows k
  pub sequences : contents.sequences ≡ durable.sequences

-- it is the contents after n commits, or after n + 1 where the trace has so many
abbrev pub HoldsFrom : Setting → Contents → List Event → ℕ → Durable → Type 0
HoldsFrom f contents trace n durable =
    Holds durable (after_commits f contents trace n) ⊎ ((n < commits f contents trace) × Holds durable (after_commits f contents trace (n + 1)))

-- the moment of a Committed event. Any other event has that of the last one before it
abbrev pub moment_of : ℕ → Answer → ℕ
moment_of last (Committed moment) = moment
moment_of last _ = last

-- along the trace the moments of Committed events never fall, from the first moment to the present one
abbrev pub AreMoments : ℕ → List Event → ℕ → Type 0
AreMoments first [] present = first ≤ present
AreMoments first (e ∷ es) present = (first ≤ moment_of first e.answer) × AreMoments (moment_of first e.answer) es present

-- at each known moment a stop leaves the contents after the commits that were acknowledged by then, or after one more
pub record Survives (left : ℕ → Durable → Type 0) (times : Times) (f : Setting) (contents : Contents) (trace : List Event) : Type 0 where
  pub each : (m : ℕ) (durable : Durable) → left m durable → ∥ HoldsFrom f contents trace (acknowledged m trace) durable ∥₁
  pub moments : AreMoments times.since trace times.moment

-- ---- what is kept from one call of the store to the next

-- how many events are answered Committed
abbrev pub answered : List Event → ℕ
answered trace = length (filter (λ (e : Event). is_committed e.answer) trace)

-- the durable state is the contents after all answered commits, and a commit in doubt is the one that was not answered
pub record Stands (rows : RowState) (left : ℕ → Durable → Type 0) (times : Times) (f : Setting) (contents : Contents) (trace : List Event) : Type 0 where
  pub survives : Survives left times f contents trace
  pub committed : Holds (durable_of rows) (after_commits f contents trace (answered trace))
  pub doubt : HoldsFrom f contents trace (answered trace) times.doubt

-- the same of a store whose stops are observable: one at the first moment is known
pub record IsDurable (rows : RowState) (left : ℕ → Durable → Type 0) (times : Times) (f : Setting) (contents : Contents) (trace : List Event) : Type 0 where
  pub stands : (first : Durable) → left times.since first → Stands rows left times f contents trace

-- the trace with one event more
abbrev pub longer : List Event → ℕ → Op → Answer → List Event
longer trace client op answer = trace ++ record { client = client; op = op; answer = answer } ∷ []

-- whatever the trace so far: a call that commits nothing keeps it
abbrev pub StaysDurable : RowState → RowState → (ℕ → Durable → Type 0) → (ℕ → Durable → Type 0) → Times → Times → Type 0
StaysDurable old new before after was now =
    (f : Setting) (contents : Contents) (trace : List Event) → IsDurable old before was f contents trace → IsDurable new after now f contents trace

-- the event comes to the trace, of a database that is not closed and whose state is the one that the trace leaves
abbrev pub Continues : RowState → RowState → (ℕ → Durable → Type 0) → (ℕ → Durable → Type 0) → Times → Times → Control → ℕ → Op → Answer → Type 0
Continues old new before after was now control client op answer =
    (f : Setting) (contents : Contents) (trace : List Event) → Represents f old control (left_by f contents trace) → (left_by f contents trace).closed ≡ false
    → IsDurable old before was f contents trace → IsDurable new after now f contents (longer trace client op answer)

-- ---- opening

-- each stop that is known, the durable state and the doubt are these contents
pub record StartsFrom (rows : RowState) (left : ℕ → Durable → Type 0) (times : Times) (contents : Contents) : Type 0 where
  pub each : (m : ℕ) (durable : Durable) → times.since ≤ m → left m durable → Holds durable contents
  pub committed : Holds (durable_of rows) contents
  pub doubt : Holds times.doubt contents
