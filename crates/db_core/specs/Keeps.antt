-- What a call preserves besides the state that it represents, and what is unchanged after its error.
use Rattle.std.specs.Prelude.{◌≡◌, ◌⊎◌, ℕ, ◌+◌, ◌≤◌, ◌==◌, if◌then◌else◌, length, None}
use Rattle.database_protocol.specs.declared.answer.Answer.{Answer}
use Rattle.database_protocol.specs.declared.answer.Answer.TheVariants.{Closed, NoMemory}
use Rattle.database_meaning.specs.Setting.{Setting}
use Rattle.database_meaning.specs.State.{State}
use Rattle.row_store.specs.Rows.{IsObservable, RowState}
use Rattle.db_core.specs.declared.control.Control.{Control}
use Rattle.db_core.specs.Known.{known}
use Rattle.db_core.specs.Levels.{SameLevels}
use Rattle.db_core.specs.Represents.{IsSound, Represents}

-- the numbers of clients and sequences are unchanged, and nothing was freed
pub record SameCounts (old new : Control) : Type 0 where
  pub clients : length new.sessions.items ≡ length old.sessions.items
  pub sequences : length new.sequences.items ≡ length old.sequences.items
  pub frees : new.frees ≡ old.frees

-- the numbers of clients and sequences are unchanged, and at most one more step freed something
pub record NextCounts (old new : Control) : Type 0 where
  pub clients : length new.sessions.items ≡ length old.sessions.items
  pub sequences : length new.sequences.items ≡ length old.sequences.items
  pub frees : new.frees ≤ old.frees + 1

-- after a success: the store has the same schema, is observable as before, and has not failed since
pub record Keeps (old new : RowState) (before after : Control) : Type 0 where
  pub observable : new.observable ≡ old.observable
  pub failed : new.failed ≡ old.failed
  pub schema : new.schema ≡ old.schema
  pub counts : NextCounts before after

-- the state without the client's blocked request
abbrev pub without_request : State → ℕ → State
without_request s c = record s { client = λ d. if d == c then record (s.client c) { blocked = None } else s.client d }

-- the state is represented, or so it is without the client's blocked request
abbrev pub RepresentsBut : Setting → RowState → Control → ℕ → State → Type 0
RepresentsBut f rows control c s = Represents f rows control s ⊎ Represents f rows control (without_request s c)

-- after an error: what was represented before the call is so still, but for the caller's blocked request. Levels and exclusive locks stay
-- whatever the store says
pub record Stays (old new : RowState) (before after : Control) (client : ℕ) : Type 0 where
  pub observable : new.observable ≡ old.observable
  pub schema : new.schema ≡ old.schema
  pub counts : SameCounts before after
  pub levels : SameLevels (known after) (known before)
  pub sound : IsSound old before → IsSound new after
  pub represents : IsObservable old → (f : Setting) (s : State) → Represents f old before s → RepresentsBut f new after client s

-- the answers after an error
abbrev pub IsFailure : Answer → Type 0
IsFailure NoMemory = Unit {0}
IsFailure Closed = Unit {0}
IsFailure _ = ⊥
