-- Who waits for whom by a key, as the store knows it.
use Rattle.std.specs.Prelude.{◌≡◌, ◌≢◌, ℕ, ◌<◌, ◌⊎◌, List, Option, Some, None}
use Rattle.database_meaning.specs.declared.state.BlockedRequest.{BlockedRequest}
use Rattle.database_protocol.specs.declared.operation.Op.{Op}
use Rattle.database_protocol.specs.declared.operation.Op.TheVariants.{Insert, Put}
use Rattle.database_meaning.specs.Waiting.{row_in, HasConflict, Closes, IsHolders, IsCycle}
use Rattle.database_meaning.specs.Setting.{Setting}
use Rattle.database_meaning.specs.State.{State}
use Rattle.database_protocol.specs.declared.answer.Answer.{Answer}
use Rattle.database_protocol.specs.declared.answer.Answer.TheVariants.{Blocked, Deadlock}
use Rattle.record_locks.specs.declared.locks.KeyWait.{KeyWait}
use Rattle.record_locks.specs.Table.{WaitsForKey}
use Rattle.row_store.specs.Rows.{RowState}
use Rattle.row_store.specs.Questions.{ReservesAgainst}
use Rattle.db_core.specs.declared.control.Control.{Control}
use Rattle.db_core.specs.Represents.{blocked_at}

abbrev pub MeetsReserved : RowState → ℕ → Op → ℕ → Type 0
MeetsReserved rows a (Insert table values) b = ReservesAgainst rows a None (row_in table values) b
MeetsReserved rows a (Put table row values) b = ReservesAgainst rows a (rows.rows row.0) (row_in table values) b
MeetsReserved rows a _ b = ⊥

abbrev pub WaitsByKey : RowState → ℕ → Option BlockedRequest → ℕ → Type 0
WaitsByKey rows a None b = ⊥
WaitsByKey rows a (Some blocked) b = MeetsReserved rows a blocked.op b

-- the list has the waits by keys of the first n clients but this one
pub record ListsWaits (rows : RowState) (control : Control) (client n : ℕ) (keyed : List KeyWait) : Type 0 where
  pub sound : (a b : ℕ) → WaitsForKey keyed a b → WaitsByKey rows a (blocked_at control a) b
  pub other : (a b : ℕ) → WaitsForKey keyed a b → (a ≢ client) × (a < n)
  pub all : (a b : ℕ) → a < n → a ≢ client → WaitsByKey rows a (blocked_at control a) b → WaitsForKey keyed a b

-- an operation that brings unique keys
abbrev pub IsKeyed : Op → Type 0
IsKeyed (Insert table values) = Unit {0}
IsKeyed (Put table row values) = Unit {0}
IsKeyed _ = ⊥

-- the answer to an Insert or Put where reserved keys of others conflict: the rows Blocked and Deadlock of the table
abbrev pub AnswersConflict : Setting → State → ℕ → Op → Answer → Type 0
AnswersConflict f s c op a =
    HasConflict f s c op × ((¬ Closes f s c op × ((holders : List ℕ) × IsHolders f s c op holders × (a ≡ Blocked holders))) ⊎ ((cycle : List ℕ) × IsCycle f s c op cycle × (a ≡ Deadlock cycle)))
