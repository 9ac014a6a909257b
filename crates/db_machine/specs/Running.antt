-- Which clients have not ended.
use Rattle.std.specs.Prelude.{◌≡◌, ◌≢◌, ◌+◌, ◌<◌, ℕ, Bool, true, false, List, length, slice_index_or}
use Rattle.std.specs.List.{sum_by}
use Rattle.database_protocol.specs.declared.operation.Op.{Op}
use Rattle.database_protocol.specs.declared.operation.Op.TheVariants.{End}

abbrev pub one_if_running : Bool → ℕ
one_if_running true = 1
one_if_running false = 0

-- how many clients have not ended
abbrev pub running_in : List Bool → ℕ
running_in clients = sum_by one_if_running clients

-- the client has not ended
abbrev pub IsRunning : List Bool → ℕ → Type 0
IsRunning clients client = (client < length clients) × (slice_index_or clients client false ≡ true)

-- an operation ends no client, but End the one that asks it
pub record EndsAtEnd (old : List Bool) (client : ℕ) (op : Op) (new : List Bool) : Type 0 where
  pub others : (other : ℕ) → other ≢ client → IsRunning old other → IsRunning new other
  pub clients : length new ≡ length old
  pub goes_on : op ≢ End → new ≡ old
  pub ends : op ≡ End → running_in new + 1 ≡ running_in old
