-- A database that is served to the clients of one run.
use Rattle.std.specs.Prelude.{◌≡◌, ◌++◌, ◌+◌, ◌≤◌, ◌<◌, ℕ, List}
use Rattle.std.specs.List.{All}
use Rattle.database_meaning.specs.declared.contents.Contents.{Contents}
use Rattle.database_protocol.specs.declared.operation.Op.{Op}
use Rattle.database_protocol.specs.declared.event.Event.{Event}
use Rattle.database_meaning.specs.Setting.{Setting}
use Rattle.turn_lock.specs.Journal.{own_entries}
use Rattle.client_runner.specs.declared.start.Start.{Start}
use Rattle.client_runner.specs.Meant.{HasNotEnded, client_in}

-- the database, and what the run began with
pub record Serving (D : Type 0) : Type 0 where
  pub database : D
  pub start : Start D

-- the number is one of `clients` consecutive numbers from `first` on
abbrev pub IsAmong : ℕ → ℕ → ℕ → Type 0
IsAmong first clients n = (first ≤ n) × (n < first + clients)

-- the number is of a client of the run
abbrev pub IsOneOf : {D : Type 0} → Start D → ℕ → Type 0
IsOneOf start n = IsAmong start.first start.clients n

-- the new trace is the old one followed by events of clients in this range
abbrev pub GoesOnBy : ℕ → ℕ → List Event → List Event → Type 0
GoesOnBy first clients old new = (later : List Event) × (new ≡ old ++ later) × All (λ e. IsAmong first clients e.client) later

module _ {D : Type 0} (trace_of : D → List Event) (active_of : D → ℕ → Type 0) where
  -- each client in this range is active until its End
  abbrev pub AreActive : D → ℕ → ℕ → Type 0
  AreActive database first clients = (n : ℕ) → IsAmong first clients n → HasNotEnded (own_entries client_in n (trace_of database)) → active_of database n

module _ {D : Type 0} (setting_of : D → Setting → Type 0) (opened_of : D → Setting → Contents → Type 0) (trace_of : D → List Event) (serves_of : D → ℕ → Op → Type 0) (active_of : D → ℕ → Type 0) where
  -- The new database has the setting and the contents at opening of the old one, and serves what the old one served. Its trace extends the
  -- old one by events of clients in this range. The other clients stay active if they were
  pub record IsKept (old new : D) (first clients : ℕ) : Type 0 where
    pub setting : (setting : Setting) → setting_of old setting → setting_of new setting
    pub opened : (setting : Setting) (contents : Contents) → opened_of old setting contents → opened_of new setting contents
    pub serves : (client : ℕ) (op : Op) → serves_of old client op → serves_of new client op
    pub grows : GoesOnBy first clients (trace_of old) (trace_of new)
    pub others : (client : ℕ) → ¬ IsAmong first clients client → active_of old client → active_of new client

  -- the database evolved from the initial one of the run, and the clients of the run are active until they end
  abbrev pub IsServed : D → Start D → Type 0
  IsServed database start = IsKept start.database.value database start.first start.clients × AreActive trace_of active_of database start.first start.clients
