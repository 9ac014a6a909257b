-- The state of the database machine.
use Rattle.std.specs.Prelude.{◌≡◌, ℕ, zero, suc, Bool, true, List, length, Option, Some, None, ℤ}
use Rattle.std.specs.Ordering.{nat_cmp}
use Rattle.std.specs.FinMap.{FinMap, get}
use Rattle.database_meaning.specs.declared.state.StoredRow.{StoredRow}
use Rattle.database_meaning.specs.declared.state.Key.{Key}
use Rattle.database_meaning.specs.declared.state.BlockedRequest.{BlockedRequest}
use Rattle.database_meaning.specs.Setting.{Setting}

-- rows by their identities
abbrev pub Rows : Type 0
Rows = FinMap nat_cmp StoredRow

-- what a client changed: at each identity the new row, or None where the row is deleted
abbrev pub Overlay : Type 0
Overlay = FinMap nat_cmp (Option StoredRow)

-- the rows that a client holds, with true where it holds them exclusively
abbrev pub Held : Type 0
Held = FinMap nat_cmp Bool

-- a client
pub record Client : Type 0 where
  pub overlay : Overlay  -- empty where no level is open
  pub levels : List Overlay  -- for each open level a whole copy of the overlay as it stood at the level's Enter, the outermost first
  pub reserved_keys : List Key  -- the unique keys that its open transaction entered, left or deleted
  pub drawn : ℕ  -- the fragments that its open transaction drew, with those that a Back took back
  pub written : ℕ  -- the slot writes of its open transaction, with those that a Back took back
  pub held : Held
  pub blocked : Option BlockedRequest

pub record State : Type 0 where
  pub committed : Rows
  pub sequences : List ℤ
  pub client : ℕ → Client
  pub frees : ℕ  -- how many steps freed a lock or a reserved key; a lock that became share counts as freed
  pub size : ℕ  -- the counted bytes of the trace so far
  pub closed : Bool

-- a change covers what lies below it
abbrev pub over : Option (Option StoredRow) → Option StoredRow → Option StoredRow
over None below = below
over (Some change) below = change

-- the overlays of the first n clients laid over the rows
abbrev pub laid : ℕ → (ℕ → Client) → Rows → ℕ → Option StoredRow
laid zero client rows row = get rows row
laid (suc n) client rows row = over (get (client n).overlay row) (laid n client rows row)

-- the view: the row at an identity as everyone sees it, uncommitted changes of others included
abbrev pub view : Setting → State → ℕ → Option StoredRow
view f s row = laid f.clients s.client s.committed row

-- the client's lock on the row: None, or true where it is exclusive
abbrev pub lock_of : State → ℕ → ℕ → Option Bool
lock_of s c row = get (s.client c).held row

-- how many levels the client has open; the transaction is level 1
abbrev pub depth_of : State → ℕ → ℕ
depth_of s c = length (s.client c).levels

abbrev pub HoldsExclusively : State → ℕ → ℕ → Type 0
HoldsExclusively s c row = lock_of s c row ≡ Some true
