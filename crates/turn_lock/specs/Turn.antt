-- What contracts see of a turn.
use Rattle.std.specs.Prelude.{ℕ, List}
use Rattle.turn_lock.specs.Shared.{Lock}

-- the turn of one client of a lock, with the list of the value that was taken
pub record ClientTurn (T E : Type 0) : Type 0 where
  pub lock : Lock T
  pub client : ℕ
  pub taken : List E
