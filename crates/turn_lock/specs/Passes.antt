-- What contracts see of a pass, and of the passes in hand.
use Rattle.std.specs.Prelude.{◌≡◌, ℕ, zero, suc, ◌+◌, List, [], ◌∷◌, ◌++◌}
use Rattle.turn_lock.specs.Shared.{Lock}

-- the pass of one client of a lock, with the client's own entries
pub record ClientPass (T E : Type 0) : Type 0 where
  pub lock : Lock T
  pub client : ℕ
  pub list : List E

-- the passes of a lock that are in hand, in order
pub record PassList (T E : Type 0) : Type 0 where
  pub lock : Lock T
  pub passes : List (ClientPass T E)

module _ {T E : Type 0} where
  -- the pass is of this lock
  abbrev pub IsPassOf : Lock T → ClientPass T E → Type 0
  IsPassOf lock p = p.lock ≡ lock

  -- the passes of the given number of clients from the first on, in order, with no entry yet
  abbrev pub passes_from : Lock T → ℕ → ℕ → List (ClientPass T E)
  passes_from lock first zero = []
  passes_from lock first (suc k) = passes_from lock first k ++ record { lock = lock; client = first + k; list = [] } ∷ []
