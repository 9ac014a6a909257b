-- The open levels and the exclusive locks of the clients. They depend on no row: the control data know them, whatever the store says.
use Rattle.std.specs.Prelude.{◌≡◌, ℕ, Bool, false, Option, Some, None}
use Rattle.database_meaning.specs.State.{State, depth_of, lock_of}

abbrev pub is_exclusive : Option Bool → Bool
is_exclusive None = false
is_exclusive (Some exclusive) = exclusive

-- in both states each client has the same number of open levels, and holds the same rows exclusively
pub record SameLevels (s t : State) : Type 0 where
  pub depth : (c : ℕ) → depth_of s c ≡ depth_of t c
  pub exclusive : (c row : ℕ) → is_exclusive (lock_of s c row) ≡ is_exclusive (lock_of t c row)
