-- One key of an index: its rows, and its keeper.
use Rattle.std.specs.Prelude.{◌≡◌, ◌≢◌, ◌⊎◌, ℕ, Bool, if◌then◌else◌, Option, Some, None, IsSome}
use Rattle.std.specs.FinMap as map
use Rattle.key_index.specs.declared.index.Node.{Node}
use Rattle.key_index.specs.Places.{HasLeft, without_keeper, without_left}

-- no row, and no keeper
abbrev pub no_node : Node
no_node = record { rows = map.empty; keeper = None }

-- after an entry
abbrev pub node_entered : Node → ℕ → ℕ → Bool → Node
node_entered node client row unique = record { rows = map.insert node.rows row None; keeper = if unique then Some client else node.keeper }

-- after the client left it
abbrev pub node_left : Node → ℕ → ℕ → Bool → Node
node_left node client row unique = record { rows = map.insert node.rows row (Some client); keeper = if unique then Some client else node.keeper }

-- after a row is taken out, with this keeper
pub record IsNodeForgotten (row : ℕ) (keeper : Option ℕ) (old new : Node) : Type 0 where
  pub place : map.get new.rows row ≡ None
  pub rows : (other : ℕ) → other ≢ row → map.get new.rows other ≡ map.get old.rows other
  pub keeper_is : new.keeper ≡ keeper

-- after the client's end: its placeholders and its keeping are gone
pub record IsNodeEnded (client : ℕ) (old new : Node) : Type 0 where
  pub rows : (row : ℕ) → map.get new.rows row ≡ without_left client (map.get old.rows row)
  pub keeper : new.keeper ≡ without_keeper client old.keeper

-- the key has no row and no keeper
pub record IsBare (node : Node) : Type 0 where
  pub rows : (row : ℕ) → map.get node.rows row ≡ None
  pub keeper : node.keeper ≡ None

-- a client keeps the key, or left a row under it
abbrev pub IsTouched : Node → Type 0
IsTouched node = IsSome node.keeper ⊎ HasLeft node.rows
