-- What the places and keepers were before moves that enter.
use Rattle.std.specs.Prelude.{◌≡◌, ◌++◌, ℕ, if◌then◌else◌, List, [], ◌∷◌, Some, None, IsTrue}
use Rattle.row_indexes.specs.declared.moves.Move.{Move}
use Rattle.row_indexes.specs.Places.{Keepers, Places, owner_after, with_place}
use Rattle.row_indexes.specs.Making.{with_keeper}
use Rattle.row_indexes.specs.declared.index_changes.entering.Before.{Before}

-- the move enters; before it the place was empty or had the client's placeholder, and the key had this keeper: the client, where it had left a unique key
pub record IsBefore (client row : ℕ) (m : Move) (was : Before) (places : Places) (keepers : Keepers) : Type 0 where
  pub entered : IsTrue m.entered
  pub place : places m.index m.key row ≡ (if was.left then Some (Some client) else None)
  pub keeper : keepers m.index m.key ≡ was.keeper
  pub own : IsTrue was.left → IsTrue m.unique → was.keeper ≡ Some client

-- of each move in turn, when those before it are made
abbrev pub AreBefore : ℕ → ℕ → List Move → List Before → Places → Keepers → Type 0
AreBefore client row [] [] places keepers = Unit {0}
AreBefore client row [] (was ∷ others) places keepers = ⊥
AreBefore client row (m ∷ later) [] places keepers = ⊥
AreBefore client row (m ∷ later) (was ∷ others) places keepers =
    IsBefore client row m was places keepers × AreBefore client row later others (with_place places m row (owner_after client m)) (with_keeper keepers m client)

-- the list got these at its end
pub record Notes (client row : ℕ) (moves : List Move) (places : Places) (keepers : Keepers) (old new : List Before) : Type 0 where
  pub more : List Before
  pub is : new ≡ old ++ more
  pub before : AreBefore client row moves more places keepers
