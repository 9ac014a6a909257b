-- Moves of one row that leave, each in an index of its own.
use Rattle.std.specs.Prelude.{◌≡◌, ℕ, ◌<◌, ◌≤◌, ◌+◌, false, List, [], ◌∷◌, Some, None, IsTrue}
use Rattle.row_indexes.specs.declared.moves.Move.{Move}
use Rattle.row_indexes.specs.Places.{Keepers, Places}

-- each of the moves leaves
abbrev pub AreLeaves : List Move → Type 0
AreLeaves [] = Unit {0}
AreLeaves (m ∷ later) = (m.entered ≡ false) × AreLeaves later

-- the move leaves one of the first `count` indexes, where the row has an entry, and no other client keeps its unique key
pub record CanLeave (client row count : ℕ) (m : Move) (places : Places) (keepers : Keepers) : Type 0 where
  pub within : m.index < count
  pub leaves : m.entered ≡ false
  pub entry : places m.index m.key row ≡ Some None
  pub unkept : IsTrue m.unique → (other : ℕ) → keepers m.index m.key ≡ Some other → other ≡ client

-- each can be made, and their indexes ascend from `lowest` on
abbrev pub CanLeaveAll : ℕ → ℕ → ℕ → ℕ → List Move → Places → Keepers → Type 0
CanLeaveAll client row count lowest [] places keepers = Unit {0}
CanLeaveAll client row count lowest (m ∷ later) places keepers =
    (lowest ≤ m.index) × (CanLeave client row count m places keepers × CanLeaveAll client row count (m.index + 1) later places keepers)
