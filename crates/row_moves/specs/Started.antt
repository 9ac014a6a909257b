-- A change of a row whose moves that enter are made.
use Rattle.std.specs.Prelude.{◌≡◌, ℕ, List, take, drop}
use Rattle.row_indexes.specs.declared.moves.Move.{Move}
use Rattle.row_indexes.specs.Places.{AreWithin, Keepers, Places}
use Rattle.row_indexes.specs.Making.{CanMake, kept_after, made}
use Rattle.row_indexes.specs.declared.index_changes.entering.Before.{Before}
use Rattle.row_indexes.specs.index_changes.Entering.{AreBefore}
use Rattle.row_indexes.specs.index_changes.Leaving.{AreLeaves}

-- the first moves are made, as many as enter, the others can be made, and what was before is known
pub record IsStarted (client row count enters : ℕ) (moves : List Move) (before : List Before) (old : Places) (old_keepers : Keepers) (new : Places) (new_keepers : Keepers) : Type 0 where
  pub was : AreBefore client row (take enters moves) before old old_keepers
  pub entered : CanMake client row (take enters moves) old old_keepers
  pub places : new ≡ made client row (take enters moves) old
  pub keepers : new_keepers ≡ kept_after client (take enters moves) old_keepers
  pub within_first : AreWithin count (take enters moves)
  pub within : AreWithin count (drop enters moves)
  pub rest : CanMake client row (drop enters moves) new new_keepers
  pub leaves : AreLeaves (drop enters moves)
