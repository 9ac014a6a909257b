-- The moves of several changes of a transaction.
use Rattle.std.specs.Prelude.{◌≡◌, ◌⊎◌, ℕ, List, [], ◌∷◌}
use Rattle.row_indexes.specs.declared.moves.Moved.{Moved}
use Rattle.row_indexes.specs.Places.{AreKept, AreWithin, CanUndo, Keepers, Places, undone}

-- the places, with these changes undone, the last of them first
abbrev pub all_undone : ℕ → List Moved → Places → Places
all_undone client [] places = places
all_undone client (change ∷ later) places = undone client change.row change.moves.items (all_undone client later places)

-- each of them can be undone when those after it are
abbrev pub CanUndoAll : ℕ → List Moved → Places → Type 0
CanUndoAll client [] places = Unit {0}
CanUndoAll client (change ∷ later) places =
    CanUndoAll client later places × CanUndo client change.row change.moves.items (all_undone client later places)

abbrev pub AreAllKept : ℕ → List Moved → Keepers → Type 0
AreAllKept client [] keepers = Unit {0}
AreAllKept client (change ∷ later) keepers = AreKept client change.moves.items keepers × AreAllKept client later keepers

abbrev pub AreAllWithin : ℕ → List Moved → Type 0
AreAllWithin count [] = Unit {0}
AreAllWithin count (change ∷ later) = AreWithin count change.moves.items × AreAllWithin count later

-- one of the changes is of the row
abbrev pub IsOfRow : List Moved → ℕ → Type 0
IsOfRow [] row = ⊥
IsOfRow (change ∷ later) row = (row ≡ change.row) ⊎ IsOfRow later row
