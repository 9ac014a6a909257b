-- Changes of rows that can be undone: the rows after the undo, and which overlay and copies of the machine's definition a list of changes represents.
use Rattle.std.specs.Prelude.{◌≡◌, ℕ, ◌≤◌, ◌==◌, Bool, false, ◌||◌, if◌then◌else◌, List, [], ◌∷◌, take, drop, Option, Some, None}
use Rattle.std.specs.FinMap.{get}
use Rattle.database_meaning.specs.declared.state.StoredRow.{StoredRow}
use Rattle.database_meaning.specs.State.{Overlay}
use Rattle.row_store.specs.declared.store.RowChange.{RowChange}

-- the row at each identity
abbrev pub RowsById : Type 0
RowsById = ℕ → Option StoredRow

-- the rows, with this at one identity
abbrev pub with_row : RowsById → ℕ → Option StoredRow → RowsById
with_row rows at row k = if k == at then row else rows k

-- the rows, with these changes undone, the last of them first
abbrev pub undone : List RowChange → RowsById → RowsById
undone [] rows = rows
undone (change ∷ later) rows = with_row (undone later rows) change.row change.old

-- one of these changes is of this row
abbrev pub has_change : List RowChange → ℕ → Bool
has_change [] k = false
has_change (change ∷ later) k = (k == change.row) || has_change later k

-- the overlay of these changes at an identity: the present row, where one of them is of it
abbrev pub change_at : RowsById → List RowChange → ℕ → Option (Option StoredRow)
change_at rows changes k = if has_change changes k then Some (rows k) else None

-- the overlay when the list had this length: the present one with the later changes undone
abbrev pub copy_at : RowsById → List RowChange → ℕ → ℕ → Option (Option StoredRow)
copy_at rows changes mark = change_at (undone (drop mark changes) rows) (take mark changes)

abbrev pub IsOverlay : Overlay → (ℕ → Option (Option StoredRow)) → Type 0
IsOverlay overlay change = (k : ℕ) → get overlay k ≡ change k

-- the copies of the levels are those of these marks, the outermost first
abbrev pub AreCopies : RowsById → List RowChange → List ℕ → List Overlay → Type 0
AreCopies rows changes [] [] = Unit {0}
AreCopies rows changes (mark ∷ marks) (copy ∷ copies) = IsOverlay copy (copy_at rows changes mark) × AreCopies rows changes marks copies
AreCopies rows changes _ _ = ⊥

-- the marks never fall, and lie between these two
abbrev pub AreMarks : ℕ → List ℕ → ℕ → Type 0
AreMarks low [] high = low ≤ high
AreMarks low (mark ∷ marks) high = (low ≤ mark) × AreMarks mark marks high
