-- What holds between two calls of rows in slots, and of the changes that can be undone.
use Rattle.std.specs.Prelude.{◌≡◌, ◌≢◌, ℕ, zero, suc, ◌≤◌, ◌==◌, ◌||◌, Bool, true, false, List, [], ◌∷◌, length}
use Rattle.std.specs.Coded.{×_prop, Unit-prop, le_prop, coded_ℕ, Coded-set}
use Rattle.storage.specs.Slots.{SlotState, IsReadable, wrote}
use Rattle.row_fragments.specs.Fragments.{ends}
use Rattle.abl_values.specs.Schema.{SchemaData}
use Rattle.database_meaning.specs.Setting.{fragments}
use Rattle.row_store.specs.declared.store.RowChange.{RowChange}
use Rattle.row_store.specs.Changes.{RowsById, has_change, undone}
use Rattle.slot_rows.specs.declared.log.Undone.{Undone}
use Rattle.slot_rows.specs.Chained.{HoldRows}
use Rattle.slot_rows.specs.Decoded.{decoded}
use Rattle.slot_rows.specs.Mixes.{IsMixed, rows_of, slots_of}

-- the changes of rows that a log has
abbrev pub changes_of : List Undone → List RowChange
changes_of [] = []
changes_of (u ∷ later) = record { row = u.row; old = u.old } ∷ changes_of later

-- each change notes the fragments of its row before it and, with the later changes undone, after it; no row has more than 125
abbrev pub AreWeighed : List Undone → RowsById → Type 0
AreWeighed [] rows = Unit {0}
AreWeighed (u ∷ later) rows = (u.before ≡ fragments u.old) × (u.after ≡ fragments (undone (changes_of later) rows u.row)) × (u.after ≤ 125) × (u.row ≤ 1048575) × AreWeighed later rows

pub AreWeighed-prop : (log : List Undone) (rows : RowsById) → IsProp (AreWeighed log rows)
AreWeighed-prop [] rows = Unit-prop
AreWeighed-prop (u ∷ later) rows = λ x y i. (
  Coded-set coded_ℕ u.before (fragments u.old) x.0 y.0 i,
  Coded-set coded_ℕ u.after (fragments (undone (changes_of later) rows u.row)) x.1 y.1 i,
  le_prop x.2 y.2 i,
  le_prop x.3 y.3 i,
  AreWeighed-prop later rows x.4 y.4 i,
)

-- how many writes of slots came before the change with this number; all of them where there is no such change
abbrev pub mark_or : List Undone → ℕ → ℕ → ℕ
mark_or [] number all = all
mark_or (u ∷ later) zero all = u.mark
mark_or (u ∷ later) (suc n) all = mark_or later n all

-- the marks never fall, and lie between these two
abbrev pub AreMarks : ℕ → List Undone → ℕ → Type 0
AreMarks low [] high = low ≤ high
AreMarks low (u ∷ later) high = (low ≤ u.mark) × AreMarks u.mark later high

pub AreMarks-prop : (low : ℕ) (log : List Undone) (high : ℕ) → IsProp (AreMarks low log high)
AreMarks-prop low [] high = le_prop
AreMarks-prop low (u ∷ later) high = ×_prop le_prop (AreMarks-prop u.mark later high)

-- the mark of the client's change with that number
abbrev pub mark_in : SlotState → (ℕ → List Undone) → (ℕ → ℕ) → ℕ → ℕ
mark_in s log at c = mark_or (log c) (at c) (length (s.transaction c).undo)

abbrev pub has : List ℕ → ℕ → Bool
has [] k = false
has (row ∷ later) k = (k == row) || has later k

-- `log` has each client's changes that can be undone, `touched` the rows that it changed, undone changes included
pub record IsStored (schema : SchemaData) (s : SlotState) (log : ℕ → List Undone) (touched : ℕ → List ℕ) : Type 0 where
  pub marks : s.failed ≡ false → (c : ℕ) → AreMarks 0 (log c) (length (s.transaction c).undo)
  pub first : s.failed ≡ false → (c : ℕ) → mark_or (log c) 0 (length (s.transaction c).undo) ≡ 0
  -- slots outside those for rows are written by no change of a row
  pub low : s.failed ≡ false → (c k : ℕ) → ends k ≡ true → wrote (s.transaction c).undo k ≡ false
  -- a row that a client changed was written by it
  pub written : s.failed ≡ false → (c k : ℕ) → has (touched c) k ≡ true → (s.transaction c).written k ≡ true
  pub kept : (c k : ℕ) → has_change (changes_of (log c)) k ≡ true → has (touched c) k ≡ true
  pub apart : (c d k : ℕ) → c ≢ d → has (touched c) k ≡ true → has (touched d) k ≡ false
  pub idle : (c : ℕ) → (s.transaction c).begun ≡ false → (log c ≡ []) × (touched c ≡ [])
  -- wherever clients go back to, the rows are those with their later changes undone, in chains
  pub mixes : IsReadable s → (at : ℕ → ℕ) (slots : ℕ → List ℕ) → IsMixed (slots_of s) (mark_in s log at) slots
      → IsMixed (rows_of (λ c. changes_of (log c)) (decoded schema s.reads)) at (decoded schema slots) × HoldRows schema slots
  pub weighed : IsReadable s → (c : ℕ) → AreWeighed (log c) (decoded schema s.reads)
  -- with all writes undone the slots are those that are committed
  pub base : IsReadable s → IsMixed (slots_of s) (λ c. 0) s.committed
