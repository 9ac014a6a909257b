-- The laws of every legal trace.
use Rattle.std.specs.Prelude.{IsTrue, ◌≡◌, ◌≢◌, ◌⊎◌, ◌<◌, ◌++◌, ◌∷◌, [], ℕ, List, Bool, true, false, Option, Some, None}
use Rattle.std.specs.FinMap.{get}
use Rattle.abl_base.specs.declared.value.Value.{Value}
use Rattle.abl_base.specs.declared.row.RowId.{RowId}
use Rattle.database_meaning.specs.declared.state.StoredRow.{StoredRow}
use Rattle.database_meaning.specs.declared.state.Key.{Key}
use Rattle.database_meaning.specs.declared.contents.Contents.{Contents}
use Rattle.database_protocol.specs.declared.event.Event.{Event}
use Rattle.database_protocol.specs.declared.operation.Op.{Op}
use Rattle.database_protocol.specs.declared.operation.Op.TheVariants.{Get, End}
use Rattle.database_protocol.specs.declared.answer.Answer.{Answer}
use Rattle.database_protocol.specs.declared.answer.Answer.TheVariants.{Row as RowAnswer, Inserted, Committed, Deadlock, TraceFull}
use Rattle.database_meaning.specs.Setting.{Setting, has_key}
use Rattle.database_meaning.specs.State.{State, view, lock_of, depth_of}
use Rattle.database_meaning.specs.Waiting.{HasNoCycle, WaitsFor, row_in}
use Rattle.database_meaning.specs.Answers.{ByTable}
use Rattle.database_meaning.specs.Fits.{Fits}
use Rattle.database_meaning.specs.Traces.{HasUniqueKeys, IsLegal, left_by, is_committed}

-- ---- locks and overlays

-- a row that one client holds exclusively is held by no other
abbrev pub IsExclusive : State → Type 0
IsExclusive s = (c d row : ℕ) → c ≢ d → lock_of s c row ≡ Some true → lock_of s d row ≡ None

-- no row is in the overlays of two clients
abbrev pub HasApartOverlays : State → Type 0
HasApartOverlays s = (c d row : ℕ) (change : Option StoredRow) → c ≢ d → get (s.client c).overlay row ≡ Some change → get (s.client d).overlay row ≡ None

-- ---- keys

-- no two clients keep one key
abbrev pub HasApartKeys : State → Type 0
HasApartKeys s = (c d : ℕ) (k : Key) → c ≢ d → IsTrue (has_key (s.client c).reserved_keys k) → ¬ IsTrue (has_key (s.client d).reserved_keys k)

-- ---- locked reads

-- an event that neither ends nor commits the client's transaction
abbrev pub StaysOpen : ℕ → Event → Type 0
StaysOpen c e = e.client ≡ c → (e.op ≢ End) × (is_committed e.answer ≡ false)

abbrev pub AllStayOpen : ℕ → List Event → Type 0
AllStayOpen c [] = Unit {0}
AllStayOpen c (e ∷ es) = StaysOpen c e × AllStayOpen c es

-- the client has a lock on the row inside a transaction
abbrev pub HasLockInside : State → ℕ → ℕ → Type 0
HasLockInside s c row = (0 < depth_of s c) × (exclusive : Bool) × (lock_of s c row ≡ Some exclusive)

abbrev pub read_event : ℕ → ℕ → RowId → List Value → Event
read_event c table row values = record { client = c; op = Get table row; answer = RowAnswer values }

-- what a client reads under a lock inside a transaction is what its own overlay then has for the row, or what is
-- committed for the row at each later moment up to just before that transaction's commit
abbrev pub ReadsAsCommitted : Setting → Contents → Type 0
ReadsAsCommitted f contents =
    (before later : List Event) (c table : ℕ) (row : RowId) (values : List Value)
    → IsLegal f contents (before ++ read_event c table row values ∷ later)
    → HasLockInside (left_by f contents before) c row.0
    → AllStayOpen c later
    → (get ((left_by f contents before).client c).overlay row.0 ≡ Some (row_in table values))
    ⊎ (get (left_by f contents (before ++ read_event c table row values ∷ later)).committed row.0 ≡ row_in table values)

-- ---- each moment of a trace

-- no client waits for itself, directly or over others; exclusive locks, overlays and reserved keys of different clients
-- are apart; no two committed rows have one unique key
pub record IsIsolated (f : Setting) (s : State) : Type 0 where
  pub no_cycle : HasNoCycle (WaitsFor f s)
  pub exclusive : IsExclusive s
  pub overlays : HasApartOverlays s
  pub reserved_keys : HasApartKeys s
  pub committed : HasUniqueKeys f s.committed

-- it holds at each moment of the trace, and at each moment up to its transaction's commit a locked read is as ReadsAsCommitted says
pub record IsIsolatedThroughout (f : Setting) (contents : Contents) (trace : List Event) : Type 0 where
  pub moments : (before later : List Event) → trace ≡ before ++ later → IsIsolated f (left_by f contents before)
  pub reads :
      (before open_still later : List Event) (c table : ℕ) (row : RowId) (values : List Value)
      → trace ≡ before ++ read_event c table row values ∷ open_still ++ later
      → HasLockInside (left_by f contents before) c row.0
      → AllStayOpen c open_still
      → (get ((left_by f contents before).client c).overlay row.0 ≡ Some (row_in table values))
      ⊎ (get (left_by f contents (before ++ read_event c table row values ∷ open_still)).committed row.0 ≡ row_in table values)

-- ---- answers

-- the answer of each event of a legal trace fits its operation
abbrev pub AnswersFit : Setting → Contents → Type 0
AnswersFit f contents = (before later : List Event) (e : Event) → IsLegal f contents (before ++ e ∷ later) → Fits f.schema e.op e.answer

-- rows, locks, reserved keys, levels and sequences are as before
pub record IsUnchanged (f : Setting) (old new : State) : Type 0 where
  pub committed : new.committed ≡ old.committed
  pub rows : (row : ℕ) → view f new row ≡ view f old row
  pub overlays : (c : ℕ) → (new.client c).overlay ≡ (old.client c).overlay
  pub levels : (c : ℕ) → (new.client c).levels ≡ (old.client c).levels
  pub locks : (c : ℕ) → (new.client c).held ≡ (old.client c).held
  pub reserved_keys : (c : ℕ) → (new.client c).reserved_keys ≡ (old.client c).reserved_keys
  pub sequences : new.sequences ≡ old.sequences
  pub frees : new.frees ≡ old.frees

-- where the table leaves a choice: the row of an Insert, the moment of a commit, and which of several cycles is answered.
-- Near the end of the trace one cycle may have room and another may not
abbrev pub IsChoice : Answer → Answer → Type 0
IsChoice (Inserted row) (Inserted other) = Unit {0}
IsChoice (Committed moment) (Committed other) = Unit {0}
IsChoice (Deadlock cycle) (Deadlock other) = Unit {0}
IsChoice (Deadlock cycle) TraceFull = Unit {0}
IsChoice TraceFull (Deadlock cycle) = Unit {0}
IsChoice _ _ = ⊥

-- the table allows one answer, save for these choices
abbrev pub HasOneAnswer : Setting → State → Type 0
HasOneAnswer f s = (c : ℕ) (op : Op) (a b : Answer) → ByTable f s c op a → ByTable f s c op b → (a ≡ b) ⊎ IsChoice a b
