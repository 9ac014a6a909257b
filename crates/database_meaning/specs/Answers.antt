-- Which answers an operation may have. They are given by a table, and the first row that applies decides.
use Rattle.std.specs.Prelude.{◌≡◌, ◌≢◌, ◌⊎◌, ◌+◌, ◌<◌, ◌≤◌, ℕ, IsTrue, List, length, Option, Some, None, ℤ, pos, ◌+ℤ◌, FitsSigned, slice_index_or}
use Rattle.std.specs.Int.{w64}
use Rattle.std.specs.List.{All}
use Rattle.std.specs.FinMap.{get}
use Rattle.abl_base.specs.declared.value.Value.{Value}
use Rattle.abl_base.specs.declared.row.RowId.{RowId}
use Rattle.abl_values.specs.Schema.{SchemaData}
use Rattle.database_meaning.specs.declared.state.StoredRow.{StoredRow}
use Rattle.database_meaning.specs.declared.state.Key.{Key}
use Rattle.abl_base.specs.declared.limits.TheConstants.{MAX_ROW_BYTES, MAX_KEY_BYTES, FIRST_ROW, ROW_LIMIT, MAX_FRAGMENTS, MAX_SLOT_WRITES}
use Rattle.database_protocol.specs.declared.operation.Op.{Op}
use Rattle.database_protocol.specs.declared.operation.Op.TheVariants.{Enter, Leave, Back, Next, Get, Lock, Insert, Put, Delete, Drop as DropLock, NextValue, CurrentValue, End}
use Rattle.database_protocol.specs.declared.answer.Answer.{Answer}
use Rattle.database_protocol.specs.declared.answer.Answer.TheVariants.{Refused, Closed, TraceFull, Gone, KeyTooLong, Busy, Blocked, Deadlock, Duplicate, Full, TxFull, SequenceEnd, AtEnd, NoMemory, Done, Committed, Found, Row as RowAnswer, Granted, Inserted, Value as ValueAnswer}
use Rattle.database_meaning.specs.Setting.{Setting, unique_keys, has_key, row_size, HasTable, HasIndex, HasSequence, FitsTable, key_in, increment_of}
use Rattle.database_meaning.specs.State.{State, view, lock_of, depth_of, HoldsExclusively}
use Rattle.database_meaning.specs.Waiting.{row_in, HasConflict, IsHolders, Closes, IsCycle}
use Rattle.database_meaning.specs.Search.{FindsNone, IsNext}
use Rattle.database_meaning.specs.Counts.{draws, writes, used, HasRoom}

-- one row of the table: if it applies it decides the answer, else the rows below decide
infixr 1 when◌comes◌otherwise◌
abbrev pub when◌comes◌otherwise◌ : Type 0 → Type 0 → Type 0 → Type 0
when applies comes answer otherwise below = (applies × answer) ⊎ (¬ applies × below)

-- ---- Refused

-- the values are a row of the table, of at most 30,000 bytes
abbrev pub FitsRow : Setting → ℕ → List Value → Type 0
FitsRow f table values = FitsTable f.schema table values × (row_size values ≤ MAX_ROW_BYTES)

abbrev pub HasOrder : Setting → ℕ → Option ℕ → Type 0
HasOrder f table None = Unit {0}
HasOrder f table (Some index) = HasIndex f.schema table index

-- the operation names what there is, and its level, lock and values are right
abbrev pub IsWellFormed : Setting → State → ℕ → Op → Type 0
IsWellFormed f s c Enter = Unit {0}
IsWellFormed f s c (Leave keep) = 0 < depth_of s c
IsWellFormed f s c (Back depth) = (0 < depth) × (depth ≤ depth_of s c)
IsWellFormed f s c (Next table index prefix cursor forward) = HasTable f.schema table × HasOrder f table index
IsWellFormed f s c (Get table row) = HasTable f.schema table
IsWellFormed f s c (Lock table row exclusive wait) = HasTable f.schema table
IsWellFormed f s c (Insert table values) = HasTable f.schema table × FitsRow f table values × (0 < depth_of s c)
IsWellFormed f s c (Put table row values) = HasTable f.schema table × FitsRow f table values × (0 < depth_of s c) × HoldsExclusively s c row.0
IsWellFormed f s c (Delete table row) = HasTable f.schema table × (0 < depth_of s c) × HoldsExclusively s c row.0
IsWellFormed f s c (DropLock row) = Unit {0}
IsWellFormed f s c (NextValue sequence) = HasSequence f.schema sequence
IsWellFormed f s c (CurrentValue sequence) = HasSequence f.schema sequence
IsWellFormed f s c End = Unit {0}

-- the client asks its blocked request again, and nothing was freed since it was answered Blocked
abbrev pub AsksAgain : State → ℕ → Op → Type 0
AsksAgain s c op = (s.client c).blocked ≡ Some (record { op = op; frees = s.frees })

abbrev pub IsRefused : Setting → State → ℕ → Op → Type 0
IsRefused f s c op = ¬ ((c < f.clients) × IsWellFormed f s c op × ¬ AsksAgain s c op)

-- ---- Gone

-- the view has a row of that table there
abbrev pub IsThere : Setting → State → ℕ → ℕ → Type 0
IsThere f s table row = (r : StoredRow) × (view f s row ≡ Some r) × (r.table ≡ table)

abbrev pub IsGone : Setting → State → ℕ → Op → Type 0
IsGone f s c (Get table row) = ¬ IsThere f s table row.0
IsGone f s c (Put table row values) = ¬ IsThere f s table row.0
IsGone f s c (Delete table row) = ¬ IsThere f s table row.0
IsGone f s c (Lock table row exclusive wait) = ¬ IsThere f s table row.0 × ¬ HasConflict f s c (Lock table row exclusive wait)
IsGone f s c _ = ⊥

-- ---- KeyTooLong

-- the row that an Insert or Put enters
abbrev pub entered : Op → Option StoredRow
entered (Insert table values) = row_in table values
entered (Put table row values) = row_in table values
entered _ = None

abbrev pub HasLongKey : Setting → StoredRow → ℕ → Type 0
HasLongKey f row index = HasIndex f.schema row.table index × (MAX_KEY_BYTES < length (key_in f.schema row.table index row.values))

-- the index is the least one in which the row's key is too long
abbrev pub IsFirstLongKey : Setting → Option StoredRow → ℕ → Type 0
IsFirstLongKey f None index = ⊥
IsFirstLongKey f (Some row) index = HasLongKey f row index × ((j : ℕ) → j < index → ¬ HasLongKey f row j)

abbrev pub HasTooLongKey : Setting → Op → Type 0
HasTooLongKey f op = (index : ℕ) × IsFirstLongKey f (entered op) index

-- ---- Busy, Blocked, Deadlock

-- a Lock that waits, an Insert or a Put
abbrev pub MayWait : Op → Type 0
MayWait (Lock table row exclusive wait) = IsTrue wait
MayWait (Insert table values) = Unit {0}
MayWait (Put table row values) = Unit {0}
MayWait _ = ⊥

-- ---- Duplicate

-- the row that a Put replaces
abbrev pub own_row : Op → Option RowId
own_row (Put table row values) = Some row
own_row _ = None

-- a row other than the replaced one has a unique key of the new row, in this index. The rows are a function of the identity
abbrev pub IsDuplicateIn : SchemaData → (ℕ → Option StoredRow) → Option RowId → Option StoredRow → ℕ → RowId → Type 0
IsDuplicateIn schema rows replaced new index row =
    (k : Key) × (k.index ≡ index) × IsTrue (has_key (unique_keys schema new) k) × (replaced ≢ Some row) × IsTrue (has_key (unique_keys schema (rows row.0)) k)

-- such a row of the view
abbrev pub HasDuplicate : Setting → State → Op → ℕ → RowId → Type 0
HasDuplicate f s op index row = IsDuplicateIn f.schema (view f s) (own_row op) (entered op) index row

-- the index is the least one with such a row
abbrev pub IsFirstDuplicate : Setting → State → Op → ℕ → RowId → Type 0
IsFirstDuplicate f s op index row = HasDuplicate f s op index row × ((j : ℕ) (other : RowId) → j < index → ¬ HasDuplicate f s op j other)

abbrev pub HasDuplicates : Setting → State → Op → Type 0
HasDuplicates f s op = (index : ℕ) × (row : RowId) × IsFirstDuplicate f s op index row

-- ---- Full, TxFull

-- an Insert or Put
abbrev pub IsDrawing : Op → Type 0
IsDrawing (Insert table values) = Unit {0}
IsDrawing (Put table row values) = Unit {0}
IsDrawing _ = ⊥

-- an Insert, Put or Delete
abbrev pub IsWrite : Op → Type 0
IsWrite (Insert table values) = Unit {0}
IsWrite (Put table row values) = Unit {0}
IsWrite (Delete table row) = Unit {0}
IsWrite _ = ⊥

abbrev pub DrawsTooMany : Setting → State → Op → Type 0
DrawsTooMany f s op = IsDrawing op × (MAX_FRAGMENTS < used f s + draws f s op)

abbrev pub WritesTooMany : Setting → State → ℕ → Op → Type 0
WritesTooMany f s c op = IsWrite op × (MAX_SLOT_WRITES < (s.client c).written + writes f s op)

-- ---- SequenceEnd, AtEnd

abbrev pub current_value : State → ℕ → ℤ
current_value s sequence = slice_index_or s.sequences sequence (pos 0)

abbrev pub next_value : Setting → State → ℕ → ℤ
next_value f s sequence = current_value s sequence +ℤ increment_of f.schema sequence

abbrev pub IsI64 : ℤ → Type 0
IsI64 v = FitsSigned w64 v

abbrev pub PassesEnd : Setting → State → Op → Type 0
PassesEnd f s op = (sequence : ℕ) × (op ≡ NextValue sequence) × ¬ IsI64 (next_value f s sequence)

abbrev pub IsNextOp : Op → Type 0
IsNextOp (Next table index prefix cursor forward) = Unit {0}
IsNextOp _ = ⊥

-- ---- successes

-- an identity that a new row may have: no row, no change, no copy and no lock names it
abbrev pub IsUntouched : State → ℕ → ℕ → Type 0
IsUntouched s c row = (get (s.client c).overlay row ≡ None) × (lock_of s c row ≡ None) × All (λ copy. get copy row ≡ None) (s.client c).levels

abbrev pub IsFresh : State → ℕ → Type 0
IsFresh s row = (FIRST_ROW ≤ row) × (row < ROW_LIMIT) × (get s.committed row ≡ None) × ((c : ℕ) → IsUntouched s c row)

-- the answer of an operation that nothing prevents
abbrev pub Succeeds : Setting → State → ℕ → Op → Answer → Type 0
Succeeds f s c Enter a = a ≡ Done
Succeeds f s c (Leave keep) a =
    ((depth_of s c ≡ 1) × (moment : ℕ) × (a ≡ Committed moment)) ⊎ ((depth_of s c ≢ 1) × (a ≡ Done))
Succeeds f s c (Back depth) a = a ≡ Done
Succeeds f s c (Next table index prefix cursor forward) a =
    (row : RowId) × (key : List ℕ) × (values : List Value) × (a ≡ Found row key values) × IsNext f s (Next table index prefix cursor forward) row key values
Succeeds f s c (Get table row) a = (values : List Value) × (a ≡ RowAnswer values) × (view f s row.0 ≡ row_in table values)
Succeeds f s c (Lock table row exclusive wait) a = a ≡ Granted
Succeeds f s c (Insert table values) a = (row : RowId) × (a ≡ Inserted row) × IsFresh s row.0
Succeeds f s c (Put table row values) a = a ≡ Done
Succeeds f s c (Delete table row) a = a ≡ Done
Succeeds f s c (DropLock row) a = a ≡ Done
Succeeds f s c (NextValue sequence) a = a ≡ ValueAnswer (next_value f s sequence)
Succeeds f s c (CurrentValue sequence) a = a ≡ ValueAnswer (current_value s sequence)
Succeeds f s c End a = a ≡ Done

-- ---- the table

-- the rows of the table from Gone on, in order
abbrev pub FromGone : Setting → State → ℕ → Op → Answer → Type 0
FromGone f s c op a =
    when IsGone f s c op comes a ≡ Gone otherwise
    when HasTooLongKey f op comes ((index : ℕ) × IsFirstLongKey f (entered op) index × (a ≡ KeyTooLong index)) otherwise
    when HasConflict f s c op × ¬ MayWait op comes ((holders : List ℕ) × IsHolders f s c op holders × (a ≡ Busy holders)) otherwise
    when HasConflict f s c op × ¬ Closes f s c op comes ((holders : List ℕ) × IsHolders f s c op holders × (a ≡ Blocked holders)) otherwise
    when HasConflict f s c op comes ((cycle : List ℕ) × IsCycle f s c op cycle × (a ≡ Deadlock cycle)) otherwise
    when HasDuplicates f s op comes ((index : ℕ) × (row : RowId) × IsFirstDuplicate f s op index row × (a ≡ Duplicate index row)) otherwise
    when DrawsTooMany f s op comes a ≡ Full otherwise
    when WritesTooMany f s c op comes a ≡ TxFull otherwise
    when PassesEnd f s op comes a ≡ SequenceEnd otherwise
    when IsNextOp op × FindsNone f s op comes a ≡ AtEnd otherwise
    Succeeds f s c op a

-- the whole table. TraceFull depends on the event with the answer that would otherwise be given. If several cycles may be answered, it may
-- be any of them
abbrev pub ByTable : Setting → State → ℕ → Op → Answer → Type 0
ByTable f s c op a =
    when IsRefused f s c op comes a ≡ Refused otherwise
    when IsTrue s.closed × (op ≢ End) comes a ≡ Closed otherwise
    ((HasRoom s op a × FromGone f s c op a) ⊎ ((a ≡ TraceFull) × (b : Answer) × FromGone f s c op b × ¬ HasRoom s op b))

-- an answer that is possible whatever the table says, except for End: out of memory, or Closed if the disk failed in this step and the
-- operation is not Refused
abbrev pub IsFree : Setting → State → ℕ → Op → Answer → Type 0
IsFree f s c op a = (op ≢ End) × ((a ≡ NoMemory) ⊎ ((a ≡ Closed) × ¬ IsRefused f s c op))

-- the answers that the operation may have in this state
abbrev pub Answers : Setting → State → ℕ → Op → Answer → Type 0
Answers f s c op a = IsFree f s c op a ⊎ ByTable f s c op a
