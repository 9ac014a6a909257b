-- Buffers and levels: inserting a pending record, release, the end of a level, and refreshing a buffer.
use Rattle.std.specs.Prelude.{ℕ, ◌+◌, ◌-◌, ◌==◌, nat_lt, List, [], ◌∷◌, ◌++◌, Bool, true, false, not, ◌&&◌, ◌||◌, Option, Some, None, slice_index_or, slice_set, map, length}
use Rattle.abl_base.specs.declared.limits.TheConstants.{MAX_ROW_BYTES}
use Rattle.abl_base.specs.declared.row.RowId.{RowId}
use Rattle.abl_values.specs.declared.schema.FieldDef.{FieldDef}
use Rattle.abl_base.specs.declared.value.Value.{Value}
use Rattle.abl_values.specs.Rows.{bytes_of_row}
use Rattle.database_protocol.specs.declared.operation.Op.TheVariants as op
use Rattle.database_protocol.specs.declared.answer.Answer.{Answer}
use Rattle.expression_meaning.specs.Operators.{is_unknown}
use Rattle.block_meaning.specs.Program.{Program, table_at}
use Rattle.block_meaning.specs.Lines.{Complaint, IsMandatory, RecordTooLong}
use Rattle.block_meaning.specs.State.{State, CallFrame, Buffer, Content, Empty, Record, Pending, Held, Share, Exclusive, Normal, Faults, Done, Continuation, completes, if_else, update_then, asks, and_then, has_fault}
use Rattle.block_meaning.specs.Frames.{content_of, emptied, is_in, locked_row, no_buffer, no_frame}
use Rattle.block_meaning.specs.Views.{values_in, row_in, refusal_in}

-- ---- conditions on a record that is stored

-- field f, or another one
abbrev pub or_first : Bool → ℕ → Option ℕ → Option ℕ
or_first true f other = Some f
or_first false f other = other

-- the first mandatory field that is `?`
abbrev pub missing_field : ℕ → List FieldDef → List Value → Option ℕ
missing_field f [] vs = None
missing_field f (d ∷ ds) [] = None
missing_field f (d ∷ ds) (v ∷ vs) = or_first (d.mandatory && is_unknown v) f (missing_field (f + 1) ds vs)

-- fails where a mandatory field is `?`
abbrev pub unless_missing : Option ℕ → ℕ → Continuation → Continuation
unless_missing None t go s ans = go s ans
unless_missing (Some f) t go s ans = Done (Faults (Some (IsMandatory t f))) s ans

-- continues where no mandatory field is `?` and the row has at most 30,000 bytes, else fails
abbrev pub storable : Program → ℕ → List Value → Continuation → Continuation
storable p t vs go = unless_missing (missing_field 0 (table_at p t).fields vs) t (if_else (nat_lt MAX_ROW_BYTES (length (bytes_of_row vs))) (has_fault (RecordTooLong t)) go)

-- fails where there is a complaint
abbrev pub refused_by : Option Complaint → Continuation
refused_by (Some c) = has_fault c
refused_by None = completes Normal

-- fails where the answer to an Insert or Put is a refusal
abbrev pub refused : ℕ → ℕ → Answer → Continuation
refused b t a = refused_by (refusal_in b t a)

-- ---- every buffer of the client, in buffer order: the outermost procedure first

-- a buffer of any open procedure: the number of procedures between it and the running one, and its number there
pub record Place : Type 0 where
  pub out : ℕ
  pub number : ℕ

-- the places of the buffers of procedure k, from number n on
abbrev pub places_from : ℕ → ℕ → List Buffer → List Place
places_from k n [] = []
places_from k n (b ∷ bs) = record { out = k; number = n } ∷ places_from k (n + 1) bs

-- those of all open procedures, the outermost first
abbrev pub places_out : ℕ → List CallFrame → List Place
places_out k [] = []
places_out k (f ∷ fs) = places_out (k + 1) fs ++ places_from k 0 f.buffers

-- those of the client
abbrev pub all_places : State → List Place
all_places s = places_out 0 s.frames

-- the k-th open procedure, counted outward from the running one
abbrev pub frame_out : ℕ → State → CallFrame
frame_out k s = slice_index_or s.frames k no_frame

-- the buffer at a place
abbrev pub buffer_in : Place → State → Buffer
buffer_in at s = slice_index_or (frame_out at.out s).buffers at.number no_buffer

-- gives it this content
abbrev pub holding_in : Place → Content → State → State
holding_in at c s = record s { frames = slice_set s.frames at.out (record (frame_out at.out s) { buffers = slice_set (frame_out at.out s).buffers at.number (record (buffer_in at s) { content = c }) }) }

-- a buffer of the running procedure
abbrev pub own : ℕ → Place
own b = record { out = 0; number = b }

-- ---- inserting pending records

-- the buffer holds the inserted row with an exclusive lock, or the statement fails
abbrev pub inserted_as : Option RowId → Place → List Value → ℕ → Continuation → Continuation
inserted_as (Some row) at vs made other = update_then (holding_in at (Record row vs Exclusive (Some made))) (completes Normal)
inserted_as None at vs made other = other

-- continues after the answer to Insert
abbrev pub was_inserted : Place → ℕ → List Value → ℕ → Answer → Continuation
was_inserted at t vs made a = inserted_as (row_in a) at vs made (refused at.number t a)

-- inserts a content that is pending
abbrev pub enters_content : Program → Place → ℕ → Content → Continuation
enters_content p at t Empty = completes Normal
enters_content p at t (Record row vs held made) = completes Normal
enters_content p at t (Pending vs since made) = storable p t vs (asks (op.Insert t vs) (was_inserted at t vs made))

-- inserts the record in a buffer, if it is pending
abbrev pub enters_in : Program → Place → Continuation
enters_in p at s ans = enters_content p at (buffer_in at s).table (buffer_in at s).content s ans

-- the same for several buffers in this order
abbrev pub enters_places : Program → List Place → Continuation
enters_places p [] s ans = Done Normal s ans
enters_places p (at ∷ more) s ans = and_then (enters_in p at s ans) (enters_places p more)

-- the same for a buffer of the running procedure
abbrev pub enters : Program → ℕ → Continuation
enters p b = enters_in p (own b)

-- the same for several of its buffers
abbrev pub enters_all : Program → List ℕ → Continuation
enters_all p bs = enters_places p (map own bs)

-- ---- the rows that the buffers of the client hold with a lock

-- inserts a row into an ascending list without repeats
abbrev pub placed : Bool → Bool → RowId → RowId → List RowId → List RowId → List RowId
placed true less n m ms rest = m ∷ ms
placed false true n m ms rest = n ∷ m ∷ ms
placed false false n m ms rest = m ∷ rest

-- with one more row
abbrev pub with_row : RowId → List RowId → List RowId
with_row n [] = n ∷ []
with_row n (m ∷ ms) = placed (n.0 == m.0) (nat_lt n.0 m.0) n m ms (with_row n ms)

-- with one more row, if there is one
abbrev pub with_row_of : Option RowId → List RowId → List RowId
with_row_of None rows = rows
with_row_of (Some row) rows = with_row row rows

-- the row, unless its buffer is left out
abbrev pub unless_in : Bool → Option RowId → Option RowId
unless_in true row = None
unless_in false row = row

-- the rows of a procedure's buffers from number n on, except the buffers `but`
abbrev pub rows_from : ℕ → List ℕ → List Buffer → List RowId
rows_from n but [] = []
rows_from n but (b ∷ bs) = with_row_of (unless_in (is_in n but) (locked_row b.content)) (rows_from (n + 1) but bs)

-- the rows of both lists
abbrev pub all_rows : List RowId → List RowId → List RowId
all_rows [] others = others
all_rows (r ∷ rs) others = with_row r (all_rows rs others)

-- those of all open procedures; `but` names buffers of the innermost one
abbrev pub rows_in : List ℕ → List CallFrame → List RowId
rows_in but [] = []
rows_in but (f ∷ fs) = all_rows (rows_from 0 but f.buffers) (rows_in [] fs)

-- the rows that remain locked after a Leave that releases the buffers `but`
abbrev pub keep_of : List ℕ → State → List RowId
keep_of but s = rows_in but s.frames

-- the row is in the list
abbrev pub is_row_in : RowId → List RowId → Bool
is_row_in row [] = false
is_row_in row (r ∷ rs) = (row.0 == r.0) || is_row_in row rs

-- ---- release

-- continues after the answer to Drop
abbrev pub was_dropped : Answer → Continuation
was_dropped a = completes Normal

-- empties the buffer; outside a transaction also drops the lock of its row, unless another buffer of the client holds it
abbrev pub drops_if : Option RowId → ℕ → Continuation
drops_if None b s ans = Done Normal (emptied b s) ans
drops_if (Some row) b s ans =
    if_else ((s.level == 0) && not (is_row_in row (keep_of (b ∷ []) s)))
    (update_then (emptied b) (asks (op.Drop row) was_dropped))
    (update_then (emptied b) (completes Normal)) s ans

-- the same by the content of the buffer
abbrev pub drops : ℕ → Continuation
drops b s ans = drops_if (locked_row (content_of b s)) b s ans

-- releases a buffer: inserts a pending record, and empties the buffer
abbrev pub releases : Program → ℕ → Continuation
releases p b s ans = and_then (enters p b s ans) (drops b)

-- several buffers are released
abbrev pub releases_all : Program → List ℕ → Continuation
releases_all p [] s ans = Done Normal s ans
releases_all p (b ∷ bs) s ans = and_then (releases p b s ans) (releases_all p bs)

-- ---- the end of a level

-- an exclusive lock becomes a share lock
abbrev pub as_share : Content → Content
as_share Empty = Empty
as_share (Record row values Exclusive made) = Record row values Share made
as_share (Record row values held made) = Record row values held made
as_share (Pending values since made) = Pending values since made

-- the same in a buffer
abbrev pub buffer_shared : Buffer → Buffer
buffer_shared b = record b { content = as_share b.content }

-- the same in every buffer of a procedure
abbrev pub frame_shared : CallFrame → CallFrame
frame_shared f = record f { buffers = map buffer_shared f.buffers }

-- the same in every buffer of the client
abbrev pub shared : List CallFrame → List CallFrame
shared fs = map frame_shared fs

-- one level less; at the end of the transaction exclusive locks become share locks
abbrev pub left_if : Bool → State → State
left_if true s = record s { level = 0; frames = shared s.frames }
left_if false s = record s { level = s.level - 1 }

-- the state after the innermost level is left
abbrev pub left : State → State
left s = left_if (s.level == 1) s

-- continues after the answer to Leave
abbrev pub was_left : Answer → Continuation
was_left a = update_then left (completes Normal)

-- leaves the innermost level, and releases the locks of the buffers `but`
abbrev pub leaves : List ℕ → Continuation
leaves but s ans = asks (op.Leave (keep_of but s)) was_left s ans

-- ---- refreshing buffers after a copy was restored

-- the row with the values that were read, or Empty
abbrev pub got_content : Option (List Value) → RowId → Held → Option ℕ → Content
got_content (Some values) row held made = Record row values held made
got_content None row held made = Empty

-- continues after the answer to Get
abbrev pub was_got : Place → RowId → Held → Option ℕ → Answer → Continuation
was_got at row held made a = update_then (holding_in at (got_content (values_in a) row held made)) (completes Normal)

-- a CREATE after the first `mark` made it
abbrev pub made_later : ℕ → Option ℕ → Bool
made_later mark None = false
made_later mark (Some made) = nat_lt mark made

-- refreshes a content: a record that was created after the copy is dropped, any other row is read again
abbrev pub updates_content : ℕ → Place → ℕ → Content → Continuation
updates_content mark at t Empty = completes Normal
updates_content mark at t (Pending values since made) = if_else (nat_lt mark made) (update_then (holding_in at Empty) (completes Normal)) (completes Normal)
updates_content mark at t (Record row values held made) =
    if_else (made_later mark made)
    (update_then (holding_in at Empty) (completes Normal))
    (asks (op.Get t row) (was_got at row held made))

-- refreshes the buffer at a place
abbrev pub updates : ℕ → Place → Continuation
updates mark at s ans = updates_content mark at (buffer_in at s).table (buffer_in at s).content s ans

-- the place is one of the buffers `but` of the running procedure
abbrev pub is_left_out : List ℕ → Place → Bool
is_left_out but at = (at.out == 0) && is_in at.number but

-- refreshes each of them, except the buffers `but`
abbrev pub updates_places : ℕ → List ℕ → List Place → Continuation
updates_places mark but [] s ans = Done Normal s ans
updates_places mark but (at ∷ more) s ans = and_then (if_else (is_left_out but at) (completes Normal) (updates mark at) s ans) (updates_places mark but more)
