-- What is counted: the fragments that an operation draws, the slots that it writes, and the bytes of an event.
use Rattle.std.specs.Prelude.{ℕ, zero, suc, ◌+◌, ◌-◌, ◌*◌, ◌≤◌, ◌≡◌, ◌⊎◌, max, Bool, true, false, length, map, sum, Option, Some, None}
use Rattle.std.specs.FinMap.{values}
use Rattle.database_protocol.specs.declared.row_order.Cursor.{Cursor}
use Rattle.abl_base.specs.declared.limits.TheConstants.{MAX_TRACE_BYTES, EVENT_BYTES, NUMBER_BYTES}
use Rattle.database_protocol.specs.declared.operation.Op.{Op}
use Rattle.database_protocol.specs.declared.operation.Op.TheVariants.{Leave, Next, Insert, Put, Delete, End}
use Rattle.database_protocol.specs.declared.answer.Answer.{Answer}
use Rattle.database_protocol.specs.declared.answer.Answer.TheVariants.{TraceFull, Busy, Blocked, Deadlock, Found, Row as RowAnswer}
use Rattle.database_meaning.specs.Setting.{Setting, row_size, fragments}
use Rattle.database_meaning.specs.State.{State, view}
use Rattle.database_meaning.specs.Waiting.{row_in}

-- ---- fragments and slot writes

-- how many fragments the operation draws. One that the transaction freed stays taken until its end
abbrev pub draws : Setting → State → Op → ℕ
draws f s (Insert table values) = fragments (row_in table values)
draws f s (Put table row values) = fragments (row_in table values) - fragments (view f s row.0)
draws f s _ = 0

-- how many slots it writes
abbrev pub writes : Setting → State → Op → ℕ
writes f s (Insert table values) = fragments (row_in table values)
writes f s (Put table row values) = max (fragments (row_in table values)) (fragments (view f s row.0))
writes f s (Delete table row) = fragments (view f s row.0)
writes f s _ = 0

-- the sum over the first n clients
abbrev pub sum_below : ℕ → (ℕ → ℕ) → ℕ
sum_below zero count = 0
sum_below (suc n) count = count n + sum_below n count

-- the fragments of committed rows and those drawn by all open transactions
abbrev pub used : Setting → State → ℕ
used f s = sum (map (λ r. fragments (Some r)) (values s.committed)) + sum_below f.clients (λ c. (s.client c).drawn)

-- ---- the bytes of an event

abbrev pub cursor_size : Option Cursor → ℕ
cursor_size None = 0
cursor_size (Some cursor) = length cursor.key

-- the rows and keys in an operation by their bytes, the prefix as a row, and 4 bytes for each number in keep
abbrev pub op_size : Op → ℕ
op_size (Leave keep) = NUMBER_BYTES * length keep
op_size (Next table index prefix cursor forward) = row_size prefix + cursor_size cursor
op_size (Insert table values) = row_size values
op_size (Put table row values) = row_size values
op_size _ = 0

abbrev pub answer_size : Answer → ℕ
answer_size (Busy holders) = NUMBER_BYTES * length holders
answer_size (Blocked holders) = NUMBER_BYTES * length holders
answer_size (Deadlock cycle) = NUMBER_BYTES * length cycle
answer_size (Found row key values) = length key + row_size values
answer_size (RowAnswer values) = row_size values
answer_size _ = 0

abbrev pub event_size : Op → Answer → ℕ
event_size op a = EVENT_BYTES + op_size op + answer_size a

-- an End and the answer TraceFull are not counted
abbrev pub is_counted : Op → Answer → Bool
is_counted End a = false
is_counted op TraceFull = false
is_counted op a = true

-- the trace has room for the event. An End needs none
abbrev pub HasRoom : State → Op → Answer → Type 0
HasRoom s op a = (op ≡ End) ⊎ (s.size + event_size op a ≤ MAX_TRACE_BYTES)
