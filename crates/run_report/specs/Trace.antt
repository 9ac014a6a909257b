-- The lines of a trace: what each client asked, and what it was answered, in order.
use Rattle.std.specs.Prelude.{ℕ, ◌+◌, Bool, if◌then◌else◌, List, [], ◌∷◌, ◌++◌, length, codes, decimal, slice_index_or}
use Rattle.std.specs.List.{flat_map}
use Rattle.std.specs.Fmt.{signed_decimal}
use Rattle.abl_values.specs.Schema.{SchemaData, name_of}
use Rattle.database_protocol.specs.declared.operation.Op.{Op}
use Rattle.database_protocol.specs.declared.operation.Op.TheVariants.{Enter, Leave, Back, Next, Get, Lock, Insert, Put, Delete, Drop, NextValue, CurrentValue, End}
use Rattle.database_protocol.specs.declared.answer.Answer.{Answer}
use Rattle.database_protocol.specs.declared.answer.Answer.TheVariants as answer
use Rattle.database_protocol.specs.declared.event.Event.{Event}
pub use Rattle.abl_values.specs.Schema.{no_sequence}

-- ---- operations

-- what an operation is called
abbrev pub op_name : Op → List ℕ
op_name Enter = codes "Enter"
op_name (Leave keep) = codes "Leave"
op_name (Back depth) = codes "Back"
op_name (Next table index prefix cursor forward) = codes "Next"
op_name (Get table row) = codes "Get"
op_name (Lock table row exclusive wait) = codes "Lock"
op_name (Insert table values) = codes "Insert"
op_name (Put table row values) = codes "Put"
op_name (Delete table row) = codes "Delete"
op_name (Drop row) = codes "Drop"
op_name (NextValue sequence) = codes "NextValue"
op_name (CurrentValue sequence) = codes "CurrentValue"
op_name End = codes "End"

-- one of two letters, after a blank
abbrev pub either_letter : Bool → ℕ → ℕ → List ℕ
either_letter b on off = 32 ∷ (if b then on else off) ∷ []

-- the name of a sequence, as it is spelt
abbrev pub sequence_name : SchemaData → ℕ → List ℕ
sequence_name schema sequence = (slice_index_or schema.sequences sequence no_sequence).name

-- What follows the operation's name, each after a blank: the number of rows kept, the level, the name of the table or
-- sequence, the row, and for a lock S or X and then W or N
abbrev pub operands : SchemaData → Op → List ℕ
operands schema Enter = []
operands schema (Leave keep) = 32 ∷ decimal (length keep)
operands schema (Back depth) = 32 ∷ decimal depth
operands schema (Next table index prefix cursor forward) = 32 ∷ name_of schema table
operands schema (Get table row) = 32 ∷ decimal row.0
operands schema (Lock table row exclusive wait) = 32 ∷ decimal row.0 ++ either_letter exclusive 88 83 ++ either_letter wait 87 78
operands schema (Insert table values) = 32 ∷ name_of schema table
operands schema (Put table row values) = 32 ∷ decimal row.0
operands schema (Delete table row) = 32 ∷ decimal row.0
operands schema (Drop row) = 32 ∷ decimal row.0
operands schema (NextValue sequence) = 32 ∷ sequence_name schema sequence
operands schema (CurrentValue sequence) = 32 ∷ sequence_name schema sequence
operands schema End = []

-- ---- answers

-- what an answer is called
abbrev pub answer_name : Answer → List ℕ
answer_name answer.Refused = codes "Refused"
answer_name answer.Closed = codes "Closed"
answer_name answer.TraceFull = codes "TraceFull"
answer_name answer.Gone = codes "Gone"
answer_name (answer.KeyTooLong index) = codes "KeyTooLong"
answer_name (answer.Busy holders) = codes "Busy"
answer_name (answer.Blocked holders) = codes "Blocked"
answer_name (answer.Deadlock cycle) = codes "Deadlock"
answer_name (answer.Duplicate index row) = codes "Duplicate"
answer_name answer.Full = codes "Full"
answer_name answer.TxFull = codes "TxFull"
answer_name answer.SequenceEnd = codes "SequenceEnd"
answer_name answer.AtEnd = codes "AtEnd"
answer_name answer.NoMemory = codes "NoMemory"
answer_name answer.Done = codes "Done"
answer_name (answer.Committed moment) = codes "Committed"
answer_name (answer.Found row key values) = codes "Found"
answer_name (answer.Row values) = codes "Row"
answer_name answer.Granted = codes "Granted"
answer_name (answer.Inserted row) = codes "Inserted"
answer_name (answer.Value value) = codes "Value"

-- the names of clients, each after a blank
abbrev pub client_names : List (List ℕ) → List ℕ → List ℕ
client_names names clients = flat_map (λ client. 32 ∷ slice_index_or names client []) clients

-- what follows the answer's name, each after a blank: the row, the value, the clients that conflict with the operation
abbrev pub added : List (List ℕ) → Answer → List ℕ
added names (answer.Found row key values) = 32 ∷ decimal row.0
added names (answer.Inserted row) = 32 ∷ decimal row.0
added names (answer.Duplicate index row) = 32 ∷ decimal row.0
added names (answer.Value value) = 32 ∷ signed_decimal value
added names (answer.Busy holders) = client_names names holders
added names (answer.Blocked holders) = client_names names holders
added names (answer.Deadlock cycle) = client_names names cycle
added names other = []

-- ---- lines

-- the n-th line, where the clients have these names: `N NAME OP ANSWER`
abbrev pub trace_line : SchemaData → List (List ℕ) → ℕ → Event → List ℕ
trace_line schema names n event =
    decimal n ++ 32 ∷ slice_index_or names event.client [] ++ 32 ∷ op_name event.op ++ operands schema event.op
    ++ 32 ∷ answer_name event.answer ++ added names event.answer ++ 10 ∷ []

-- the lines from the n-th on
abbrev pub trace_lines : SchemaData → List (List ℕ) → ℕ → List Event → List ℕ
trace_lines schema names n [] = []
trace_lines schema names n (event ∷ trace) = trace_line schema names n event ++ trace_lines schema names (n + 1) trace

-- the part of a report that has the trace
abbrev pub trace_part : SchemaData → List (List ℕ) → List Event → List ℕ
trace_part schema names trace = codes "== trace ==" ++ 10 ∷ trace_lines schema names 1 trace
