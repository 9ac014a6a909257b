-- Contents of a database, legal traces, and what the commits of a trace leave.
use Rattle.std.specs.Prelude.{◌≡◌, ℕ, ◌≤◌, ◌==◌, Bool, true, false, not, ◌&&◌, IsTrue, if◌then◌else◌, List, [], ◌∷◌, length, map, filter, nat_le, None, slice_index_or}
use Rattle.std.specs.FinMap.{get, empty, entries, from_entries}
use Rattle.database_meaning.specs.declared.state.StoredRow.{StoredRow}
use Rattle.database_meaning.specs.declared.state.Key.{Key}
use Rattle.abl_base.specs.declared.limits.TheConstants.{MAX_KEY_BYTES}
use Rattle.database_meaning.specs.declared.contents.Contents.{Contents}
use Rattle.database_meaning.specs.declared.contents.ContentRow.{ContentRow}
use Rattle.database_protocol.specs.declared.operation.Op.{Op}
use Rattle.database_protocol.specs.declared.operation.Op.TheVariants.{Leave}
use Rattle.database_protocol.specs.declared.answer.Answer.{Answer}
use Rattle.database_protocol.specs.declared.answer.Answer.TheVariants.{Committed}
use Rattle.database_protocol.specs.declared.event.Event.{Event}
use Rattle.database_meaning.specs.Setting.{Setting, unique_keys, has_key, HasTable, HasIndex, FitsTable, key_in}
use Rattle.database_meaning.specs.State.{State, Client, Rows}
use Rattle.database_meaning.specs.Waiting.{IsAscending}
use Rattle.database_meaning.specs.Answers.{Answers}
use Rattle.database_meaning.specs.Steps.{after, committed_after, is_outermost, is_closed}

-- ---- contents

abbrev pub identity_of : ContentRow → ℕ
identity_of r = r.row.0

abbrev pub stored_of : ContentRow → StoredRow
stored_of r = record { table = r.table; values = r.values }

-- the rows of the contents as a map
abbrev pub rows_of : List ContentRow → Rows
rows_of rows = from_entries (map (λ r. (identity_of r, stored_of r)) rows)

abbrev pub content_row : ℕ × StoredRow → ContentRow
content_row e = record { row = record { 0 = e.0 }; table = e.1.table; values = e.1.values }

-- the committed rows and the sequence values of a state, as contents
abbrev pub contents_of : State → Contents
contents_of s = record { rows = map content_row (entries s.committed); sequences = s.sequences }

-- no two rows have one unique key
abbrev pub HasUniqueKeys : Setting → Rows → Type 0
HasUniqueKeys f rows =
    (r q : ℕ) (k : Key) → IsTrue (has_key (unique_keys f.schema (get rows r)) k) → IsTrue (has_key (unique_keys f.schema (get rows q)) k) → r ≡ q

-- the row's table exists, its values fit, and none of its keys is too long
abbrev pub IsSoundRow : Setting → StoredRow → Type 0
IsSoundRow f row =
    HasTable f.schema row.table × FitsTable f.schema row.table row.values × ((index : ℕ) → HasIndex f.schema row.table index → length (key_in f.schema row.table index row.values) ≤ MAX_KEY_BYTES)

abbrev pub IsSoundRows : Setting → List ContentRow → Type 0
IsSoundRows f [] = Unit {0}
IsSoundRows f (row ∷ rows) = IsSoundRow f (stored_of row) × IsSoundRows f rows

-- contents that a database of this schema can have
pub record IsSoundContents (f : Setting) (contents : Contents) : Type 0 where
  pub ascending : IsAscending (map identity_of contents.rows)
  pub rows : IsSoundRows f contents.rows
  pub unique : HasUniqueKeys f (rows_of contents.rows)
  pub sequences : length contents.sequences ≡ length f.schema.sequences

-- ---- legal traces

abbrev pub no_client : Client
no_client = record { overlay = empty; levels = []; reserved_keys = []; drawn = 0; written = 0; held = empty; blocked = None }

-- the state as the database is opened: no overlays, levels, reserved keys or locks, and not closed
abbrev pub opened : Contents → State
opened contents = record { committed = rows_of contents.rows; sequences = contents.sequences; client = λ c. no_client; frees = 0; size = 0; closed = false }

-- the state after one event
abbrev pub after_event : Setting → State → Event → State
after_event f s e = after f s e.client e.op e.answer

-- the state that the events leave
abbrev pub state_after : Setting → State → List Event → State
state_after f s [] = s
state_after f s (e ∷ es) = state_after f (after_event f s e) es

-- each event has an answer that the state before it allows
abbrev pub Follows : Setting → State → List Event → Type 0
Follows f s [] = Unit {0}
Follows f s (e ∷ es) = Answers f s e.client e.op e.answer × Follows f (after_event f s e) es

abbrev pub IsLegal : Setting → Contents → List Event → Type 0
IsLegal f contents trace = IsSoundContents f contents × Follows f (opened contents) trace

-- the state that the trace leaves
abbrev pub left_by : Setting → Contents → List Event → State
left_by f contents trace = state_after f (opened contents) trace

-- ---- one client

-- the answers of a client, in order
abbrev pub answers_of : ℕ → List Event → List Answer
answers_of c [] = []
answers_of c (e ∷ es) = if e.client == c then e.answer ∷ answers_of c es else answers_of c es

-- the operations that a client asked, in order
abbrev pub operations_of : ℕ → List Event → List Op
operations_of c [] = []
operations_of c (e ∷ es) = if e.client == c then e.op ∷ operations_of c es else operations_of c es

-- ---- commits

abbrev pub is_committed : Answer → Bool
is_committed (Committed moment) = true
is_committed _ = false

abbrev pub is_leave : Op → Bool
is_leave (Leave keep) = true
is_leave _ = false

-- the first Closed event, if it answers a Leave at level 1: it is unknown whether this commit was done
abbrev pub is_unanswered_commit : State → Event → Bool
is_unanswered_commit s e = is_closed e.answer && (not s.closed && (is_leave e.op && is_outermost s e.client))

-- the contents after each commit, in order: those answered Committed, and last an unanswered one
abbrev pub contents_after_commits : Setting → State → List Event → List Contents
contents_after_commits f s [] = []
contents_after_commits f s (e ∷ es) =
    if is_committed e.answer then contents_of (after_event f s e) ∷ contents_after_commits f (after_event f s e) es
    else if is_unanswered_commit s e then contents_of (record s { committed = committed_after s e.client e.op }) ∷ contents_after_commits f (after_event f s e) es
    else contents_after_commits f (after_event f s e) es

-- how many commits the trace has
abbrev pub commits : Setting → Contents → List Event → ℕ
commits f contents trace = length (contents_after_commits f (opened contents) trace)

-- the contents with the first k commits done; with none they are the contents at opening
abbrev pub after_commits : Setting → Contents → List Event → ℕ → Contents
after_commits f contents trace k = slice_index_or (contents ∷ contents_after_commits f (opened contents) trace) k contents

-- how many commits were acknowledged by the moment
abbrev pub is_acknowledged : ℕ → Answer → Bool
is_acknowledged moment (Committed at) = nat_le at moment
is_acknowledged moment _ = false

abbrev pub acknowledged : ℕ → List Event → ℕ
acknowledged moment trace = length (filter (λ (e : Event). is_acknowledged moment e.answer) trace)
