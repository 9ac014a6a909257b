-- What a step changes.
use Rattle.std.specs.Prelude.{◌≡◌, ℕ, ◌+◌, ◌-◌, ◌==◌, Bool, true, false, not, ◌&&◌, ◌||◌, if◌then◌else◌, List, [], ◌∷◌, ◌++◌, map, take, Option, Some, None, ℤ, slice_index_or, slice_set}
use Rattle.std.specs.List.{list_any}
use Rattle.std.specs.FinMap.{insert, remove, empty, entries, from_entries, retain_keys, contains_key}
use Rattle.abl_base.specs.declared.row.RowId.{RowId}
use Rattle.database_meaning.specs.declared.state.StoredRow.{StoredRow}
use Rattle.database_meaning.specs.declared.state.Key.{Key}
use Rattle.database_meaning.specs.declared.state.BlockedRequest.{BlockedRequest}
use Rattle.database_protocol.specs.declared.operation.Op.{Op}
use Rattle.database_protocol.specs.declared.operation.Op.TheVariants.{Enter, Leave, Back, Lock, Insert, Put, Delete, Drop as DropLock, NextValue, End}
use Rattle.database_protocol.specs.declared.answer.Answer.{Answer}
use Rattle.database_protocol.specs.declared.answer.Answer.TheVariants.{Refused, Closed, Blocked, Done, Committed, Found, Row as RowAnswer, Granted, Inserted, Value as ValueAnswer}
use Rattle.database_meaning.specs.Setting.{Setting, unique_keys, keys_without}
use Rattle.database_meaning.specs.State.{State, Client, Rows, Overlay, Held, view, lock_of, depth_of}
use Rattle.database_meaning.specs.Waiting.{row_in}
use Rattle.database_meaning.specs.Counts.{draws, writes, event_size, is_counted}
use Rattle.database_meaning.specs.Answers.{Answers, next_value}

-- ---- a commit

abbrev pub put_row : Rows → ℕ → Option StoredRow → Rows
put_row rows row None = remove rows row
put_row rows row (Some r) = insert rows row r

-- the changes laid on the rows
abbrev pub laid_on : List (ℕ × Option StoredRow) → Rows → Rows
laid_on [] rows = rows
laid_on (change ∷ changes) rows = put_row (laid_on changes rows) change.0 change.1

-- the client's innermost level is its outermost too: a Leave commits
abbrev pub is_outermost : State → ℕ → Bool
is_outermost s c = depth_of s c == 1

-- the committed rows after a success
abbrev pub committed_after : State → ℕ → Op → Rows
committed_after s c (Leave keep) = if is_outermost s c then laid_on (entries (s.client c).overlay) s.committed else s.committed
committed_after s c _ = s.committed

abbrev pub is_in : ℕ → List RowId → Bool
is_in row [] = false
is_in row (x ∷ xs) = (row == x.0) || is_in row xs

-- at a commit a lock stays, and becomes or stays share, where its row is in keep and in the new committed rows
abbrev pub stays : Rows → List RowId → ℕ → Bool
stays rows keep row = is_in row keep && contains_key rows row

abbrev pub as_share : Held → Held
as_share held = from_entries (map (λ e. (e.0, false)) (entries held))

abbrev pub held_after_commit : Rows → List RowId → Held → Held
held_after_commit rows keep held = as_share (retain_keys held (stays rows keep))

-- ---- the client after its own success

-- the copy of a level, the outermost being level 1
abbrev pub copy_of_level : List Overlay → ℕ → Overlay
copy_of_level levels depth = slice_index_or levels (depth - 1) empty

-- a lock is exclusive where it was so before or is asked for so
abbrev pub or_exclusive : Option Bool → Bool → Bool
or_exclusive None exclusive = exclusive
or_exclusive (Some held) exclusive = held || exclusive

-- the reserved keys after a row replaced another: unique keys that only one of the two has are added
abbrev pub reserving : Setting → Option StoredRow → Option StoredRow → List Key → List Key
reserving f old new reserved_keys = keys_without (unique_keys f.schema new) (unique_keys f.schema old) ++ (keys_without (unique_keys f.schema old) (unique_keys f.schema new) ++ reserved_keys)

abbrev pub own_after_commit : State → ℕ → List RowId → Client
own_after_commit s c keep = record (s.client c) { overlay = empty; levels = []; reserved_keys = []; drawn = 0; written = 0; held = held_after_commit (committed_after s c (Leave keep)) keep (s.client c).held }

abbrev pub own_after_leave : State → ℕ → Client
own_after_leave s c = record (s.client c) { levels = take (depth_of s c - 1) (s.client c).levels }

abbrev pub own_after_drop : State → ℕ → ℕ → Client
own_after_drop s c row = record (s.client c) { held = remove (s.client c).held row }

-- the client after its operation succeeded; fresh is the identity that an Insert was given
abbrev pub own_after : Setting → State → ℕ → Op → ℕ → Client
own_after f s c Enter fresh = record (s.client c) { levels = (s.client c).levels ++ (s.client c).overlay ∷ [] }
own_after f s c (Back depth) fresh = record (s.client c) { overlay = copy_of_level (s.client c).levels depth; levels = take depth (s.client c).levels }
own_after f s c (Leave keep) fresh = if is_outermost s c then own_after_commit s c keep else own_after_leave s c
own_after f s c (Lock table row exclusive wait) fresh = record (s.client c) { held = insert (s.client c).held row.0 (or_exclusive (lock_of s c row.0) exclusive) }
own_after f s c (Insert table values) fresh =
    record (s.client c) {
      overlay = insert (s.client c).overlay fresh (row_in table values);
      reserved_keys = reserving f None (row_in table values) (s.client c).reserved_keys;
      drawn = (s.client c).drawn + draws f s (Insert table values);
      written = (s.client c).written + writes f s (Insert table values);
      held = insert (s.client c).held fresh true;
    }
own_after f s c (Put table row values) fresh =
    record (s.client c) {
      overlay = insert (s.client c).overlay row.0 (row_in table values);
      reserved_keys = reserving f (view f s row.0) (row_in table values) (s.client c).reserved_keys;
      drawn = (s.client c).drawn + draws f s (Put table row values);
      written = (s.client c).written + writes f s (Put table row values);
    }
own_after f s c (Delete table row) fresh =
    record (s.client c) {
      overlay = insert (s.client c).overlay row.0 None;
      reserved_keys = reserving f (view f s row.0) None (s.client c).reserved_keys;
      written = (s.client c).written + writes f s (Delete table row);
    }
own_after f s c (DropLock row) fresh = if depth_of s c == 0 then own_after_drop s c row.0 else s.client c
own_after f s c End fresh = record (s.client c) { overlay = empty; levels = []; reserved_keys = []; drawn = 0; written = 0; held = empty }
own_after f s c _ fresh = s.client c

-- the sequence values after a success
abbrev pub sequences_after : Setting → State → Op → List ℤ
sequences_after f s (NextValue sequence) = slice_set s.sequences sequence (next_value f s sequence)
sequences_after f s _ = s.sequences

abbrev pub is_empty : {A : Type 0} → List A → Bool
is_empty [] = true
is_empty (x ∷ xs) = false

-- whether the operation frees a lock or a reserved key. A lock that becomes share counts as freed
abbrev pub frees_some : State → ℕ → Op → Bool
frees_some s c (Leave keep) =
    is_outermost s c && (not (is_empty (s.client c).reserved_keys) || list_any (λ e. e.1 || not (stays (committed_after s c (Leave keep)) keep e.0)) (entries (s.client c).held))
frees_some s c (DropLock row) = (depth_of s c == 0) && contains_key (s.client c).held row.0
frees_some s c End = not (is_empty (s.client c).reserved_keys) || not (is_empty (entries (s.client c).held))
frees_some s c _ = false

-- ---- the state after an answer

abbrev pub is_success : Answer → Bool
is_success Done = true
is_success (Committed moment) = true
is_success (Found row key values) = true
is_success (RowAnswer values) = true
is_success Granted = true
is_success (Inserted row) = true
is_success (ValueAnswer value) = true
is_success _ = false

-- the identity that an Insert was given
abbrev pub row_of_answer : Answer → ℕ
row_of_answer (Inserted row) = row.0
row_of_answer _ = 0

-- the client's blocked request is the operation of its last event that was not answered Refused, if that one was answered Blocked
abbrev pub blocked_after : State → ℕ → Op → Answer → Option BlockedRequest
blocked_after s c op Refused = (s.client c).blocked
blocked_after s c op (Blocked holders) = Some (record { op = op; frees = s.frees })
blocked_after s c op _ = None

abbrev pub is_closed : Answer → Bool
is_closed Closed = true
is_closed _ = false

abbrev pub client_after : Setting → State → ℕ → Op → Answer → Client
client_after f s c op a = if is_success a then own_after f s c op (row_of_answer a) else s.client c

-- the state that the answer leaves. Of the other clients nothing changes
abbrev pub after : Setting → State → ℕ → Op → Answer → State
after f s c op a =
    record {
      committed = if is_success a then committed_after s c op else s.committed;
      sequences = if is_success a then sequences_after f s op else s.sequences;
      client = λ d. if d == c then record (client_after f s c op a) { blocked = blocked_after s c op a } else s.client d;
      frees = if is_success a && frees_some s c op then s.frees + 1 else s.frees;
      size = if is_counted op a then s.size + event_size op a else s.size;
      closed = s.closed || is_closed a;
    }

-- one step of the machine: an answer that the table allows, and the state after it
abbrev pub Step : Setting → State → ℕ → Op → Answer → State → Type 0
Step f s c op a new = Answers f s c op a × (new ≡ after f s c op a)
