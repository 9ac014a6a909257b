-- Changes: assignments, CREATE and DELETE.
use Rattle.std.specs.Prelude.{ℕ, ◌+◌, ◌==◌, List, [], ◌∷◌, Bool, true, false, not, ◌&&◌, ◌||◌, Option, Some, None, slice_set, map, ℤ}
use Rattle.abl_base.specs.declared.row.RowId.{RowId}
use Rattle.abl_values.specs.declared.schema.FieldDef.{FieldDef}
use Rattle.abl_values.specs.declared.schema.IndexDef.{IndexDef}
use Rattle.abl_values.specs.declared.schema.KeyPart.{KeyPart}
use Rattle.abl_base.specs.declared.value.Value.{Value}
use Rattle.abl_base.specs.declared.value.Value.TheVariants.{Int64}
use Rattle.abl_base.specs.declared.value.Kind.{Kind}
use Rattle.database_protocol.specs.declared.operation.Op.TheVariants as op
use Rattle.database_protocol.specs.declared.answer.Answer.{Answer}
use Rattle.bound_tree.specs.declared.statement.Target.{Target}
use Rattle.bound_tree.specs.declared.statement.Target.TheVariants as target
use Rattle.bound_tree.specs.Tree.{Right, ValueOf, NextOf, CurrentOf, Given, Assignment}
use Rattle.block_meaning.specs.Program.{Program, table_at}
use Rattle.block_meaning.specs.Lines.{OutOfRange, NoRecordIn, IsReadNoLock, RecordIsGone}
use Rattle.block_meaning.specs.State.{State, Content, Empty, Record, Pending, Held, NoLock, Share, Exclusive, Completion, Normal, Faults, Outcome, Done, Suspended, Continuation, completes, if_else, update_then, asks, and_then, has_fault, Completed, completed, immediately}
use Rattle.block_meaning.specs.Frames.{assigned, content_of, table_of, holding, emptied, is_in}
use Rattle.block_meaning.specs.Values.{Evaluated, Gives, Fails, value_now, fit}
use Rattle.block_meaning.specs.Views.{number_in, is_gone}
use Rattle.block_meaning.specs.Buffers.{storable, refused, enters, releases}

-- ---- assignments, from left to right

-- changes a field of the record in a buffer
abbrev pub with_field : ℕ → Value → ℕ → Content → State → State
with_field f v b Empty s = s
with_field f v b (Record row values held made) s = holding b (Record row (slice_set values f v) held made) s
with_field f v b (Pending values since made) s = holding b (Pending (slice_set values f v) (f ∷ since) made) s

-- sets a value that was converted to the kind of its target
abbrev pub stored_value : Evaluated → (Value → State → State) → State → Completed
stored_value (Gives v) set s = completed Normal (set v s)
stored_value (Fails c) set s = completed (Faults (Some c)) s

-- assigns to a field of a buffer, which must hold a record
abbrev pub stored_in : Content → ℕ → ℕ → Kind → Value → State → Completed
stored_in Empty b f k v s = completed (Faults (Some (NoRecordIn b))) s
stored_in (Record row values held made) b f k v s = stored_value (fit k v) (λ v. with_field f v b (Record row values held made)) s
stored_in (Pending values since made) b f k v s = stored_value (fit k v) (λ v. with_field f v b (Pending values since made)) s

-- assigns a value to a target
abbrev pub stored : Target → Value → State → Completed
stored (target.Variable x) v s = stored_value (fit x.kind v) (assigned x) s
stored (target.Field b f k) v s = stored_in (content_of b s) b f k v s

-- assigns the value of an expression
abbrev pub stored_if : Evaluated → Target → State → Completed
stored_if (Gives v) t s = stored t v s
stored_if (Fails c) t s = completed (Faults (Some c)) s

-- assigns the value of a sequence; a sequence at its end is out of range
abbrev pub counted_as : Option ℤ → Target → Continuation
counted_as (Some n) t = immediately (stored t (Int64 n))
counted_as None t = has_fault OutOfRange

-- continues after the answer about a sequence
abbrev pub was_counted : Target → Answer → Continuation
was_counted t a = counted_as (number_in a) t

-- one assignment
abbrev pub assigns_one : Program → Target → Right → Bool → Continuation
assigns_one p t (ValueOf e) retry = immediately (λ s. stored_if (value_now p e retry s) t s)
assigns_one p t (NextOf q) retry = asks (op.NextValue q) (was_counted t)
assigns_one p t (CurrentOf q) retry = asks (op.CurrentValue q) (was_counted t)
assigns_one p t (Given v) retry = immediately (stored t v)

-- several in order
abbrev pub assigns_each : Program → List Assignment → Bool → Continuation
assigns_each p [] retry s ans = Done Normal s ans
assigns_each p (x ∷ xs) retry s ans = and_then (assigns_one p x.target x.right retry s ans) (assigns_each p xs retry)

-- prepends b, unless it is there
abbrev pub once : Bool → ℕ → List ℕ → List ℕ
once true b bs = bs
once false b bs = b ∷ bs

-- all but b
abbrev pub without : ℕ → List ℕ → List ℕ
without b [] = []
without b (c ∷ cs) = once (b == c) c (without b cs)

-- the buffer of a target before the others, once
abbrev pub buffer_first : Target → List ℕ → List ℕ
buffer_first (target.Variable x) bs = bs
buffer_first (target.Field b f k) bs = b ∷ without b bs

-- the buffers of the targets, each once, in the order of their first targets
abbrev pub buffers_in : List Assignment → List ℕ
buffers_in [] = []
buffers_in (x ∷ xs) = buffer_first x.target (buffers_in xs)

-- ---- a fault restores the buffers of the statement, except for their locks

-- the old values with the present lock
abbrev pub as_before : Content → Content → Content
as_before (Record row values held made) (Record row' values' held' made') = Record row' values held' made'
as_before (Pending values since made) (Pending values' since' made') = Pending values since made'
as_before old now = now

-- several buffers
abbrev pub all_as_before : State → List ℕ → State → State
all_as_before old [] s = s
all_as_before old (b ∷ bs) s = all_as_before old bs (holding b (as_before (content_of b old) (content_of b s)) s)

-- after a fault, restores these buffers
abbrev pub as_before_on_fault : Completion → State → List ℕ → Continuation
as_before_on_fault (Faults c) old bs s ans = Done (Faults c) (all_as_before old bs s) ans
as_before_on_fault completion old bs s ans = Done completion s ans

-- the same for an outcome
abbrev pub or_as_before : State → List ℕ → Outcome → Outcome
or_as_before old bs (Done completion s ans) = as_before_on_fault completion old bs s ans
or_as_before old bs (Suspended d) = Suspended d

-- ---- the lock for a change

-- continues after the answer to Lock
abbrev pub was_upgraded : ℕ → RowId → List Value → Option ℕ → Answer → Continuation
was_upgraded b row values made a = if_else (is_gone a) (has_fault (RecordIsGone b)) (update_then (holding b (Record row values Exclusive made)) (completes Normal))

-- a NO-LOCK record is a fault, a share lock is upgraded
abbrev pub upgrades : Held → ℕ → ℕ → RowId → List Value → Option ℕ → Continuation
upgrades NoLock t b row values made = has_fault (IsReadNoLock b)
upgrades Share t b row values made = asks (op.Lock t row true true) (was_upgraded b row values made)
upgrades Exclusive t b row values made = completes Normal

-- upgrades the lock of a content that is a row
abbrev pub locks_content : Content → ℕ → ℕ → Continuation
locks_content Empty t b = completes Normal
locks_content (Pending values since made) t b = completes Normal
locks_content (Record row values held made) t b = upgrades held t b row values made

-- the same for each changed buffer
abbrev pub locks_all : List ℕ → Continuation
locks_all [] s ans = Done Normal s ans
locks_all (b ∷ bs) s ans = and_then (locks_content (content_of b s) (table_of b s) b s ans) (locks_all bs)

-- ---- storing the changed buffers at the end of the statement

-- a field of one of the components was assigned
abbrev pub any_in : List KeyPart → List ℕ → Bool
any_in [] since = false
any_in (f ∷ fs) since = is_in f.field since || any_in fs since

-- every unique index has such a component
abbrev pub all_begun : List IndexDef → List ℕ → Bool
all_begun [] since = true
all_begun (i ∷ is) since = (not i.unique || any_in i.parts since) && all_begun is since

-- continues after the answer to Put
abbrev pub was_put : ℕ → ℕ → Answer → Continuation
was_put b t a = refused b t a

-- stores a row by Put, and inserts a pending record once every unique index has an assigned component
abbrev pub settles_content : Program → Content → ℕ → ℕ → Continuation
settles_content p Empty t b = completes Normal
settles_content p (Pending values since made) t b = if_else (all_begun (table_at p t).indexes since) (enters p b) (completes Normal)
settles_content p (Record row values held made) t b = storable p t values (asks (op.Put t row values) (was_put b t))

-- stores a changed buffer
abbrev pub settles : Program → ℕ → Continuation
settles p b s ans = settles_content p (content_of b s) (table_of b s) b s ans

-- stores each of them; after a refusal that one and those after it are restored
abbrev pub settles_all : Program → State → List ℕ → Continuation
settles_all p old [] s ans = Done Normal s ans
settles_all p old (b ∷ bs) s ans = and_then (or_as_before old (b ∷ bs) (settles p b s ans)) (settles_all p old bs)

-- an assignment statement: the assignments from left to right, then the locks, then Put or Insert of each changed buffer
abbrev pub assigns : Program → List Assignment → Bool → Continuation
assigns p xs retry s ans =
    and_then (or_as_before s (buffers_in xs) (and_then (assigns_each p xs retry s ans) (locks_all (buffers_in xs))))
    (settles_all p s (buffers_in xs))

-- ---- CREATE, DELETE and RELEASE

-- the values of a new record
abbrev pub initial_values : List FieldDef → List Value
initial_values fs = map (λ f. f.initial) fs

-- puts a new pending record into the buffer
abbrev pub begun : Program → ℕ → State → State
begun p b s = holding b (Pending (initial_values (table_at p (table_of b s)).fields) [] (s.made + 1)) (record s { made = s.made + 1 })

-- CREATE
abbrev pub creates : Program → ℕ → Continuation
creates p b s ans = and_then (releases p b s ans) (update_then (begun p b) (completes Normal))

-- continues after the answer to Delete
abbrev pub was_deleted : ℕ → Answer → Continuation
was_deleted b a = if_else (is_gone a) (has_fault (RecordIsGone b)) (update_then (emptied b) (completes Normal))

-- deletes a row, and drops a pending record
abbrev pub deletes_content : Content → ℕ → ℕ → Continuation
deletes_content Empty t b = has_fault (NoRecordIn b)
deletes_content (Pending values since made) t b = update_then (emptied b) (completes Normal)
deletes_content (Record row values held made) t b = λ s ans. and_then (upgrades held t b row values made s ans) (asks (op.Delete t row) (was_deleted b))

-- DELETE
abbrev pub deletes : ℕ → Continuation
deletes b s ans = deletes_content (content_of b s) (table_of b s) b s ans
