-- The continuation of each step of a reading, from the state before it to the state after it.
use Rattle.std.specs.Prelude.{◌≡◌, ℕ, Bool, true, false, List, ◌∷◌, Option, Some, Result, Ok, Err}
use Rattle.abl_base.specs.declared.row.RowId.{RowId}
use Rattle.abl_base.specs.declared.value.Value.{Value}
use Rattle.database_protocol.specs.declared.row_order.Cursor.{Cursor}
use Rattle.bound_tree.specs.declared.block.LockWanted.{LockWanted}
use Rattle.bound_tree.specs.Tree.{Fetch, Reading}
use Rattle.evaluator.specs.declared.fault.EvalFault.{EvalFault}
use Rattle.evaluator.specs.declared.fault.EvalFault.TheVariants.{Fault, NoMemory}
use Rattle.block_meaning.specs.Lines.{complaint_of, IsLocked, MoreThanOne, NoRecordFound, NoRecordIn}
use Rattle.block_meaning.specs.Program.{Program}
use Rattle.block_meaning.specs.State.{State, Normal, Lost, NotFound, Found}
use Rattle.block_meaning.specs.Frames.{content_of}
use Rattle.block_meaning.specs.Views.{FoundRow, IsBusy, IsGone}
use Rattle.block_meaning.specs.Reads.{Search, held_as, is_forward}
use Rattle.flat_machine.specs.Config.{Config, StackEntry, Execute, Unwind, Takes, TakesAgain, Looks, Seconds, Searches, Completes, ThenDo, OrDo}
use Rattle.flat_machine.specs.Steps.{config, fault, fetch_step, test_step, current_in_step, current_step}
use Rattle.flat_machine.specs.Machine.{next_answered, second_answered, read_answered, grant_answered, current_grant_answered, current_answered}
use Rattle.record_rules.specs.declared.answers.Grant.{Grant}
use Rattle.record_rules.specs.declared.answers.Grant.TheVariants as grant
use Rattle.buffer_steps.specs.declared.reads.buffers.Current.{Current}
use Rattle.buffer_steps.specs.declared.reads.buffers.Current.TheVariants as current
use Rattle.buffer_steps.specs.declared.reads.search.NextTest.{NextTest}
use Rattle.buffer_steps.specs.declared.reads.starts.FetchStart.{FetchStart}
use Rattle.buffer_steps.specs.declared.reads.starts.FetchStart.TheVariants as fetch_start

-- the search with this reading and these parameters
abbrev pub search_with : Reading → Bool → Bool → Bool → Bool → List Value → Search
search_with r forward only wait retry prefix = record { reading = r; forward = forward; only = only; wait = wait; retry = retry; prefix = prefix }

-- WHERE was tested: a good record, a bad one, or a fault
abbrev pub Tested : Result Bool EvalFault → Program → Reading → Bool → State → State → Type 0
Tested (Ok true) p r retry s t = (good bad : State → Config) (ks : List StackEntry) → test_step p r.test r.buffer retry good bad ks s ≡ good t
Tested (Ok false) p r retry s t = (good bad : State → Config) (ks : List StackEntry) → test_step p r.test r.buffer retry good bad ks s ≡ bad t
Tested (Err (Fault f)) p r retry s t = (good bad : State → Config) (ks : List StackEntry) → test_step p r.test r.buffer retry good bad ks s ≡ fault (complaint_of f) ks t
Tested (Err NoMemory) p r retry s t = Unit {0}

-- after Next found a record: it is taken, or the search continues after it
abbrev pub NextTested : Bool → Program → Reading → Bool → FoundRow → State → State → Type 0
NextTested true p r retry x s t = (n : ℕ) (forward only wait : Bool) (prefix : List Value) (ks : List StackEntry) →
    next_answered p (Some x) n (search_with r forward only wait retry prefix) ks s ≡ config (Execute (Takes (search_with r forward only wait retry prefix) x.cursor x.values)) (OrDo (Looks n (search_with r forward only wait retry prefix) (Some x.cursor)) ∷ ks) t
NextTested false p r retry x s t = (n : ℕ) (forward only wait : Bool) (prefix : List Value) (ks : List StackEntry) →
    next_answered p (Some x) n (search_with r forward only wait retry prefix) ks s ≡ config (Execute (Looks n (search_with r forward only wait retry prefix) (Some x.cursor))) ks t

abbrev pub NextGoes : Result NextTest EvalFault → Program → Reading → Bool → FoundRow → State → State → Type 0
NextGoes (Ok found) p r retry x s t = (found.cursor ≡ x.cursor) × NextTested found.passes p r retry x s t
NextGoes (Err (Fault f)) p r retry x s t = (n : ℕ) (forward only wait : Bool) (prefix : List Value) (ks : List StackEntry) →
    next_answered p (Some x) n (search_with r forward only wait retry prefix) ks s ≡ fault (complaint_of f) ks t
NextGoes (Err NoMemory) p r retry x s t = Unit {0}

-- after the search for a second match found a record: it is a match, or the search continues after it
abbrev pub SecondTested : Bool → Program → Reading → Bool → FoundRow → State → State → Type 0
SecondTested true p r retry x s t = (n : ℕ) (forward only wait : Bool) (prefix : List Value) (c : Cursor) (values : List Value) (ks : List StackEntry) →
    second_answered p (Some x) n (search_with r forward only wait retry prefix) c values ks s ≡ fault (MoreThanOne r.buffer) ks t
SecondTested false p r retry x s t = (n : ℕ) (forward only wait : Bool) (prefix : List Value) (c : Cursor) (values : List Value) (ks : List StackEntry) →
    second_answered p (Some x) n (search_with r forward only wait retry prefix) c values ks s ≡ config (Execute (Seconds n (search_with r forward only wait retry prefix) c values x.cursor)) ks t

abbrev pub SecondGoes : Result NextTest EvalFault → Program → Reading → Bool → FoundRow → State → State → Type 0
SecondGoes (Ok found) p r retry x s t = (found.cursor ≡ x.cursor) × SecondTested found.passes p r retry x s t
SecondGoes (Err (Fault f)) p r retry x s t = (n : ℕ) (forward only wait : Bool) (prefix : List Value) (c : Cursor) (values : List Value) (ks : List StackEntry) →
    second_answered p (Some x) n (search_with r forward only wait retry prefix) c values ks s ≡ fault (complaint_of f) ks t
SecondGoes (Err NoMemory) p r retry x s t = Unit {0}

-- after the row was read again: the buffer holds it under the lock, or it is lost
abbrev pub ReadGoes : Result Bool EvalFault → Program → Option (List Value) → Reading → Bool → RowId → LockWanted → State → State → Type 0
ReadGoes (Ok true) p values r retry row lock s t = (ks : List StackEntry) → read_answered p values r retry row (held_as lock) ks s ≡ config (Unwind Normal) ks t
ReadGoes (Ok false) p values r retry row lock s t = (ks : List StackEntry) → read_answered p values r retry row (held_as lock) ks s ≡ config (Unwind Lost) ks t
ReadGoes (Err (Fault f)) p values r retry row lock s t = (ks : List StackEntry) → read_answered p values r retry row (held_as lock) ks s ≡ fault (complaint_of f) ks t
ReadGoes (Err NoMemory) p values r retry row lock s t = Unit {0}

-- after the answer to Lock: a granted lock changes nothing, and a busy row is a fault. A row that is gone is Lost for a search, and a fault
-- for FIND CURRENT
abbrev pub GrantGoes : Grant → Reading → State → State → Type 0
GrantGoes grant.Granted r s t = t ≡ s
GrantGoes grant.Busy r s t = (retry : Bool) (row : RowId) (made : Option ℕ) (ks : List StackEntry) →
    (grant_answered IsBusy r retry row ks s ≡ fault (IsLocked r.buffer) ks t) × (current_grant_answered IsBusy r row made ks s ≡ fault (IsLocked r.buffer) ks t)
GrantGoes grant.Gone r s t = (retry : Bool) (row : RowId) (made : Option ℕ) (ks : List StackEntry) →
    (grant_answered IsGone r retry row ks s ≡ config (Unwind Lost) ks t) × (current_grant_answered IsGone r row made ks s ≡ fault (NoRecordFound r.buffer) ks t)

-- FIND CURRENT: an empty buffer is a fault, a pending record stays, a row is read again
abbrev pub CurrentGoes : Current → Reading → State → State → Type 0
CurrentGoes current.Empty r s t = (wait : Bool) (ks : List StackEntry) → current_in_step (content_of r.buffer s) r wait ks s ≡ fault (NoRecordIn r.buffer) ks t
CurrentGoes current.Pending r s t = (wait : Bool) (ks : List StackEntry) → current_in_step (content_of r.buffer s) r wait ks s ≡ config (Unwind Normal) ks t
CurrentGoes (current.Record row made) r s t = (wait : Bool) (ks : List StackEntry) → current_in_step (content_of r.buffer s) r wait ks s ≡ current_step r.lock r wait row made ks t

-- after the row was read: the buffer holds it, or no record is found
abbrev pub CurrentRead : Bool → Option (List Value) → Reading → RowId → Option ℕ → State → State → Type 0
CurrentRead true values r row made s t = (ks : List StackEntry) → current_answered values r row made ks s ≡ config (Unwind Normal) ks t
CurrentRead false values r row made s t = (ks : List StackEntry) → current_answered values r row made ks s ≡ fault (NoRecordFound r.buffer) ks t

-- where the reading of a FOR begins: with a search, or with the record of the iteration again; or there is no further record
abbrev pub FetchGoes : FetchStart → Bool → Fetch → Bool → Option Cursor → Type 0
FetchGoes (fetch_start.Search forward from) again f retry own = (ks : List StackEntry) (s : State) → fetch_step again f retry own ks s ≡ config (Execute (Searches f.reading forward false true retry from)) ks s
FetchGoes (fetch_start.Again cursor) again f retry own = (ks : List StackEntry) (s : State) → fetch_step again f retry own ks s ≡ config (Execute (TakesAgain f.reading retry cursor.row)) (ThenDo (Completes (Found cursor)) ∷ OrDo (Searches f.reading (is_forward f.word) false true retry (Some cursor)) ∷ ks) s
FetchGoes fetch_start.End again f retry own = (ks : List StackEntry) (s : State) → fetch_step again f retry own ks s ≡ config (Unwind NotFound) ks s
