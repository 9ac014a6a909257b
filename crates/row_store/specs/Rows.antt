-- What the calls of a store of rows with transactions do.
use Rattle.std.specs.Prelude.{◌≡◌, ◌≢◌, ◌⊎◌, ℕ, ◌+◌, ◌-◌, ◌<◌, ◌≤◌, ◌==◌, max, Bool, true, false, ◌||◌, if◌then◌else◌, List, [], ◌∷◌, ◌++◌, take, drop, Option, None, IsTrue, IsFalse, Result, IsErrOf, ℤ}
use Rattle.storage.specs.faults.Faults.{Rose}
use Rattle.abl_base.specs.declared.limits.TheConstants.{FIRST_ROW, ROW_LIMIT}
use Rattle.abl_values.specs.Schema.{SchemaData}
use Rattle.database_meaning.specs.declared.state.StoredRow.{StoredRow}
use Rattle.database_meaning.specs.declared.state.Key.{Key}
use Rattle.database_meaning.specs.Setting.{unique_keys, has_key, keys_without, fragments}
use Rattle.row_store.specs.declared.store.RowChange.{RowChange}
use Rattle.row_store.specs.declared.store.RowFault.{RowFault}
use Rattle.row_store.specs.declared.store.RowFault.TheVariants.{Disk, NoMemory}
use Rattle.row_store.specs.Changes.{RowsById, with_row, undone, has_change}

-- a client's transaction
pub record RowTransaction : Type 0 where
  pub begun : Bool
  pub changes : List RowChange  -- those that are not undone, the oldest first
  pub touched : ℕ → Bool  -- the rows that it changed, undone changes included
  pub reserved : Key → Bool  -- the unique keys that it entered, left or deleted, undone changes included
  pub drawn : ℕ  -- the fragments that it drew, undone changes included
  pub written : ℕ  -- its slot writes, undone changes included

pub record RowState : Type 0 where
  pub observable : Bool  -- the store knows what its slots hold
  pub failed : Bool  -- a call has answered Disk
  pub schema : SchemaData
  pub rows : RowsById  -- the present rows, with the changes of open transactions
  pub committed : RowsById  -- what the committed transactions left
  pub sequences : List ℤ  -- the sequence values that the last commit stored
  pub transaction : ℕ → RowTransaction

-- the rows are known, and no call has answered Disk
abbrev pub IsObservable : RowState → Type 0
IsObservable s = IsTrue s.observable × (s.failed ≡ false)

abbrev pub no_transaction : RowTransaction
no_transaction = record { begun = false; changes = []; touched = λ k. false; reserved = λ k. false; drawn = 0; written = 0 }

-- ---- what holds between two calls

-- changes are of rows that the transaction touched, and no two transactions touched one row. A row without a change is as committed,
-- and undoing a transaction's changes gives what is committed
pub record IsConsistent (s : RowState) : Type 0 where
  pub touched : (c k : ℕ) → IsTrue (has_change (s.transaction c).changes k) → IsTrue ((s.transaction c).touched k)
  pub apart : (c d k : ℕ) → c ≢ d → IsTrue ((s.transaction c).touched k) → IsFalse ((s.transaction d).touched k)
  pub base : IsObservable s → (k : ℕ) → ((c : ℕ) → IsFalse (has_change (s.transaction c).changes k)) → s.rows k ≡ s.committed k
  pub back : IsObservable s → (c k : ℕ) → IsTrue (has_change (s.transaction c).changes k) → undone (s.transaction c).changes s.rows k ≡ s.committed k
  pub idle : (c : ℕ) → (s.transaction c).begun ≡ false → s.transaction c ≡ no_transaction

-- ---- calls

-- after the answer Disk: what is committed and the transactions stay
pub record Fails (old new : RowState) : Type 0 where
  pub observable : new.observable ≡ old.observable
  pub failed : new.failed ≡ true
  pub schema : new.schema ≡ old.schema
  pub committed : IsTrue old.observable → new.committed ≡ old.committed
  pub sequences : IsTrue old.observable → new.sequences ≡ old.sequences
  pub transaction : new.transaction ≡ old.transaction

-- the state after an error
pub record AfterError {T : Type 0} (old new : RowState) (result : Result T RowFault) : Type 0 where
  pub memory : IsErrOf result NoMemory → new ≡ old
  pub disk : IsErrOf result Disk → Fails old new

pub record SameBase (old new : RowState) : Type 0 where
  pub observable : new.observable ≡ old.observable
  pub failed : new.failed ≡ old.failed
  pub schema : new.schema ≡ old.schema
  pub committed : new.committed ≡ old.committed
  pub sequences : new.sequences ≡ old.sequences

-- what a stop leaves: rows and sequence values
pub record Durable : Type 0 where
  pub rows : RowsById
  pub sequences : List ℤ

abbrev pub durable_of : RowState → Durable
durable_of s = record { rows = s.committed; sequences = s.sequences }

-- one client's transaction becomes another, and no other client's changes
pub record Becomes (client : ℕ) (old new : ℕ → RowTransaction) (after : RowTransaction) : Type 0 where
  pub others : (c : ℕ) → c ≢ client → new c ≡ old c
  pub own : new client ≡ after

pub record Begins (old new : RowState) (client : ℕ) : Type 0 where
  pub base : SameBase old new
  pub rows : new.rows ≡ old.rows
  pub transaction : Becomes client old.transaction new.transaction (record no_transaction { begun = true })

-- the unique keys that a row enters or leaves: those that only one of the two has
abbrev pub is_moved : SchemaData → Option StoredRow → Option StoredRow → Key → Bool
is_moved schema old new key =
    has_key (keys_without (unique_keys schema new) (unique_keys schema old)) key || has_key (keys_without (unique_keys schema old) (unique_keys schema new)) key

-- the transaction with one more change
abbrev pub with_change : SchemaData → RowTransaction → ℕ → Option StoredRow → Option StoredRow → RowTransaction
with_change schema t row old new =
    record {
      begun = true;
      changes = t.changes ++ record { row = row; old = old } ∷ [];
      touched = λ k. (k == row) || t.touched k;
      reserved = λ key. is_moved schema old new key || t.reserved key;
      drawn = t.drawn + (fragments new - fragments old);
      written = t.written + max (fragments new) (fragments old);
    }

-- the row has this value, and the change can be undone
pub record ChangesRow (old new : RowState) (client row : ℕ) (value : Option StoredRow) : Type 0 where
  pub base : SameBase old new
  pub rows : IsObservable old → new.rows ≡ with_row old.rows row value
  pub before : Option StoredRow
  pub before_is : IsObservable old → before ≡ old.rows row
  pub transaction : Becomes client old.transaction new.transaction (with_change old.schema (old.transaction client) row before value)

-- an identity with no row, which no transaction touched
pub record IsFree (s : RowState) (row : ℕ) : Type 0 where
  pub from : FIRST_ROW ≤ row
  pub below : row < ROW_LIMIT
  pub empty : IsObservable s → s.rows row ≡ None
  pub untouched : (c : ℕ) → IsFalse ((s.transaction c).touched row)

-- the changes after the mark are undone; rows touched, reserved keys and counts stay
pub record GoesBack (old new : RowState) (client mark : ℕ) : Type 0 where
  pub base : SameBase old new
  pub rows : IsObservable old → new.rows ≡ undone (drop mark (old.transaction client).changes) old.rows
  pub transaction : let t = old.transaction client in Becomes client old.transaction new.transaction (record t { changes = take mark t.changes })

-- the committed rows, with the present values of the rows of these changes
abbrev pub joined : List RowChange → RowsById → RowsById → RowsById
joined changes rows committed k = if has_change changes k then rows k else committed k

-- what a commit of the client leaves, with these sequence values
abbrev pub commit_of : RowState → ℕ → List ℤ → Durable
commit_of s client sequences = record { rows = joined (s.transaction client).changes s.rows s.committed; sequences = sequences }

pub record Commits (old new : RowState) (client : ℕ) (sequences : List ℤ) : Type 0 where
  pub observable : new.observable ≡ old.observable
  pub failed : new.failed ≡ old.failed
  pub schema : new.schema ≡ old.schema
  pub rows : new.rows ≡ old.rows
  pub committed : IsObservable old → durable_of new ≡ commit_of old client sequences
  pub transaction : Becomes client old.transaction new.transaction no_transaction

-- all changes are undone and the transaction ends, where the disk fails on the way too; that is no answer Disk
pub record Abandons (old new : RowState) (client : ℕ) : Type 0 where
  pub base : SameBase old new
  pub rows : IsObservable old → new.rows ≡ undone (old.transaction client).changes old.rows
  pub transaction : Becomes client old.transaction new.transaction no_transaction

-- Disk is answered only where the disk's count rose in this call, or an earlier call has answered Disk
pub record HasCause {T : Type 0} (before after : ℕ) (old : RowState) (result : Result T RowFault) : Type 0 where
  pub later : before ≤ after
  pub disk : IsErrOf result Disk → Rose before after ⊎ IsTrue old.failed

abbrev pub OnlyDisk : {T : Type 0} → Result T RowFault → Type 0
OnlyDisk result = IsErrOf result NoMemory → ⊥
