-- A store that is opened over slots which hold rows, and slots that are refused.
use Rattle.std.specs.Prelude.{◌≡◌, ◌≢◌, ◌⊎◌, ℕ, ◌≤◌, nat_lt, if◌then◌else◌, false, List, [], length, Some, None, IsTrue, Result, IsErrOf, OnOk}
use Rattle.storage.specs.faults.Faults.{Rose}
use Rattle.abl_base.specs.declared.limits.TheConstants.{MAX_KEY_BYTES}
use Rattle.storage.specs.Slots.{Goes, IsReadable, KeepsCommitted, Rests, SlotState}
use Rattle.abl_values.specs.Schema.{SchemaData}
use Rattle.database_meaning.specs.declared.state.Key.{Key}
use Rattle.database_meaning.specs.declared.state.StoredRow.{StoredRow}
use Rattle.database_meaning.specs.Setting.{FitsTable, HasIndex, HasTable, has_key, key_in, unique_keys}
use Rattle.row_store.specs.Changes.{RowsById}
use Rattle.row_store.specs.Rows.{RowState, durable_of, no_transaction}
use Rattle.key_index.specs.Index.{Keys}
use Rattle.row_indexes.specs.Places.{places_of}
use Rattle.row_keys.specs.Entries.{AreEntries}
use Rattle.row_fragments.specs.Chains.{AreChains}
use Rattle.sequence_slots.specs.Values.{HoldValues, values_in}
use Rattle.slot_rows.specs.Decoded.{decoded}
use Rattle.slot_rows.specs.Durable.{durable_in}
use Rattle.indexed_store.specs.declared.open_error.OpenError.{OpenError}
use Rattle.indexed_store.specs.declared.open_error.OpenError.TheVariants.{Disk}

-- ---- rows and values that a store may have

-- the row is of a table, its values are a row of that table, and none of its keys is too long
pub record IsSoundRow (schema : SchemaData) (row : StoredRow) : Type 0 where
  pub table : HasTable schema row.table
  pub fits : FitsTable schema row.table row.values
  pub short : (index : ℕ) → HasIndex schema row.table index → length (key_in schema row.table index row.values) ≤ MAX_KEY_BYTES

-- each of the rows is, and no two of them have a unique key in common
pub record AreSoundRows (schema : SchemaData) (rows : RowsById) : Type 0 where
  pub each : (k : ℕ) (row : StoredRow) → rows k ≡ Some row → IsSoundRow schema row
  pub apart : (k other : ℕ) (key : Key) → IsTrue (has_key (unique_keys schema (rows k)) key) → IsTrue (has_key (unique_keys schema (rows other)) key) → k ≡ other

-- the slots hold values for the sequences of the schema, and sound rows in chains: each slot for rows is free or in the chain of just one row
pub record HoldStore (schema : SchemaData) (slots : ℕ → List ℕ) : Type 0 where
  pub values : HoldValues slots (values_in (length schema.sequences) slots)
  pub rows : AreSoundRows schema (decoded schema slots)
  pub chains : AreChains slots

-- ---- opening

-- slots that may be opened: no transaction is begun, no call has answered Disk, and what they read is committed, with no commit in doubt
pub record CanOpen (s : SlotState) : Type 0 where
  pub idle : (c : ℕ) → (s.transaction c).begun ≡ false
  pub clean : (c : ℕ) → (s.transaction c).undo ≡ []
  pub fine : s.failed ≡ false
  pub settled : IsReadable s → (k : ℕ) → s.committed k ≡ s.reads k
  pub certain : IsReadable s → (k : ℕ) → s.doubt k ≡ s.committed k

-- no transaction is begun, and the rows and sequence values are those that the slots hold
pub record IsOpenedStore (s : RowState) (schema : SchemaData) (slots : SlotState) : Type 0 where
  pub schema_is : s.schema ≡ schema
  pub fine : s.failed ≡ false
  pub observable : s.observable ≡ slots.observable
  pub idle : (c : ℕ) → s.transaction c ≡ no_transaction
  pub rows : IsTrue slots.observable → s.rows ≡ decoded schema slots.reads
  pub durable : IsTrue slots.observable → durable_of s ≡ durable_in schema slots.reads
  pub count : length s.sequences ≡ length schema.sequences
  pub held : IsTrue slots.observable → HoldStore schema slots.reads

-- what is committed stays, and unless the disk failed the slots may be opened again
pub record IsRefused (old new : SlotState) (before after : ℕ → (ℕ → List ℕ) → Type 0) (error : OpenError) : Type 0 where
  pub keeps : KeepsCommitted old new
  pub time : Goes old new before after
  pub later : old.faults ≤ new.faults
  pub disk : error ≡ Disk → Rose old.faults new.faults
  pub again : error ≢ Disk → CanOpen new

-- ---- rows that are read and entered one after another

-- the rows with identities below this number
abbrev pub rows_before : ℕ → RowsById → RowsById
rows_before at rows k = if nat_lt k at then rows k else None

-- these rows are sound, and the indexes have their entries
pub record AreEntered (schema : SchemaData) (rows : RowsById) (indexes : List Keys) : Type 0 where
  pub entries : AreEntries schema rows (places_of indexes)
  pub sound : AreSoundRows schema rows

-- rows were read: what is committed stays, and unless the disk failed the rows and transactions are as before
pub record HasRead {T : Type 0} (old new : SlotState) (before after : ℕ → (ℕ → List ℕ) → Type 0) (was now : RowState) (result : Result T OpenError) : Type 0 where
  pub keeps : KeepsCommitted old new
  pub time : Goes old new before after
  pub later : old.faults ≤ new.faults
  pub disk : IsErrOf result Disk → Rose old.faults new.faults ⊎ IsTrue old.failed
  pub same : (IsErrOf result Disk → ⊥) → now ≡ was
  pub rests : OnOk result (Rests old new)
