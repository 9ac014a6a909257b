-- The state of a store of rows, as slots and the transactions' changes have it. Which keys are reserved and which sequence values are stored are for the layer above to say.
use Rattle.std.specs.Prelude.{◌≡◌, ◌≢◌, ℕ, ◌||◌, ◌&&◌, not, Bool, true, false, List, Option, None, ℤ}
use Rattle.storage.specs.Slots.{SlotState}
use Rattle.storage.specs.declared.slots.SlotFault.{SlotFault}
use Rattle.storage.specs.declared.slots.SlotFault.TheVariants.{Disk as SlotDisk, TxFull, NoMemory as SlotMemory}
use Rattle.byte_rows.specs.declared.fault.ChainFault.{ChainFault}
use Rattle.byte_rows.specs.declared.fault.ChainFault.TheVariants.{Full, Slot}
use Rattle.abl_values.specs.Schema.{SchemaData}
use Rattle.database_meaning.specs.declared.state.Key.{Key}
use Rattle.database_meaning.specs.declared.state.StoredRow.{StoredRow}
use Rattle.row_store.specs.Changes.{RowsById}
use Rattle.row_store.specs.Rows.{RowState, RowTransaction, is_moved}
use Rattle.row_store.specs.declared.store.RowFault.{RowFault}
use Rattle.row_store.specs.declared.store.RowFault.TheVariants.{Disk, NoMemory}
use Rattle.slot_rows.specs.declared.fault.OpenFault.{OpenFault}
use Rattle.slot_rows.specs.declared.fault.OpenFault.TheVariants.{Broken, Slot as SlotRefusal}
use Rattle.slot_rows.specs.declared.open.Open.{Open}
use Rattle.slot_rows.specs.Decoded.{decoded}
use Rattle.slot_rows.specs.Opens.{OpenView, open_in}
use Rattle.slot_rows.specs.Stored.{changes_of, has}

-- the keys that each client reserves
abbrev pub Reserved : Type 0
Reserved = ℕ → Key → Bool

abbrev pub no_rows : RowsById
no_rows k = None

-- the rows, where they are known
abbrev pub rows_if : Bool → RowsById → RowsById
rows_if true rows = rows
rows_if false rows = no_rows

abbrev pub transaction_of : Bool → (Key → Bool) → OpenView → RowTransaction
transaction_of begun reserved v = record {
  begun = begun;
  changes = changes_of v.log;
  touched = has v.touched;
  reserved = reserved;
  drawn = v.drawn;
  written = v.written;
}

abbrev pub state_of : SchemaData → Reserved → List ℤ → SlotState → List Open → RowState
state_of schema reserved sequences s opens = record {
  observable = s.observable;
  failed = s.failed;
  schema = schema;
  rows = rows_if (s.observable && not s.failed) (decoded schema s.reads);
  committed = rows_if s.observable (decoded schema s.committed);
  sequences = sequences;
  transaction = λ c. transaction_of (s.transaction c).begun (reserved c) (open_in opens c);
}

-- the client reserves the unique keys that only one of the two rows has, and no other client reserves more
pub record ReservesMoved (schema : SchemaData) (before after : Reserved) (client : ℕ) (old new : Option StoredRow) : Type 0 where
  pub own : after client ≡ (λ key. is_moved schema old new key || before client key)
  pub others : (c : ℕ) → c ≢ client → after c ≡ before c

-- why the slots refused a call, said of rows
abbrev pub row_error : ChainFault → RowFault
row_error (Slot SlotDisk) = Disk
row_error (Slot TxFull) = NoMemory
row_error (Slot SlotMemory) = NoMemory
row_error Full = NoMemory

-- why slots were not opened, as a refusal of theirs: Broken, which they never answer, counts as out of memory
abbrev pub slot_fault : OpenFault → SlotFault
slot_fault (SlotRefusal fault) = fault
slot_fault Broken = SlotMemory
