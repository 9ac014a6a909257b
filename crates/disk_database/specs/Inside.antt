-- What is kept between the parts of an opening.
use Rattle.std.specs.Prelude.{◌≡◌, ◌≢◌, ℕ, Bool, false, List, IsTrue}
use Rattle.storage.specs.Slots.{IsReadable, SlotState}
use Rattle.storage.specs.declared.slots.SlotFault.{SlotFault}
use Rattle.storage.specs.declared.slots.SlotFault.TheVariants as slot
use Rattle.abl_values.specs.Schema.{SchemaData, canonical_text}
use Rattle.abl_values.specs.Sound.{IsSound}
use Rattle.schema_text.specs.Written.{IsHeld}
use Rattle.row_store.specs.Rows.{RowState}
use Rattle.log_meaning.specs.steps.Steps.{Image}
use Rattle.log_meaning.specs.Images.{Recovers}
use Rattle.bi_recovery.specs.declared.open_fault.OpenFault.{OpenFault}
use Rattle.bi_recovery.specs.declared.open_fault.OpenFault.TheVariants as fault
use Rattle.indexed_store.specs.Opened.{IsOpenedStore}
use Rattle.indexed_store.specs.declared.open_error.OpenError.{OpenError}
use Rattle.indexed_store.specs.declared.open_error.OpenError.TheVariants as error
use Rattle.database_layout.specs.stored_text.Held.{HoldText}
use Rattle.disk_database.specs.Answers.{AreDatabase}
use Rattle.disk_database.specs.Parts.{LeaveUnused}
use Rattle.disk_database.specs.declared.refusals.OpenRefusal.{OpenRefusal}
use Rattle.disk_database.specs.declared.refusals.OpenRefusal.TheVariants.{NotCreated, SchemaDiffers, Disk, NoMemory}

-- what a fault of the recovery means
abbrev pub of_fault : OpenFault → OpenRefusal
of_fault fault.NotCreated = NotCreated
of_fault fault.Disk = Disk
of_fault fault.NoMemory = NoMemory

-- what a fault of the recovery means after the disk was judged: the disk recovers, so NotCreated would be out of memory
abbrev pub of_late_fault : OpenFault → OpenRefusal
of_late_fault fault.NotCreated = NoMemory
of_late_fault fault.Disk = Disk
of_late_fault fault.NoMemory = NoMemory

-- what an error of the store means: slots without the rows of a database are none
abbrev pub of_error : OpenError → OpenRefusal
of_error error.Disk = Disk
of_error error.NoMemory = NoMemory
of_error error.Unsound = NotCreated

-- what a refusal of the slots means: full transactions, of which there are none, count as out of memory
abbrev pub of_slots : SlotFault → OpenRefusal
of_slots slot.Disk = Disk
of_slots slot.TxFull = NoMemory
of_slots slot.NoMemory = NoMemory

-- the slots hold a database, of this schema
pub record HoldDatabase (slots : ℕ → List ℕ) : Type 0 where
  pub schema : SchemaData
  pub sound : IsSound schema
  pub held : IsHeld schema
  pub are : AreDatabase schema slots

-- one of a schema with this text
abbrev pub HoldDatabaseWith : List ℕ → (ℕ → List ℕ) → Type 0
HoldDatabaseWith text slots = (database : HoldDatabase slots) × (canonical_text database.schema ≡ text)

-- what the slots say against this schema: they hold no database, or one of a schema with another text
abbrev pub IsSlotRefusal : SchemaData → SlotState → OpenRefusal → Type 0
IsSlotRefusal schema s NotCreated = IsReadable s → ¬ HoldDatabase s.reads
IsSlotRefusal schema s (SchemaDiffers stored given) = (given ≡ canonical_text schema) × (stored ≢ given) × (IsReadable s → HoldDatabaseWith stored s.reads)
IsSlotRefusal schema s refusal = Unit {0}

-- Slots of a disk that was opened at the moment `was`, at which it was observable or not, read `seen` and could leave these images: what is
-- committed is what `seen` recovers to, no commit is in doubt, and a stop leaves what an image of that moment recovered to
pub record AreOpened (s : SlotState) (stop : ℕ → (ℕ → List ℕ) → Type 0) (observable : Bool) (seen : Image) (was : ℕ) (left : ℕ → Image → Type 0) : Type 0 where
  pub same_observable : s.observable ≡ observable
  pub since : s.since ≡ was
  pub certain : IsTrue observable → s.doubt ≡ s.committed
  pub recovered : IsTrue observable → Recovers seen s.committed
  pub come : (m : ℕ) (slots : ℕ → List ℕ) → stop m slots → (old : Image) × left was old × Recovers old slots

-- the store has the rows and values that the slots have committed
pub record IsStoreOver (rows : RowState) (schema : SchemaData) (s : SlotState) : Type 0 where
  pub opened : SlotState
  pub store : IsOpenedStore rows schema opened
  pub same_observable : opened.observable ≡ s.observable
  pub reads : IsTrue s.observable → opened.reads ≡ s.committed

-- the store has the rows and values of its slots, in which no transaction is begun, and these hold the text of this schema, and zeros where
-- nothing belongs
pub record AreJudged (rows : RowState) (schema : SchemaData) (s : SlotState) : Type 0 where
  pub store : IsOpenedStore rows schema s
  pub readable : IsReadable s
  pub idle : (c : ℕ) → (s.transaction c).begun ≡ false
  pub text : HoldText s.reads (canonical_text schema)
  pub unused : LeaveUnused schema s.reads
