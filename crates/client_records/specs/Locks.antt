-- The lock before a change, with the row that is held.
use Rattle.std.specs.Prelude.{◌≡◌, ℕ, List}
use Rattle.block_meaning.specs.Frames.{content_of, table_of}
use Rattle.block_meaning.specs.Lines.{IsReadNoLock}
use Rattle.block_meaning.specs.State.{State, Normal}
use Rattle.flat_machine.specs.Flat as flat
use Rattle.buffer_steps.specs.declared.changes.stores.StoreStep.{StoreStep}
use Rattle.buffer_steps.specs.declared.changes.stores.StoreStep.TheVariants as store
use Rattle.client_machine.specs.Order.{IsNotOnLevels}
use Rattle.client_records.specs.declared.memory.LockStep.{LockStep}
use Rattle.client_records.specs.declared.memory.LockStep.TheVariants as lock

-- there is one or none is needed, the record is read NO-LOCK, or the share lock is upgraded
abbrev pub LockIs : LockStep → ℕ → State → Type 0
LockIs lock.Enough b s = (ks : List flat.StackEntry) → flat.lock_step (content_of b s) (table_of b s) b ks s ≡ flat.config (flat.Unwind Normal) ks s
LockIs lock.ReadNoLock b s = (ks : List flat.StackEntry) → flat.lock_step (content_of b s) (table_of b s) b ks s ≡ flat.fault (IsReadNoLock b) ks s
LockIs (lock.Asks op row values made) b s = IsNotOnLevels op × ((ks : List flat.StackEntry) → flat.lock_step (content_of b s) (table_of b s) b ks s ≡ flat.ask op (flat.WasUpgraded b row values made) ks s)

-- the operation that stores a record, if one is asked for, is not on levels
abbrev pub StoresRow : StoreStep → Type 0
StoresRow (store.Asks op) = IsNotOnLevels op
StoresRow step = Unit {0}
