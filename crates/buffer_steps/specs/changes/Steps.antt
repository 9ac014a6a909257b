-- The continuation of each step of a change, from the state before it to the state after it.
use Rattle.std.specs.Prelude.{◌≡◌, ℕ, List, ◌∷◌, Option}
use Rattle.abl_base.specs.declared.row.RowId.{RowId}
use Rattle.abl_base.specs.declared.value.Value.{Value}
use Rattle.block_meaning.specs.Lines.{IsReadNoLock, NoRecordIn}
use Rattle.block_meaning.specs.Program.{Program, table_at}
use Rattle.block_meaning.specs.State.{State, Held, Record, Share, Normal}
use Rattle.block_meaning.specs.Frames.{content_of, emptied, table_of}
use Rattle.block_meaning.specs.Buffers.{own, missing_field}
use Rattle.flat_machine.specs.Config.{StackEntry, Execute, Unwind, EntersOne, DeletesRow, ThenDo, WasPut, WasUpgraded}
use Rattle.flat_machine.specs.Steps.{ask, config, fault, delete_step, lock_step, put_unless, settle_step, upgrade_step}
use Rattle.record_rules.specs.lines.Complaints.{complaint_in}
use Rattle.buffer_steps.specs.declared.changes.locks.ChangeLock.{ChangeLock}
use Rattle.buffer_steps.specs.declared.changes.locks.ChangeLock.TheVariants as change_lock
use Rattle.buffer_steps.specs.declared.changes.deletes.DeleteStep.{DeleteStep}
use Rattle.buffer_steps.specs.declared.changes.deletes.DeleteStep.TheVariants as delete
use Rattle.buffer_steps.specs.declared.changes.stores.StoreStep.{StoreStep}
use Rattle.buffer_steps.specs.declared.changes.stores.StoreStep.TheVariants as store

-- the lock for a change of the record in buffer b: there is one or none is needed, the record is read NO-LOCK, or the share
-- lock is upgraded
abbrev pub LockGoes : ChangeLock → ℕ → State → Type 0
LockGoes change_lock.Enough b s = (ks : List StackEntry) → lock_step (content_of b s) (table_of b s) b ks s ≡ config (Unwind Normal) ks s
LockGoes change_lock.ReadNoLock b s = (ks : List StackEntry) → lock_step (content_of b s) (table_of b s) b ks s ≡ fault (IsReadNoLock b) ks s
LockGoes (change_lock.Asks op row) b s = (values : List Value) × (made : Option ℕ) × (content_of b s ≡ Record row values Share made) × ((ks : List StackEntry) → lock_step (content_of b s) (table_of b s) b ks s ≡ ask op (WasUpgraded b row values made) ks s)

-- the same for a row with the lock `held`
abbrev pub UpgradeGoes : ChangeLock → ℕ → RowId → Held → Type 0
UpgradeGoes change_lock.Enough t row held = (b : ℕ) (values : List Value) (made : Option ℕ) (ks : List StackEntry) (s : State) → upgrade_step held t b row values made ks s ≡ config (Unwind Normal) ks s
UpgradeGoes change_lock.ReadNoLock t row held = (b : ℕ) (values : List Value) (made : Option ℕ) (ks : List StackEntry) (s : State) → upgrade_step held t b row values made ks s ≡ fault (IsReadNoLock b) ks s
UpgradeGoes (change_lock.Asks op r) t row held = (r ≡ row) × (held ≡ Share) × ((b : ℕ) (values : List Value) (made : Option ℕ) (ks : List StackEntry) (s : State) → upgrade_step held t b row values made ks s ≡ ask op (WasUpgraded b row values made) ks s)

-- DELETE of the record in buffer b: there is none, a pending one is dropped, a row is deleted under its exclusive lock
abbrev pub DeleteGoes : DeleteStep → ℕ → State → State → Type 0
DeleteGoes delete.NoRecord b s t = (ks : List StackEntry) → delete_step (content_of b s) (table_of b s) b ks s ≡ fault (NoRecordIn b) ks t
DeleteGoes delete.Dropped b s t = (ks : List StackEntry) → delete_step (content_of b s) (table_of b s) b ks s ≡ config (Unwind Normal) ks t
DeleteGoes (delete.Row table row) b s t = (t ≡ s) × ((ks : List StackEntry) → delete_step (content_of b s) (table_of b s) b ks s ≡ lock_step (content_of b s) (table_of b s) b (ThenDo (DeletesRow b table row) ∷ ks) s)

-- the same, before the buffer is emptied
abbrev pub FoundGoes : DeleteStep → ℕ → State → Type 0
FoundGoes delete.NoRecord b s = (ks : List StackEntry) → delete_step (content_of b s) (table_of b s) b ks s ≡ fault (NoRecordIn b) ks s
FoundGoes delete.Dropped b s = (ks : List StackEntry) → delete_step (content_of b s) (table_of b s) b ks s ≡ config (Unwind Normal) ks (emptied b s)
FoundGoes (delete.Row table row) b s = (ks : List StackEntry) → delete_step (content_of b s) (table_of b s) b ks s ≡ lock_step (content_of b s) (table_of b s) b (ThenDo (DeletesRow b table row) ∷ ks) s

-- a row in a buffer is stored: a fault if it may not be, else the operation that stores it
abbrev pub PutGoes : StoreStep → Program → ℕ → RowId → List Value → Type 0
PutGoes store.Nothing p t row vs = ⊥
PutGoes store.Inserts p t row vs = ⊥
PutGoes (store.Fails c) p t row vs = (b : ℕ) (ks : List StackEntry) (s : State) → put_unless (missing_field 0 (table_at p t).fields vs) b t row vs ks s ≡ fault (complaint_in c) ks s
PutGoes (store.Asks op) p t row vs = (b : ℕ) (ks : List StackEntry) (s : State) → put_unless (missing_field 0 (table_at p t).fields vs) b t row vs ks s ≡ ask op (WasPut b t) ks s

-- a changed record is stored: there is nothing to store, a pending one is inserted now, it may not be stored, or Put is asked
abbrev pub SettleGoes : StoreStep → Program → ℕ → State → Type 0
SettleGoes store.Nothing p b s = (ks : List StackEntry) → settle_step p (content_of b s) (table_of b s) b ks s ≡ config (Unwind Normal) ks s
SettleGoes store.Inserts p b s = (ks : List StackEntry) → settle_step p (content_of b s) (table_of b s) b ks s ≡ config (Execute (EntersOne (own b))) ks s
SettleGoes (store.Fails c) p b s = (ks : List StackEntry) → settle_step p (content_of b s) (table_of b s) b ks s ≡ fault (complaint_in c) ks s
SettleGoes (store.Asks op) p b s = (ks : List StackEntry) → settle_step p (content_of b s) (table_of b s) b ks s ≡ ask op (WasPut b (table_of b s)) ks s
