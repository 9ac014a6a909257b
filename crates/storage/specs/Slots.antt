-- What the calls of an array of slots with transactions do.
use Rattle.std.specs.Prelude.{◌≡◌, ◌≢◌, ◌⊎◌, ℕ, ◌+◌, ◌-◌, ◌<◌, ◌≤◌, ◌^◌, ◌==◌, nat_le, Bool, true, false, ◌||◌, ◌&&◌, if◌then◌else◌, List, [], ◌∷◌, ◌++◌, replicate, take, drop, IsTrue, Result, IsErrOf}
use Rattle.storage.specs.faults.Faults.{Rose}
use Rattle.storage.specs.declared.slots.Undo.{Undo}
use Rattle.storage.specs.declared.slots.SlotFault.{SlotFault}
use Rattle.storage.specs.declared.slots.SlotFault.TheVariants.{Disk, TxFull, NoMemory}

-- the slots, with these bytes in one of them
abbrev pub put : (ℕ → List ℕ) → ℕ → List ℕ → ℕ → List ℕ
put slots at bytes k = if k == at then bytes else slots k

-- the slots, with these writes undone, the last of them first
abbrev pub undone : List Undo → (ℕ → List ℕ) → ℕ → List ℕ
undone [] slots = slots
undone (u ∷ later) slots = put (undone later slots) u.slot u.old

-- whether one of these writes is of this slot
abbrev pub wrote : List Undo → ℕ → Bool
wrote [] k = false
wrote (u ∷ later) k = (k == u.slot) || wrote later k

-- the slots of these writes as they read, and all other slots as committed
abbrev pub joined : List Undo → (ℕ → List ℕ) → (ℕ → List ℕ) → ℕ → List ℕ
joined writes reads committed k = if wrote writes k then reads k else committed k

-- the slots from 5,000 to 5,099, whose writes do not count
abbrev pub is_low : ℕ → Bool
is_low slot = nat_le 5000 slot && nat_le (slot + 1) 5100

-- a client's transaction
pub record Transaction : Type 0 where
  pub begun : Bool
  -- the writes that are not undone, in the order of writing, each with the bytes that it replaced
  pub undo : List Undo
  -- the slots that it wrote, writes that were undone included
  pub written : ℕ → Bool
  -- the number of writes that count, those that were undone included
  pub counted : ℕ
  -- the number of writes of low slots
  pub low : ℕ
  -- the number of further writes that memory is reserved for
  pub room : ℕ

pub record SlotState : Type 0 where
  -- whether the results of reads and the committed slots are observable
  pub observable : Bool
  pub reads : ℕ → List ℕ
  -- what the committed transactions left
  pub committed : ℕ → List ℕ
  -- the same with the one whose commit answered Disk, if any
  pub doubt : ℕ → List ℕ
  pub transaction : ℕ → Transaction
  -- a call has answered Disk
  pub failed : Bool
  pub faults : ℕ
  pub moment : ℕ
  pub since : ℕ
  pub short : Bool

-- each slot from there on reads zeros, up to the last one
abbrev pub AreBlankFrom : ℕ → (ℕ → List ℕ) → Type 0
AreBlankFrom end reads = (k : ℕ) → end ≤ k → k < 2 ^ 20 → reads k ≡ replicate 256 0

-- reads are observable, and no call has answered Disk
abbrev pub IsReadable : SlotState → Type 0
IsReadable s = IsTrue s.observable × (s.failed ≡ false)

-- no other begun transaction wrote the slot, writes that were undone included
abbrev pub IsAlone : SlotState → ℕ → ℕ → Type 0
IsAlone s client slot = (other : ℕ) → other ≢ client → other < 16 → (s.transaction other).begun ≡ true → (s.transaction other).written slot ≡ false

-- the transaction has reached the limit of counted writes, and this write would count too
abbrev pub IsFull : SlotState → ℕ → ℕ → Type 0
IsFull s client slot = (is_low slot ≡ false) × (7989 ≤ (s.transaction client).counted)

-- the committed slots do not change
pub record KeepsCommitted (old new : SlotState) : Type 0 where
  pub observable : new.observable ≡ old.observable
  pub committed : IsTrue old.observable → new.committed ≡ old.committed
  pub doubt : IsTrue old.observable → new.doubt ≡ old.doubt

-- nothing changes
pub record Rests (old new : SlotState) : Type 0 where
  pub keeps : KeepsCommitted old new
  pub reads : IsReadable old → new.reads ≡ old.reads
  pub transaction : new.transaction ≡ old.transaction

-- one client's transaction becomes another, and no other client's changes
pub record Becomes (client : ℕ) (old new : ℕ → Transaction) (goes_on : Bool) (writes : List Undo) (touched : ℕ → Bool) (many few more : ℕ) : Type 0 where
  pub others : (c : ℕ) → c ≢ client → new c ≡ old c
  pub begun : (new client).begun ≡ goes_on
  pub undo : (new client).undo ≡ writes
  pub written : (k : ℕ) → (new client).written k ≡ touched k
  pub counted : (new client).counted ≡ many
  pub low : (new client).low ≡ few
  pub room : more ≤ (new client).room

-- a transaction begins with no write
pub record Begins (old new : SlotState) (client : ℕ) : Type 0 where
  pub keeps : KeepsCommitted old new
  pub reads : IsReadable old → new.reads ≡ old.reads
  pub transaction : Becomes client old.transaction new.transaction true [] (λ k. false) 0 0 0

-- memory is reserved for this number of further writes
pub record Grows (old new : SlotState) (client writes : ℕ) : Type 0 where
  pub keeps : KeepsCommitted old new
  pub reads : IsReadable old → new.reads ≡ old.reads
  pub transaction : let t = old.transaction client in Becomes client old.transaction new.transaction true t.undo t.written t.counted t.low writes

-- the slot reads these bytes, and the write can be undone: the undo list grows by it alone
pub record Writes (old new : SlotState) (client slot : ℕ) (bytes : List ℕ) : Type 0 where
  pub keeps : KeepsCommitted old new
  pub reads : IsReadable old → new.reads ≡ put old.reads slot bytes
  pub before : List ℕ
  pub before_is : IsReadable old → before ≡ old.reads slot
  pub transaction : let t = old.transaction client in Becomes client old.transaction new.transaction true (t.undo ++ record { slot = slot; old = before } ∷ []) (λ k. (k == slot) || t.written k) (if is_low slot then t.counted else t.counted + 1) (if is_low slot then t.low + 1 else t.low) (t.room - 1)

-- the writes since the mark are undone, but still count
pub record GoesBack (old new : SlotState) (client mark : ℕ) : Type 0 where
  pub keeps : KeepsCommitted old new
  pub reads : IsReadable old → new.reads ≡ undone (drop mark (old.transaction client).undo) old.reads
  pub transaction : let t = old.transaction client in Becomes client old.transaction new.transaction true (take mark t.undo) t.written t.counted t.low t.room

-- all writes are undone and the transaction ends, even if the disk fails meanwhile; such a failure does not count as an answer Disk
pub record Ends (old new : SlotState) (client : ℕ) : Type 0 where
  pub keeps : KeepsCommitted old new
  pub reads : IsReadable old → new.reads ≡ undone (old.transaction client).undo old.reads
  pub transaction : Becomes client old.transaction new.transaction false [] (λ k. false) 0 0 0
  pub later : old.faults ≤ new.faults
  pub failed : new.failed ≡ old.failed

-- the transaction's writes are committed, and it ends; no earlier call answered Disk
pub record Commits (old new : SlotState) (client : ℕ) : Type 0 where
  pub observable : new.observable ≡ old.observable
  pub reads : IsReadable old → new.reads ≡ old.reads
  pub committed : IsTrue old.observable → new.committed ≡ joined (old.transaction client).undo old.reads old.committed
  pub doubt : IsTrue old.observable → new.doubt ≡ new.committed
  pub transaction : Becomes client old.transaction new.transaction false [] (λ k. false) 0 0 0
  pub before : old.failed ≡ false

-- the transaction is still begun, and a stop may leave it committed
pub record Fails (old new : SlotState) (client : ℕ) : Type 0 where
  pub observable : new.observable ≡ old.observable
  pub reads : IsReadable old → new.reads ≡ old.reads
  pub committed : IsTrue old.observable → new.committed ≡ old.committed
  pub doubt : IsTrue old.observable → (new.doubt ≡ old.doubt) ⊎ ((old.failed ≡ false) × (new.doubt ≡ joined (old.transaction client).undo old.reads old.committed))
  pub transaction : new.transaction ≡ old.transaction

-- The moment does not decrease. A stop at an earlier moment leaves the same slots as before the call. A stop at a later moment leaves the
-- slots committed before the call, or the slots in doubt after it.
pub record Goes (old new : SlotState) (before after : ℕ → (ℕ → List ℕ) → Type 0) : Type 0 where
  pub later : old.moment ≤ new.moment
  pub since : new.since ≡ old.since
  pub short : new.short ≡ old.short
  pub nothing_else : (m : ℕ) (slots : ℕ → List ℕ) → m ≤ old.moment → after m slots → before m slots
  pub stays : (m : ℕ) (slots : ℕ → List ℕ) → m ≤ old.moment → before m slots → after m slots
  pub here : (m : ℕ) (slots : ℕ → List ℕ) → old.moment < m → after m slots → ∥ (slots ≡ old.committed) ⊎ (slots ≡ new.doubt) ∥₁

-- Disk is answered only where the disk's count rose in this call, or an earlier call has answered Disk.
pub record HasCause {T : Type 0} (old new : SlotState) (result : Result T SlotFault) : Type 0 where
  pub later : old.faults ≤ new.faults
  pub disk : IsErrOf result Disk → Rose old.faults new.faults ⊎ IsTrue old.failed
  pub failed : IsErrOf result Disk → new.failed ≡ true
  pub stays : (IsErrOf result Disk → ⊥) → new.failed ≡ old.failed

-- the only refusal is Disk
abbrev pub OnlyDisk : {T : Type 0} → Result T SlotFault → Type 0
OnlyDisk result = (IsErrOf result NoMemory → ⊥) × (IsErrOf result TxFull → ⊥)

-- the refusals are Disk and NoMemory
abbrev pub NeverFull : {T : Type 0} → Result T SlotFault → Type 0
NeverFull result = IsErrOf result TxFull → ⊥

-- a stop is known only where the slots are observable, and of a moment from since to the present one
pub record IsStop (s : SlotState) (m : ℕ) : Type 0 where
  pub observable : IsTrue s.observable
  pub from : s.since ≤ m
  pub past : m ≤ s.moment
