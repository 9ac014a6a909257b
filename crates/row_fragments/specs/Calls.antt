-- What calls on chains leave of the slots.
use Rattle.std.specs.Prelude.{◌≡◌, ◌≢◌, ◌⊎◌, ℕ, ◌+◌, ◌≤◌, List, [], ◌∷◌, ◌++◌, length, true, false, Result}
use Rattle.std.specs.List.{Contains}
use Rattle.storage.specs.Slots.{SlotState, IsReadable, IsAlone, KeepsCommitted, Rests, Goes, HasCause, undone, wrote}
use Rattle.storage.specs.declared.slots.Undo.{Undo}
use Rattle.storage.specs.declared.slots.SlotFault.{SlotFault}
use Rattle.row_fragments.specs.Fragments.{AreDistinct, AreRowSlots}

-- one of these writes replaced these bytes of the slot
abbrev pub Covers : List Undo → ℕ → List ℕ → Type 0
Covers [] slot bytes = ⊥
Covers (u ∷ later) slot bytes = ((u.slot ≡ slot) × (u.old ≡ bytes)) ⊎ Covers later slot bytes

-- a call that reads: nothing changes but the moment, and Disk has its cause
pub record Looked {T : Type 0} (old new : SlotState) (before after : ℕ → (ℕ → List ℕ) → Type 0) (result : Result T SlotFault) : Type 0 where
  pub rests : Rests old new
  pub time : Goes old new before after
  pub cause : HasCause old new result

-- a call that writes for one client: what is committed and the other clients stay, after an error too
pub record Touched {T : Type 0} (old new : SlotState) (before after : ℕ → (ℕ → List ℕ) → Type 0) (client : ℕ) (result : Result T SlotFault) : Type 0 where
  pub keeps : KeepsCommitted old new
  pub others : (c : ℕ) → c ≢ client → new.transaction c ≡ old.transaction c
  pub begun : (new.transaction client).begun ≡ (old.transaction client).begun
  pub time : Goes old new before after
  pub cause : HasCause old new result

-- the client wrote each of these slots once and no other
pub record Wrote (old new : SlotState) (client : ℕ) (slots : List ℕ) : Type 0 where
  pub failed : new.failed ≡ old.failed
  pub rest : IsReadable old → (k : ℕ) → ¬ Contains slots k → new.reads k ≡ old.reads k
  pub written : (k : ℕ) → ¬ Contains slots k → (new.transaction client).written k ≡ (old.transaction client).written k
  pub marked : (k : ℕ) → Contains slots k → (new.transaction client).written k ≡ true
  pub counted : (new.transaction client).counted ≡ (old.transaction client).counted + length slots
  pub low : (new.transaction client).low ≡ (old.transaction client).low
  -- the writes that the undo list grows by: undoing them gives the slots as they were
  pub more : List Undo
  pub undo : (new.transaction client).undo ≡ (old.transaction client).undo ++ more
  pub of : (k : ℕ) → ¬ Contains slots k → wrote more k ≡ false
  pub back : IsReadable old → (k : ℕ) → undone more new.reads k ≡ old.reads k
  pub covers : IsReadable old → (k : ℕ) (bytes : List ℕ) → Covers more k bytes → bytes ≡ old.reads k

-- the client may write each of these slots once, and no write is refused for memory or room
pub record CanTouch (s : SlotState) (client : ℕ) (slots : List ℕ) : Type 0 where
  pub begun : (s.transaction client).begun ≡ true
  pub alone : (k : ℕ) → Contains slots k → IsAlone s client k
  pub rows : AreRowSlots slots
  pub distinct : AreDistinct slots
  pub room : length slots ≤ (s.transaction client).room
  pub few : (s.transaction client).counted + length slots ≤ 7989
