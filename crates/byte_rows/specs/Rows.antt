-- What the calls on rows do.
use Rattle.std.specs.Prelude.{◌≡◌, ◌≢◌, ℕ, ◌*◌, ◌-◌, ◌<◌, ◌≤◌, false, List, length, take, drop, Option, Result, Ok, Err}
use Rattle.std.specs.List.{Contains}
use Rattle.storage.specs.Slots.{SlotState, IsReadable}
use Rattle.storage.specs.declared.slots.SlotFault.{SlotFault}
use Rattle.storage.specs.declared.slots.SlotFault.TheVariants.{NoMemory}
use Rattle.row_fragments.specs.Calls.{Wrote}
use Rattle.row_fragments.specs.Chains.{HaveFragments, KeepsChains}
use Rattle.row_fragments.specs.Fragments.{AreClear, StoredBytes, ends, row_at}
use Rattle.row_fragments.specs.Tied.{IsMix, IsValue}
use Rattle.byte_rows.specs.declared.fault.ChainFault.{ChainFault}
use Rattle.byte_rows.specs.declared.fault.ChainFault.TheVariants.{Full, Slot}
use Rattle.byte_rows.specs.declared.fault.ChainsFault.{ChainsFault}
use Rattle.byte_rows.specs.declared.fault.ChainsFault.TheVariants.{Broken, Slot as SlotRefusal}

-- the answer as one of the slots: Full, which they never answer, counts as out of memory
abbrev pub of_slots : {T : Type 0} → Result T ChainFault → Result T SlotFault
of_slots (Ok v) = Ok v
of_slots (Err (Slot fault)) = Err fault
of_slots (Err Full) = Err NoMemory

-- why slots were not opened, as a refusal of theirs: Broken, which they never answer, counts as out of memory
abbrev pub opening_fault : ChainsFault → SlotFault
opening_fault (SlotRefusal fault) = fault
opening_fault Broken = NoMemory

-- the least number of fragments of 240 bytes that holds this many bytes, and at least one
pub record IsLeastFor (bytes count : ℕ) : Type 0 where
  pub some : 0 < count
  pub holds : bytes ≤ 240 * count
  pub least : 1 < count → 240 * (count - 1) < bytes

-- the first of these slots have the bytes as the fragments of a row of this table, and the others zeros
pub record AreRewritten (after : ℕ → List ℕ) (slots : List ℕ) (keep table : ℕ) (bytes : List ℕ) : Type 0 where
  pub kept : HaveFragments after (take keep slots) 1 (length bytes) table bytes
  pub freed : AreClear after (drop keep slots)

-- whatever the other slots hold, the row that is read from these is this
abbrev pub HoldsRow : (ℕ → List ℕ) → List ℕ → ℕ → Option StoredBytes → Type 0
HoldsRow reads slots row to = (any : ℕ → List ℕ) → ((k : ℕ) → Contains slots k → any k ≡ reads k) → row_at any row ≡ to

-- whatever values the slots have, now or when writes are undone, no other row is read from these
abbrev pub AreApart : SlotState → List ℕ → ℕ → Type 0
AreApart s slots row =
    (a b : ℕ → List ℕ) → IsMix (IsValue s) a → IsMix (IsValue s) b → ((k : ℕ) → ¬ Contains slots k → b k ≡ a k) → (other : ℕ) → other ≢ row → row_at b other ≡ row_at a other

-- the client wrote each of these slots once, the row is this now, and every other row is as it was. What other clients undo changes neither
pub record ChangesRow (old new : SlotState) (client row : ℕ) (slots : List ℕ) (to : Option StoredBytes) : Type 0 where
  pub wrote : Wrote old new client slots
  pub inside : (k : ℕ) → Contains slots k → ends k ≡ false
  pub first : Contains slots row
  pub held : IsReadable old → HoldsRow new.reads slots row to
  pub apart : IsReadable old → AreApart new slots row
  pub others : IsReadable old → (other : ℕ) → other ≢ row → row_at new.reads other ≡ row_at old.reads other
  -- and slots that are chains stay chains
  pub chains : IsReadable old → KeepsChains old.reads new.reads slots
