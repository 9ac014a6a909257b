-- What is noted of slots and clients agrees with the slots.
use Rattle.std.specs.Prelude.{◌≡◌, ℕ, ◌<◌, ◌≤◌, ◌+◌, Bool, true, false, List, length}
use Rattle.storage.specs.Slots.{SlotState}
use Rattle.row_fragments.specs.Fragments.{ends}
use Rattle.byte_rows.specs.declared.places.Place.{Place}
use Rattle.byte_rows.specs.declared.client.Client.{Client}
use Rattle.byte_rows.specs.Clients.{client_in}
use Rattle.byte_rows.specs.Freed.{IsFreed, has}
use Rattle.byte_rows.specs.Exact.{IsExact}
use Rattle.byte_rows.specs.Places.{IsKept, owner_in}

-- what is noted while no call has answered Disk: of each slot, of each free slot, and of each client the number of its writes and the slots that it changed
pub record IsNoted (s : SlotState) (places : List Place) (free : ℕ → ℕ) (clients : List Client) : Type 0 where
  pub kept : IsKept s places
  pub freed : IsFreed free places
  pub exact : IsExact s places
  pub counted : (c : ℕ) → c < 16 → (s.transaction c).begun ≡ true → (s.transaction c).counted ≡ (client_in clients c).written
  pub within : (c k : ℕ) → c < 16 → has (client_in clients c).touched k ≡ true → (ends k ≡ false) × (k < length places)
  pub listed : (c k : ℕ) → c < 16 → ends k ≡ false → owner_in places k ≡ c + 1 → has (client_in clients c).touched k ≡ true

-- what holds between calls, after a fault of the disk too
pub record IsSound (s : SlotState) (places : List Place) (free : ℕ → ℕ) (clients : List Client) (failed : Bool) : Type 0 where
  pub sixteen : length clients ≡ 16
  pub begun : (c : ℕ) → c < 16 → (s.transaction c).begun ≡ (client_in clients c).begun
  pub past : (c : ℕ) → 16 ≤ c → (s.transaction c).begun ≡ false
  pub same_failed : failed ≡ s.failed
  pub noted : s.failed ≡ false → IsNoted s places free clients

-- the clients have the same transactions and counts; the slots that they changed may have been settled
pub record AreSameClients (old new : List Client) : Type 0 where
  pub many : length new ≡ length old
  pub begun : (c : ℕ) → (client_in new c).begun ≡ (client_in old c).begun
  pub drawn : (c : ℕ) → (client_in new c).drawn ≡ (client_in old c).drawn
  pub written : (c : ℕ) → (client_in new c).written ≡ (client_in old c).written
