-- What a disk in memory shows: what it was made from, its record, and how many calls there were.
use Rattle.std.specs.Prelude.{◌≡◌, ◌<◌, ◌≤◌, ◌+◌, ◌^◌, ◌⊎◌, ℕ, List, Contains}
use Rattle.storage.specs.faults.Faults.{counted}
use Rattle.mem_disk.specs.declared.images.Room.{Room}
use Rattle.mem_disk.specs.declared.mem_disk.MemDisk.{MemDisk}
use Rattle.mem_disk.specs.Notes.{Note, notes_of, spent_by, held, Left}
use Rattle.mem_disk.specs.Crash.{area_of}

pub record Shown : Type 0 where
  -- the areas at first
  pub first : ℕ → List ℕ
  -- the writes and syncs, in order, as far as there was room for them
  pub notes : List Note
  pub room : Room
  -- the numbers of the calls that fail, and how many calls there have been
  pub fails : List ℕ
  pub calls : ℕ
  pub time : ℕ
  pub faults : ℕ

abbrev pub shown : MemDisk → Shown
shown d = record { first = area_of d.first; notes = notes_of d.pool.items d.calls.items; room = d.room; fails = d.fails.items; calls = d.number; time = d.time; faults = d.failed }

-- what a read gives, of each area
abbrev pub seen_of : Shown → ℕ → List ℕ
seen_of s k = (held s.first s.notes k).seen

-- what a crash at that moment may have left
abbrev pub left_of : Shown → ℕ → (ℕ → List ℕ) → Type 0
left_of s m image = Left s.first s.notes s.time m image

-- the next call is one that is to fail
abbrev pub IsDue : Shown → Type 0
IsDue s = Contains s.fails (counted s.calls)

-- a write or a sync would be one too many
abbrev pub PassesCalls : Shown → Type 0
PassesCalls s = s.room.calls ≤ s.time

-- a write of this number of bytes there would pass the room
abbrev pub PassesRoom : Shown → ℕ → ℕ → Type 0
PassesRoom s at n = (s.room.calls ≤ s.time) ⊎ ((s.room.bytes < spent_by s.notes + n) ⊎ (s.room.length < at + n))

-- no moment is left
abbrev pub IsLast : Shown → Type 0
IsLast s = 2 ^ 64 ≤ s.time + 1

-- what it was made from stays, and one call more has been counted
pub record Counts (old new : Shown) : Type 0 where
  pub first : new.first ≡ old.first
  pub room : new.room ≡ old.room
  pub fails : new.fails ≡ old.fails
  pub calls : new.calls ≡ counted old.calls

-- a moment has passed, and nothing else has changed but the record
pub record Passed (old new : Shown) : Type 0 where
  pub first : new.first ≡ old.first
  pub room : new.room ≡ old.room
  pub fails : new.fails ≡ old.fails
  pub calls : new.calls ≡ old.calls
  pub time : new.time ≡ old.time + 1
  pub faults : new.faults ≡ old.faults

-- what was synced, what was written since and what is read are the same
abbrev pub SameHeld : Shown → Shown → Type 0
SameHeld old new = (k : ℕ) → held new.first new.notes k ≡ held old.first old.notes k

-- there is a moment and room for a write of this number of bytes there
pub record Fits (s : Shown) (at n : ℕ) : Type 0 where
  pub moment : s.time + 1 < 2 ^ 64
  pub calls : s.time < s.room.calls
  pub bytes : spent_by s.notes + n ≤ s.room.bytes
  pub length : at + n ≤ s.room.length
