-- What the record of a disk's calls means.
use Rattle.std.specs.Prelude.{◌≡◌, ℕ, zero, suc, ◌+◌, ◌≤◌, ◌==◌, if◌then◌else◌, List, [], ◌∷◌, length, take, drop, Vec}
use Rattle.std.specs.declared.alloc.Global.{Global}
use Rattle.mem_disk.specs.declared.call.Call.{Call}
use Rattle.mem_disk.specs.declared.call.Effect.{Effect}
use Rattle.mem_disk.specs.declared.call.Effect.TheVariants.{Written, Cut, Synced, Nothing}
use Rattle.storage.specs.Disk.{overlaid, Torn}

-- a write or a sync, with its bytes
pub record Note : Type 0 where
  pub area : ℕ
  pub at : ℕ
  pub bytes : List ℕ
  pub effect : Effect

-- a call of the record, with its bytes from the pool
abbrev pub note_of : List ℕ → Call → Note
note_of pool call = record { area = call.area; at = call.at; bytes = take call.length (drop call.from pool); effect = call.effect }

abbrev pub notes_of : List ℕ → List Call → List Note
notes_of pool [] = []
notes_of pool (call ∷ calls) = note_of pool call ∷ notes_of pool calls

-- the bytes of all of these together: how many of the room they spend
abbrev pub spent_by : List Note → ℕ
spent_by [] = 0
spent_by (n ∷ notes) = length n.bytes + spent_by notes

-- an area: what was last synced, the writes since, the newest first, and what a read gives
pub record Held : Type 0 where
  pub synced : List ℕ
  pub pending : List Note
  pub seen : List ℕ

abbrev pub done_by : Effect → Note → Held → Held
done_by Written n a = record { synced = a.synced; pending = n ∷ a.pending; seen = overlaid n.at n.bytes a.seen }
done_by Cut n a = record { synced = a.synced; pending = n ∷ a.pending; seen = a.seen }
done_by Synced n a = record { synced = a.seen; pending = []; seen = a.seen }
done_by Nothing n a = a

-- the area after a call on it, and after a call on some area
abbrev pub done : Note → Held → Held
done n a = done_by n.effect n a

abbrev pub after_note : ℕ → Held → Note → Held
after_note k a n = if n.area == k then done n a else a

abbrev pub after_notes : ℕ → Held → List Note → Held
after_notes k a [] = a
after_notes k a (n ∷ notes) = after_notes k (after_note k a n) notes

-- an area's bytes in a list of them
abbrev pub bytes_in : List (Vec ℕ Global) → ℕ → List ℕ
bytes_in [] k = []
bytes_in (v ∷ areas) zero = v.items
bytes_in (v ∷ areas) (suc k) = bytes_in areas k

-- an area on which no call was made
abbrev pub fresh : List ℕ → Held
fresh bytes = record { synced = bytes; pending = []; seen = bytes }

-- an area of these after these calls
abbrev pub held : (ℕ → List ℕ) → List Note → ℕ → Held
held first notes k = after_notes k (fresh (first k)) notes

-- what a crash may leave of an area: what was synced, torn by each write since
abbrev pub Reaches : List ℕ → List Note → List ℕ → Type 0
Reaches synced [] c = c ≡ synced
Reaches synced (n ∷ earlier) c = (d : List ℕ) × Reaches synced earlier d × Torn n.at (length n.bytes) d c

-- what a crash may leave of all areas
abbrev pub LeftBy : (ℕ → List ℕ) → List Note → (ℕ → List ℕ) → Type 0
LeftBy first notes image = (k : ℕ) → Reaches (held first notes k).synced (held first notes k).pending (image k)

-- what a crash at that moment may have left
pub record Left (first : ℕ → List ℕ) (notes : List Note) (time m : ℕ) (image : ℕ → List ℕ) : Type 0 where
  pub past : m ≤ time
  pub left : LeftBy first (take m notes) image
