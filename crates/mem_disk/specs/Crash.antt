-- The image that a crash leaves, by what each write that was not synced became.
use Rattle.std.specs.Prelude.{ℕ, zero, suc, ◌==◌, Bool, true, false, ◌&&◌, ◌||◌, not, if◌then◌else◌, List, [], ◌∷◌, length, drop, replicate}
use Rattle.mem_disk.specs.declared.images.Torn.{Torn}
use Rattle.mem_disk.specs.declared.images.Torn.TheVariants.{Old, New, Fill}
use Rattle.mem_disk.specs.declared.images.Images.{Images}
use Rattle.mem_disk.specs.declared.call.Effect.{Effect}
use Rattle.mem_disk.specs.declared.call.Effect.TheVariants.{Written, Cut, Synced, Nothing}
use Rattle.storage.specs.Disk.{overlaid}
use Rattle.mem_disk.specs.Notes.{Note, held}

-- the bytes of each area
abbrev pub area_of : Images → ℕ → List ℕ
area_of images zero = images.d0
area_of images (suc zero) = images.b1
area_of images (suc (suc zero)) = images.b2
area_of images (suc (suc (suc k))) = []

abbrev pub is_write : Effect → Bool
is_write Written = true
is_write Cut = true
is_write Synced = false
is_write Nothing = false

abbrev pub is_synced : Effect → Bool
is_synced Written = false
is_synced Cut = false
is_synced Synced = true
is_synced Nothing = false

-- one of these calls synced the area
abbrev pub synced_in : ℕ → List Note → Bool
synced_in area [] = false
synced_in area (n ∷ notes) = ((n.area == area) && is_synced n.effect) || synced_in area notes

-- a write that no later call synced
abbrev pub is_unsynced : Note → List Note → Bool
is_unsynced n later = is_write n.effect && not (synced_in n.area later)

-- what becomes of the first of the writes; a missing one is Old
abbrev pub first_torn : List Torn → Torn
first_torn [] = Old
first_torn (t ∷ torn) = t

-- an area with a write as it became
abbrev pub torn_by : Torn → Note → List ℕ → List ℕ
torn_by Old n image = image
torn_by New n image = overlaid n.at n.bytes image
torn_by (Fill b) n image = overlaid n.at (replicate (length n.bytes) b) image

-- the area k with each unsynced write, of all areas in order, as it became
abbrev pub torn_all : ℕ → List ℕ → List Note → List Torn → List ℕ
torn_all k image [] torn = image
torn_all k image (n ∷ later) torn = if is_unsynced n later
    then torn_all k (if n.area == k then torn_by (first_torn torn) n image else image) later (drop 1 torn)
    else torn_all k image later torn

-- what a crash after these calls leaves: what was last synced, and the writes since
abbrev pub crashed : (ℕ → List ℕ) → List Note → List Torn → ℕ → List ℕ
crashed first notes torn k = torn_all k (held first notes k).synced notes torn
