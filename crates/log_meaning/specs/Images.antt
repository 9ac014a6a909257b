-- What the three areas of an image mean.
use Rattle.std.specs.Prelude.{◌≡◌, ◌≢◌, ◌⊎◌, ℕ, ◌-◌, ◌*◌, ◌<◌, ◌^◌, List, ◌∷◌, ◌++◌, length, take, drop, replicate, get_or, All}
use Rattle.std.specs.List.{flat_map}
use Rattle.storage.specs.Disk.{Reads}
use Rattle.log_meaning.specs.declared.note.Note.{Note}
use Rattle.log_meaning.specs.Bytes.{header_bytes, log_bytes, IsBatch}
use Rattle.log_meaning.specs.Recovered.{recovered}

-- the area has an open gate and the right head
pub record IsOpened (area : List ℕ) (generation : ℕ) : Type 0 where
  pub head : Reads area 0 (1 ∷ header_bytes generation)
  pub old_enough : generation < 2 ^ 63

-- the area has these open batches, and then a closed gate
pub record HoldsLog (area : List ℕ) (generation : ℕ) (batches : List (List Note)) : Type 0 where
  pub opened : IsOpened area generation
  pub reads : Reads area 0 (log_bytes generation batches)
  pub closed : get_or area (length (log_bytes generation batches)) 0 ≢ 1
  pub sound : All IsBatch batches

-- the log of the image is that of this area, 1 or 2: the other has no newer one, and where both are equal this is area 1
pub record IsNewest (image : ℕ → List ℕ) (area generation : ℕ) : Type 0 where
  pub log : (area ≡ 1) ⊎ (area ≡ 2)
  pub newest : (other : ℕ) → IsOpened (image (3 - area)) other → (other < generation) ⊎ ((other ≡ generation) × (area ≡ 1))

-- a slot of area 0, with zeros past its end
unfoldable pub slot_of : List ℕ → ℕ → List ℕ
slot_of area slot = take 256 (drop (256 * slot) area ++ replicate 256 0)

-- the slots that the image recovers to
pub record Recovers (image : ℕ → List ℕ) (slots : ℕ → List ℕ) : Type 0 where
  pub area : ℕ
  pub generation : ℕ
  pub batches : List (List Note)
  pub newest : IsNewest image area generation
  pub log : HoldsLog (image area) generation batches
  pub gives : (slot : ℕ) → slots slot ≡ recovered (flat_map (λ b. b) batches) (slot_of (image 0)) slot
