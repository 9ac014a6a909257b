-- How long the areas of the log get.
use Rattle.std.specs.Prelude.{◌≢◌, ℕ, ◌≤◌, max, length}
use Rattle.log_meaning.specs.steps.Steps.{Image}

-- no area of the log gets longer than this number of bytes, but for one that was longer
abbrev pub WithinLog : ℕ → Image → Image → Type 0
WithinLog most old new = (area : ℕ) → area ≢ 0 → length (new area) ≤ max (length (old area)) most

-- no area of the log is longer than 167,772,160 bytes
abbrev pub IsShort : Image → Type 0
IsShort image = (length (image 1) ≤ 167772160) × (length (image 2) ≤ 167772160)

-- where each image of the moment `since` is short, so is each image of each moment from then on
abbrev pub StayShort : (ℕ → Image → Type 0) → ℕ → Type 0
StayShort left since = ((image : Image) → left since image → IsShort image) → (m : ℕ) (image : Image) → since ≤ m → left m image → IsShort image
