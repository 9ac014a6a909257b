-- Runs of disk calls.
use Rattle.std.specs.Prelude.{◌≡◌, ℕ, ◌+◌, ◌<◌, ◌≤◌, List, length, get_or}
use Rattle.storage.specs.Disk.{Reads}

-- what a crash leaves: the bytes of each area
abbrev pub Image : Type 0
Image = ℕ → List ℕ

-- Calls from moment `was` to moment `now`. What is known of earlier moments stays known, and each image of a later moment is an image from before the run after this step.
pub record Run (was now : ℕ) (before after : ℕ → Image → Type 0) (Step : Image → Image → Type 0) : Type 0 where
  pub later : was ≤ now
  pub nothing_else : (m : ℕ) (image : Image) → m ≤ was → after m image → before m image
  pub stays : (m : ℕ) (image : Image) → m ≤ was → before m image → after m image
  pub here : (m : ℕ) (image : Image) → was < m → after m image → (d : Image) × before was d × Step d image

-- the first bytes are the same, and there are no fewer
pub record SameBelow (end : ℕ) (old new : List ℕ) : Type 0 where
  pub same : (i : ℕ) → i < end → get_or new i 0 ≡ get_or old i 0
  pub no_shorter : length old ≤ length new

-- the area has these bytes there
pub record Has (area : List ℕ) (at : ℕ) (bytes : List ℕ) : Type 0 where
  pub reads : Reads area at bytes
  pub there : at + length bytes ≤ length area

-- any step
abbrev pub Any : Image → Image → Type 0
Any old new = Unit {0}
