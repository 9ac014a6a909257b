-- The slots that reopening after a stop may give.
use Rattle.std.specs.Prelude.{ℕ, ◌≤◌, Bool, List, IsTrue}
use Rattle.log_meaning.specs.steps.Steps.{Image}
use Rattle.log_meaning.specs.Images.{Recovers}

-- a stop at that moment may leave these slots: some image of it recovers to them
abbrev pub Stops : Bool → ℕ → ℕ → (ℕ → Image → Type 0) → ℕ → (ℕ → List ℕ) → Type 0
Stops observable since moment left m slots = IsTrue observable × (since ≤ m) × (m ≤ moment) × ((image : Image) × left m image × Recovers image slots)

-- slots that the image recovers to
pub record HasSlots (image : Image) : Type 0 where
  pub slots : ℕ → List ℕ
  pub recovers : Recovers image slots

abbrev pub IsRecoverable : Image → Type 0
IsRecoverable image = ∥ HasSlots image ∥₁

-- where each image of the moment `since` is recoverable, so is each image of each moment from then on
abbrev pub StayRecoverable : (ℕ → Image → Type 0) → ℕ → Type 0
StayRecoverable left since = ((image : Image) → left since image → IsRecoverable image) → (m : ℕ) (image : Image) → since ≤ m → left m image → IsRecoverable image
