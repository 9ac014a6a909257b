-- What `create` does to an image.
use Rattle.std.specs.Prelude.{◌≡◌, ◌⊎◌, ℕ, ◌<◌, ◌^◌, List, replicate}
use Rattle.storage.specs.declared.slots.Undo.{Undo}
use Rattle.storage.specs.Slots.{undone}
use Rattle.log_meaning.specs.steps.Steps.{Image}
use Rattle.log_meaning.specs.Images.{Recovers}

abbrev pub zeros : List ℕ
zeros = replicate 256 0

-- the image recovers only to what the old one recovered to
abbrev pub Back : Image → Image → Type 0
Back old new = (slots : ℕ → List ℕ) → Recovers new slots → Recovers old slots

-- the image recovers only to what the old one recovered to, or to these slots, and zeros else
abbrev pub Creates : List Undo → Image → Image → Type 0
Creates written old new = (slots : ℕ → List ℕ) → Recovers new slots → Recovers old slots ⊎ ((s : ℕ) → s < 2 ^ 20 → slots s ≡ undone written (λ k. zeros) s)
