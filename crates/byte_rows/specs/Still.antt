-- Several reads after each other.
use Rattle.std.specs.Prelude.{◌≡◌, ℕ, ◌≤◌, List}
use Rattle.storage.specs.Slots.{SlotState, Goes, Rests}

-- nothing has changed but the moment, and no call has answered Disk
pub record Still (old new : SlotState) (before after : ℕ → (ℕ → List ℕ) → Type 0) : Type 0 where
  pub rests : Rests old new
  pub time : Goes old new before after
  pub later : old.faults ≤ new.faults
  pub failed : new.failed ≡ old.failed
