-- What opening does.
use Rattle.std.specs.Prelude.{◌≡◌, ℕ, ◌*◌, Bool, false, List, [], length, IsTrue}
use Rattle.storage.specs.Slots.{SlotState}
use Rattle.log_meaning.specs.steps.Steps.{Image}
use Rattle.log_meaning.specs.Images.{Recovers}
use Rattle.bi_recovery.specs.Reopening.{NewLog}

-- every image that a crash at that moment may leave recovers to these slots, if to any
abbrev pub AllRecoverTo : (ℕ → Image → Type 0) → ℕ → (ℕ → List ℕ) → Type 0
AllRecoverTo left m slots = (image : Image) (other : ℕ → List ℕ) → left m image → Recovers image other → other ≡ slots

-- Slots that were opened over a disk: whether it is observable, what it read, its moment, and the images that a crash may leave of it.
pub record IsOpenedOver (s : SlotState) (stop : ℕ → (ℕ → List ℕ) → Type 0) (observable : Bool) (seen : Image) (was : ℕ) (left : ℕ → Image → Type 0) : Type 0 where
  -- no transaction is begun, and no call has failed
  pub idle : (c : ℕ) → (s.transaction c).begun ≡ false
  pub clean : (c : ℕ) → (s.transaction c).undo ≡ []
  pub fine : s.failed ≡ false
  pub same_observable : s.observable ≡ observable
  pub since : s.since ≡ was
  pub settled : s.committed ≡ s.reads
  pub certain : s.doubt ≡ s.committed
  -- the slots are those that the disk recovers to
  pub recovered : IsTrue observable → Recovers seen s.reads
  -- a stop now leaves these slots
  pub now : (slots : ℕ → List ℕ) → stop s.moment slots → slots ≡ s.committed
  -- so does a stop while they were opened, if every image recovered to them before
  pub stops : AllRecoverTo left was s.committed → (m : ℕ) (slots : ℕ → List ℕ) → stop m slots → slots ≡ s.committed

-- Every image has a log without notes, over an area 0 that has this number of slots and no part of another. It recovers to what this image recovered to.
pub record IsFresh (seen read : Image) (left : Image → Type 0) (area generation extent end : ℕ) : Type 0 where
  pub slots : ℕ → List ℕ
  pub was : Recovers seen slots
  pub log : NewLog left area generation extent 32 slots
  pub whole : length (read 0) ≡ 256 * end
