-- The steps to a new generation, in the area that is not in use.
use Rattle.std.specs.Prelude.{◌≡◌, ◌≢◌, ◌⊎◌, ℕ, ◌≤◌, List, ◌∷◌, length, drop, get_or}
use Rattle.storage.specs.Disk.{Others}
use Rattle.log_meaning.specs.steps.Steps.{Image, SameBelow}
use Rattle.log_meaning.specs.Images.{IsOpened}
use Rattle.bi_log.specs.Appending.{Held, Holds, RestsAt}

-- the other areas stay, and so do the bytes after the gate of this one, which has an open header only where it had one
pub record Closes (area : ℕ) (old new : Image) : Type 0 where
  pub others : Others area old new
  pub beyond : (i : ℕ) → 1 ≤ i → get_or (new area) i 0 ≡ get_or (old area) i 0
  pub opened : (generation : ℕ) → IsOpened (new area) generation → IsOpened (old area) generation

-- the area has a gate, and it is closed
pub record IsClosed (area : List ℕ) : Type 0 where
  pub gate : get_or area 0 0 ≢ 1
  pub there : 1 ≤ length area

-- the other areas stay, and the gate of this one
pub record AfterGate (area : ℕ) (old new : Image) : Type 0 where
  pub others : Others area old new
  pub gate : SameBelow 1 (old area) (new area)

-- the area with its gate open
abbrev pub opened_as : List ℕ → List ℕ
opened_as area = 1 ∷ drop 1 area

-- the area is closed, and with its gate open it would hold this log
pub record IsPrepared (area : List ℕ) (log : Held) (gate : ℕ) : Type 0 where
  pub closed : IsClosed area
  pub rests : RestsAt (opened_as area) log gate

-- the other areas stay, and this one holds the log or has no open gate
pub record Opens (area : ℕ) (log : Held) (old new : Image) : Type 0 where
  pub others : Others area old new
  pub holds : Holds (new area) log ⊎ (get_or (new area) 0 0 ≢ 1)
