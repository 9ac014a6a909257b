-- What the parts of a call do.
use Rattle.std.specs.Prelude.{◌≡◌, ℕ, ◌≤◌, Bool, true, false, List, IsTrue}
use Rattle.storage.specs.faults.Faults.{Rose}
use Rattle.log_meaning.specs.steps.Steps.{Image, Run, Any}
use Rattle.checkpoint.specs.kept.KeptLog.{Leaves}

-- The slots read as before, and each image of a later moment recovers to what is committed. Where the disk failed the count has risen, and no further call is made.
pub record Calm (known known' : Bool) (was now : ℕ) (left left' : ℕ → Image → Type 0) (reads reads' committed : ℕ → List ℕ) (faults faults' : ℕ) (failed ok : Bool) : Type 0 where
  pub same_observable : known' ≡ known
  pub past : Run was now left left' Any
  pub leaves : IsTrue known → Leaves was left' committed
  pub same_reads : IsTrue known → (s : ℕ) → reads' s ≡ reads s
  pub later : faults ≤ faults'
  pub rose : ok ≡ false → Rose faults faults'
  pub broke : ok ≡ false → failed ≡ true
  pub stays : ok ≡ true → (failed ≡ false) × (faults' ≡ faults)
