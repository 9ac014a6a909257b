-- How long recovery makes the areas of the log.
use Rattle.std.proofs.Common.{ℕ, ◌≤◌, Bool}
use Rattle.storage.specs.Disk.{Stays}
use Rattle.log_meaning.specs.steps.Steps.{Image, Run}
use Rattle.log_meaning.proofs.StepsLemmas.Runs.{stayed}
use Rattle.bi_log.specs.Lengths.{WithinLog}
use Rattle.bi_log.proofs.Lengths.{run_twice}

-- a call that makes no moment
pub none_longer : (a b : Bool) (x y : Image) (was now : ℕ) (before after : ℕ → Image → Type 0) (most : ℕ) → Stays a b x y was now before after → ((m : ℕ) (image : Image) → before m image → m ≤ was) → Run was now before after (WithinLog most)
none_longer a b x y was now before after most s top = stayed a b x y was now before after (WithinLog most) s top

-- such a call, and then a run
pub none_then : (a b : Bool) (x y : Image) (was mid now : ℕ) (before between after : ℕ → Image → Type 0) (most : ℕ) → Stays a b x y was mid before between → ((m : ℕ) (image : Image) → before m image → m ≤ was) → Run mid now between after (WithinLog most) → Run was now before after (WithinLog most)
none_then a b x y was mid now before between after most s top two = run_twice was mid now before between after most (none_longer a b x y was mid before between most s top) two

-- a run, and then such a call
pub then_none : (was mid now : ℕ) (before between after : ℕ → Image → Type 0) (a b : Bool) (x y : Image) (most : ℕ) → Run was mid before between (WithinLog most) → Stays a b x y mid now between after → ((m : ℕ) (image : Image) → between m image → m ≤ mid) → Run was now before after (WithinLog most)
then_none was mid now before between after a b x y most one s top = run_twice was mid now before between after most one (none_longer a b x y mid now between after most s top)
