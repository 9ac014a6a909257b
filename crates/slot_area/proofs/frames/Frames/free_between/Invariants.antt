use Rattle.std.proofs.Common.{◌≡◌, ◌-◌, ◌<◌, ◌≤◌, ℕ, Some, false}
use Rattle.std.specs.List.{slice_get}
use Rattle.slot_area.specs.declared.frame.Frame.{Frame}
use Rattle.slot_area.specs.Frames.{is_free}
use Rattle.slot_area.proofs.frames.Frames.free_between.Given as goal

abbrev pub invariant-frames : goal.invariant-frames
invariant-frames l = record {
  none : (k : ℕ) (f : Frame) → l.from ≤ k → k < l.i → slice_get l.self.frames.items k ≡ Some f → is_free l.settled f ≡ false;
}

abbrev pub decreases-frames : goal.decreases-frames
decreases-frames l = l.to - l.i
