use Rattle.std.proofs.Common.{◌≡◌, ◌-◌, ◌<◌, ◌≤◌, ◌^◌, ℕ, Some}
use Rattle.std.specs.List.{slice_get}
use Rattle.slot_area.specs.declared.frame.Frame.{Frame}
use Rattle.slot_area.proofs.frames.Frames.bound.Given as goal

abbrev pub invariant-frames : goal.invariant-frames
invariant-frames l = record {
  above : l.end ≤ l.bound;
  small : l.bound ≤ 2 ^ 20;
  past : (k : ℕ) (f : Frame) → k < l.i → slice_get l.self.frames.items k ≡ Some f → f.slot < 2 ^ 20 → f.slot < l.bound;
}

abbrev pub decreases-frames : goal.decreases-frames
decreases-frames l = l.count - l.i
