use Rattle.std.proofs.Common.{◌≡◌, ◌-◌, ◌≤◌, ℕ, length, Some, None}
use Rattle.std.specs.List.{slice_get}
use Rattle.slot_area.specs.declared.frame.Frame.{Frame}
use Rattle.slot_area.proofs.frame_changes.blank_frames.Given as goal

abbrev pub invariant-frames : goal.invariant-frames
invariant-frames l = record {
  within : l.i ≤ l.count;
  count : length l.frames.items ≡ l.i;
  blank : (k : ℕ) (f : Frame) → slice_get l.frames.items k ≡ Some f → f.note ≡ None;
}

abbrev pub decreases-frames : goal.decreases-frames
decreases-frames l = l.count - l.i
