use Rattle.std.proofs.Common.{◌≡◌, ◌-◌, ◌*◌, ◌<◌, ◌≤◌, ℕ, List, length, IsTrue, Some, None}
use Rattle.std.specs.List.{slice_get}
use Rattle.storage.specs.Disk.{Others}
use Rattle.log_meaning.specs.steps.Steps.{Image, Run}
use Rattle.log_meaning.specs.declared.note.Note.{Note}
use Rattle.log_meaning.specs.LogState.{WritesNoted}
use Rattle.slot_area.specs.declared.frame.Frame.{Frame}
use Rattle.slot_area.specs.Area.{view, unwritten, IsKept, IsWhole, AreNoted, StaysOrEnds}
use Rattle.slot_area.proofs.slot_area.SlotArea.write_dirty.Given as goal

abbrev pub invariant-frames : goal.invariant-frames
invariant-frames g l = record {
  within : l.i ≤ l.count;
  count : l.count ≡ length l.self.frames.frames.items;
  same_observable : g.D.Disk.observable l.disk ≡ g.D.Disk.observable l.fn.disk;
  past : Run (g.D.Disk.time l.fn.disk) (g.D.Disk.time l.disk) (g.D.Disk.left l.fn.disk) (g.D.Disk.left l.disk) (Others 0);
  time : (extent : ℕ) (batches : List (List Note)) → extent ≤ l.fn.self.end → ((image : Image) → g.D.Disk.left l.fn.disk (g.D.Disk.time l.fn.disk) image → 256 * extent ≤ length (image 0))
      → (settled : ℕ) → ((k note : ℕ) → unwritten l.fn.self k ≡ Some note → note ≤ settled) → AreNoted l.fn.self settled extent batches
      → Run (g.D.Disk.time l.fn.disk) (g.D.Disk.time l.disk) (g.D.Disk.left l.fn.disk) (g.D.Disk.left l.disk) (WritesNoted batches);
  others : IsTrue (g.D.Disk.observable l.fn.disk) → Others 0 (g.D.Disk.seen l.fn.disk) (g.D.Disk.seen l.disk);
  failures : g.D.Disk.failures l.disk ≡ g.D.Disk.failures l.fn.disk;
  kept : IsTrue (g.D.Disk.observable l.fn.disk) → IsKept l.self (g.D.Disk.seen l.disk 0);
  whole : IsTrue (g.D.Disk.observable l.fn.disk) → IsWhole l.fn.self.end (g.D.Disk.seen l.fn.disk 0) → IsWhole l.self.end (g.D.Disk.seen l.disk 0);
  end : l.fn.self.end ≤ l.self.end;
  view : IsTrue (g.D.Disk.observable l.fn.disk) → (k : ℕ) → view l.self (g.D.Disk.seen l.disk 0) k ≡ view l.fn.self (g.D.Disk.seen l.fn.disk 0) k;
  stored : (k note : ℕ) → unwritten l.fn.self k ≡ Some note → unwritten l.self k ≡ None → k < l.self.end;
  unwritten : (k : ℕ) → StaysOrEnds (unwritten l.fn.self) (unwritten l.self) k;
  written : (j : ℕ) (f : Frame) → j < l.i → slice_get l.self.frames.frames.items j ≡ Some f → f.note ≡ None;
}

abbrev pub decreases-frames : goal.decreases-frames
decreases-frames g l = l.count - l.i
