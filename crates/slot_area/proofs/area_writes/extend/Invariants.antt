use Rattle.std.proofs.Common.{◌≡◌, ◌-◌, ◌*◌, ◌<◌, ◌≤◌, ℕ, List, length, IsTrue}
use Rattle.storage.specs.Disk.{Others}
use Rattle.log_meaning.specs.steps.Steps.{Image, Run}
use Rattle.log_meaning.specs.declared.note.Note.{Note}
use Rattle.log_meaning.specs.Images.{slot_of}
use Rattle.log_meaning.specs.LogState.{MayWrite, WritesNoted}
use Rattle.slot_area.specs.Area.{zeros}
use Rattle.slot_area.proofs.area_writes.extend.Given as goal

abbrev pub invariant-zeros : goal.invariant-zeros
invariant-zeros g l = record {
  from : l.end ≤ l.k;
  upto : l.end ≤ l.slot → l.k ≤ l.slot;
  none : l.slot ≤ l.end → l.k ≡ l.end;
  same_end : l.end ≡ l.fn.end;
  same_slot : l.slot ≡ l.fn.slot;
  same_observable : g.D.Disk.observable l.disk ≡ g.D.Disk.observable l.fn.disk;
  past : Run (g.D.Disk.time l.fn.disk) (g.D.Disk.time l.disk) (g.D.Disk.left l.fn.disk) (g.D.Disk.left l.disk) (Others 0);
  time : (extent : ℕ) (batches : List (List Note)) → ((image : Image) → g.D.Disk.left l.fn.disk (g.D.Disk.time l.fn.disk) image → 256 * extent ≤ length (image 0))
      → ((k : ℕ) → l.end ≤ k → k < l.slot → MayWrite extent batches (256 * k) 256) → Run (g.D.Disk.time l.fn.disk) (g.D.Disk.time l.disk) (g.D.Disk.left l.fn.disk) (g.D.Disk.left l.disk) (WritesNoted batches);
  low : IsTrue (g.D.Disk.observable l.fn.disk) → 256 * l.end ≤ length (g.D.Disk.seen l.fn.disk 0) → (s : ℕ) → s < l.end → slot_of (g.D.Disk.seen l.disk 0) s ≡ slot_of (g.D.Disk.seen l.fn.disk 0) s;
  zeroed : IsTrue (g.D.Disk.observable l.fn.disk) → 256 * l.end ≤ length (g.D.Disk.seen l.fn.disk 0) → (s : ℕ) → l.end ≤ s → s < l.k → slot_of (g.D.Disk.seen l.disk 0) s ≡ zeros;
  after : IsTrue (g.D.Disk.observable l.fn.disk) → 256 * l.end ≤ length (g.D.Disk.seen l.fn.disk 0) → (s : ℕ) → l.k ≤ s → slot_of (g.D.Disk.seen l.disk 0) s ≡ slot_of (g.D.Disk.seen l.fn.disk 0) s;
  no_shorter : IsTrue (g.D.Disk.observable l.fn.disk) → length (g.D.Disk.seen l.fn.disk 0) ≤ length (g.D.Disk.seen l.disk 0);
  reaches : IsTrue (g.D.Disk.observable l.fn.disk) → 256 * l.end ≤ length (g.D.Disk.seen l.fn.disk 0) → 256 * l.k ≤ length (g.D.Disk.seen l.disk 0);
  others : IsTrue (g.D.Disk.observable l.fn.disk) → Others 0 (g.D.Disk.seen l.fn.disk) (g.D.Disk.seen l.disk);
  failures : g.D.Disk.failures l.disk ≡ g.D.Disk.failures l.fn.disk;
}

abbrev pub decreases-zeros : goal.decreases-zeros
decreases-zeros g l = l.slot - l.k
