use Rattle.std.proofs.Common.{◌≡◌, ◌*◌, ◌≤◌, ℕ, List, length, drop, true, IsTrue}
use Rattle.storage.specs.Disk.{Others}
use Rattle.storage.specs.Slots.{wrote, undone}
use Rattle.log_meaning.specs.steps.Steps.{Image, Run}
use Rattle.log_meaning.specs.declared.note.Note.{Note}
use Rattle.log_meaning.specs.Images.{slot_of}
use Rattle.log_meaning.specs.LogState.{MayWrite, WritesNoted}
use Rattle.bi_recovery.proofs.slots_written.write_slots.Given as goal

abbrev pub invariant-slots : goal.invariant-slots
invariant-slots g l = record {
  within : l.i ≤ length l.slots;
  same_slots : l.slots ≡ l.fn.slots;
  same_observable : g.D.Disk.observable l.disk ≡ g.D.Disk.observable l.fn.disk;
  past : Run (g.D.Disk.time l.fn.disk) (g.D.Disk.time l.disk) (g.D.Disk.left l.fn.disk) (g.D.Disk.left l.disk) (Others 0);
  time : (extent : ℕ) (batches : List (List Note)) → ((image : Image) → g.D.Disk.left l.fn.disk (g.D.Disk.time l.fn.disk) image → 256 * extent ≤ length (image 0))
      → ((s : ℕ) → wrote l.slots s ≡ true → MayWrite extent batches (256 * s) 256) → Run (g.D.Disk.time l.fn.disk) (g.D.Disk.time l.disk) (g.D.Disk.left l.fn.disk) (g.D.Disk.left l.disk) (WritesNoted batches);
  reads : IsTrue (g.D.Disk.observable l.fn.disk) → (s : ℕ) → slot_of (g.D.Disk.seen l.disk 0) s ≡ undone (drop l.i l.slots) (slot_of (g.D.Disk.seen l.fn.disk 0)) s;
  failures : g.D.Disk.failures l.disk ≡ g.D.Disk.failures l.fn.disk;
  others : IsTrue (g.D.Disk.observable l.fn.disk) → Others 0 (g.D.Disk.seen l.fn.disk) (g.D.Disk.seen l.disk);
}

abbrev pub decreases-slots : goal.decreases-slots
decreases-slots g l = l.i
