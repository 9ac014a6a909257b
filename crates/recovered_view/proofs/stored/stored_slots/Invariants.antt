use Rattle.std.proofs.Common.{◌≡◌, ◌-◌, ◌<◌, ◌≤◌, ℕ, length, IsTrue}
use Rattle.storage.specs.Disk.{Stays}
use Rattle.log_meaning.specs.Images.{slot_of}
use Rattle.recovered_view.specs.View.{slot_in}
use Rattle.recovered_view.proofs.stored.stored_slots.Given as goal

abbrev pub invariant-slots : goal.invariant-slots
invariant-slots g l = record {
  rest : Stays (g.D.Disk.observable l.fn.disk) (g.D.Disk.observable l.disk) (g.D.Disk.seen l.fn.disk) (g.D.Disk.seen l.disk) (g.D.Disk.time l.fn.disk) (g.D.Disk.time l.disk) (g.D.Disk.left l.fn.disk) (g.D.Disk.left l.disk);
  failures : g.D.Disk.failures l.disk ≡ g.D.Disk.failures l.fn.disk;
  within : l.k ≤ l.count;
  count : l.count ≡ l.fn.count;
  long : length l.slots.items ≡ l.k;
  bytes : IsTrue (g.D.Disk.observable l.fn.disk) → (j : ℕ) → j < l.k → slot_in l.slots.items j ≡ slot_of (g.D.Disk.seen l.fn.disk 0) j;
}

abbrev pub decreases-slots : goal.decreases-slots
decreases-slots g l = l.count - l.k
