use Rattle.std.proofs.Common.{◌≡◌, ◌-◌, ◌<◌, ◌≤◌, ℕ, IsTrue}
use Rattle.storage.specs.Disk.{Others}
use Rattle.log_meaning.specs.steps.Steps.{Run}
use Rattle.log_meaning.specs.Images.{slot_of}
use Rattle.bi_recovery.specs.Creating.{zeros}
use Rattle.bi_recovery.proofs.creation.write_zeros.Given as goal

abbrev pub invariant-zeros : goal.invariant-zeros
invariant-zeros g l = record {
  within : l.k ≤ l.count;
  same_count : l.count ≡ l.fn.count;
  same_observable : g.D.Disk.observable l.disk ≡ g.D.Disk.observable l.fn.disk;
  time : Run (g.D.Disk.time l.fn.disk) (g.D.Disk.time l.disk) (g.D.Disk.left l.fn.disk) (g.D.Disk.left l.disk) (Others 0);
  failures : g.D.Disk.failures l.disk ≡ g.D.Disk.failures l.fn.disk;
  laid : IsTrue (g.D.Disk.observable l.fn.disk) → (s : ℕ) → s < l.k → slot_of (g.D.Disk.seen l.disk 0) s ≡ zeros;
  rest : IsTrue (g.D.Disk.observable l.fn.disk) → (s : ℕ) → l.k ≤ s → slot_of (g.D.Disk.seen l.disk 0) s ≡ slot_of (g.D.Disk.seen l.fn.disk 0) s;
}

abbrev pub decreases-zeros : goal.decreases-zeros
decreases-zeros g l = l.count - l.k
