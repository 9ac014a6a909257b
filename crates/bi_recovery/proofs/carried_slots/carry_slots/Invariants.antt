use Rattle.std.proofs.Common.{◌≡◌, ◌+◌, ◌*◌, ◌-◌, ◌≤◌, ℕ, length, IsTrue}
use Rattle.storage.specs.Disk.{Others}
use Rattle.storage.specs.Slots.{undone}
use Rattle.log_meaning.specs.steps.Steps.{Image, Run}
use Rattle.log_meaning.specs.Images.{slot_of}
use Rattle.bi_log.specs.Appending.{fresh}
use Rattle.bi_log.specs.Buffer.{content}
use Rattle.bi_log.specs.Generations.{IsClosed, AfterGate, IsPrepared}
use Rattle.bi_log.specs.Carrying.{Carries}
use Rattle.bi_log.specs.Lengths.{WithinLog}
use Rattle.bi_recovery.specs.Carried.{stills}
use Rattle.bi_recovery.proofs.carried_slots.carry_slots.Given as goal

abbrev pub invariant-slots : goal.invariant-slots
invariant-slots g l = record {
  within : l.n ≤ l.count;
  same_count : l.count ≡ l.fn.count;
  same_area : l.area ≡ l.fn.area;
  same_slots : l.slots ≡ l.fn.slots;
  low : 32 ≤ l.gate;
  place : l.gate + 6 * length (content l.buffer) ≤ 32 + 3150 * l.n;
  near : 20 * l.gate + 21 * length (content l.buffer) ≤ 640 + 11025 * l.n;
  longer : l.fn.count ≤ 300000 → Run (g.D.Disk.time l.fn.disk) (g.D.Disk.time l.disk) (g.D.Disk.left l.fn.disk) (g.D.Disk.left l.disk) (WithinLog 167772160);
  same_observable : g.D.Disk.observable l.disk ≡ g.D.Disk.observable l.fn.disk;
  time : Run (g.D.Disk.time l.fn.disk) (g.D.Disk.time l.disk) (g.D.Disk.left l.fn.disk) (g.D.Disk.left l.disk) (AfterGate l.fn.area);
  failures : g.D.Disk.failures l.disk ≡ g.D.Disk.failures l.fn.disk;
  closed : (image : Image) → g.D.Disk.left l.disk (g.D.Disk.time l.disk) image → IsClosed (image l.fn.area);
  carries : IsTrue (g.D.Disk.observable l.fn.disk) → (generation : ℕ) → ((image : Image) → g.D.Disk.left l.fn.disk (g.D.Disk.time l.fn.disk) image → IsPrepared (image l.fn.area) (fresh generation) 32)
      → Carries (g.D.Disk.left l.disk (g.D.Disk.time l.disk)) l.fn.area l.gate l.buffer generation (stills (undone l.fn.slots (slot_of (g.D.Disk.seen l.fn.disk 0))) l.n);
  seen : IsTrue (g.D.Disk.observable l.fn.disk) → Others l.fn.area (g.D.Disk.seen l.fn.disk) (g.D.Disk.seen l.disk);
}

abbrev pub decreases-slots : goal.decreases-slots
decreases-slots g l = l.count - l.n
