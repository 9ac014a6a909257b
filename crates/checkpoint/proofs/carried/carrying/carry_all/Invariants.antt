use Rattle.std.proofs.Common.{◌≡◌, ◌+◌, ◌*◌, ◌-◌, ◌≤◌, ℕ, length, IsTrue}
use Rattle.storage.specs.Disk.{Others}
use Rattle.log_meaning.specs.steps.Steps.{Image, Run}
use Rattle.log_meaning.specs.Images.{slot_of}
use Rattle.bi_log.specs.Appending.{fresh}
use Rattle.bi_log.specs.Buffer.{content}
use Rattle.bi_log.specs.Generations.{IsClosed, AfterGate, IsPrepared}
use Rattle.bi_log.specs.Carrying.{Carries}
use Rattle.bi_log.specs.Lengths.{WithinLog}
use Rattle.open_transactions.specs.Clients.{list_in, number_in}
use Rattle.checkpoint.specs.next.Carrying.{notes_below}
use Rattle.checkpoint.proofs.carried.carrying.carry_all.Given as goal

abbrev pub invariant-clients : goal.invariant-clients
invariant-clients g l = record {
  same_area : l.area ≡ l.fn.area;
  same_transactions : l.transactions ≡ l.fn.transactions;
  within : l.client ≤ 16;
  low : 32 ≤ l.gate;
  place : l.gate + 6 * length (content l.buffer) ≤ 32 + 412876800 * l.client;
  near : 20 * l.gate + 21 * length (content l.buffer) ≤ 640 + 88188975 * l.client;
  longer : Run (g.D.Disk.time l.fn.disk) (g.D.Disk.time l.disk) (g.D.Disk.left l.fn.disk) (g.D.Disk.left l.disk) (WithinLog 167772160);
  same_observable : g.D.Disk.observable l.disk ≡ g.D.Disk.observable l.fn.disk;
  time : Run (g.D.Disk.time l.fn.disk) (g.D.Disk.time l.disk) (g.D.Disk.left l.fn.disk) (g.D.Disk.left l.disk) (AfterGate l.fn.area);
  failures : g.D.Disk.failures l.disk ≡ g.D.Disk.failures l.fn.disk;
  closed : (image : Image) → g.D.Disk.left l.disk (g.D.Disk.time l.disk) image → IsClosed (image l.fn.area);
  carries : IsTrue (g.D.Disk.observable l.fn.disk) → (generation : ℕ) → ((image : Image) → g.D.Disk.left l.fn.disk (g.D.Disk.time l.fn.disk) image → IsPrepared (image l.fn.area) (fresh generation) 32)
      → Carries (g.D.Disk.left l.disk (g.D.Disk.time l.disk)) l.fn.area l.gate l.buffer generation (notes_below (number_in l.fn.transactions.clients.items) (slot_of (g.D.Disk.seen l.fn.disk 0)) (list_in l.fn.transactions.clients.items) l.client);
  seen : IsTrue (g.D.Disk.observable l.fn.disk) → Others l.fn.area (g.D.Disk.seen l.fn.disk) (g.D.Disk.seen l.disk);
}

abbrev pub decreases-clients : goal.decreases-clients
decreases-clients g l = 16 - l.client
