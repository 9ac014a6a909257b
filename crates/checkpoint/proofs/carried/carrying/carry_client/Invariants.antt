use Rattle.std.proofs.Common.{◌≡◌, ◌+◌, ◌*◌, ◌-◌, ◌≤◌, ◌++◌, ℕ, List, length, take, IsTrue}
use Rattle.storage.specs.Disk.{Others}
use Rattle.log_meaning.specs.steps.Steps.{Image, Run}
use Rattle.log_meaning.specs.declared.note.Note.{Note}
use Rattle.log_meaning.specs.Images.{slot_of}
use Rattle.log_meaning.specs.Logged.{carried_of}
use Rattle.bi_log.specs.Buffer.{content}
use Rattle.bi_log.specs.Generations.{IsClosed, AfterGate}
use Rattle.bi_log.specs.Carrying.{Carries}
use Rattle.bi_log.specs.Lengths.{WithinLog}
use Rattle.open_transactions.specs.Clients.{list_in}
use Rattle.checkpoint.proofs.carried.carrying.carry_client.Given as goal

abbrev pub invariant-writes : goal.invariant-writes
invariant-writes g l = record {
  same_area : l.area ≡ l.fn.area;
  same_client : l.client ≡ l.fn.client;
  same_number : l.number ≡ l.fn.number;
  same_transactions : l.transactions ≡ l.fn.transactions;
  all : l.count ≡ length (list_in l.fn.transactions.clients.items l.fn.client);
  within : l.i ≤ l.count;
  low : l.fn.first ≤ l.gate;
  place : l.gate + 6 * length (content l.buffer) ≤ l.fn.first + 6 * length (content l.fn.buffer) + 3150 * l.i;
  near : 20 * l.gate + 21 * length (content l.buffer) ≤ 20 * l.fn.first + 21 * length (content l.fn.buffer) + 11025 * l.i;
  longer : (most : ℕ) → 20 * l.fn.first + 21 * length (content l.fn.buffer) + 11025 * l.count + 120 ≤ 20 * most → Run (g.D.Disk.time l.fn.disk) (g.D.Disk.time l.disk) (g.D.Disk.left l.fn.disk) (g.D.Disk.left l.disk) (WithinLog most);
  same_observable : g.D.Disk.observable l.disk ≡ g.D.Disk.observable l.fn.disk;
  time : Run (g.D.Disk.time l.fn.disk) (g.D.Disk.time l.disk) (g.D.Disk.left l.fn.disk) (g.D.Disk.left l.disk) (AfterGate l.fn.area);
  failures : g.D.Disk.failures l.disk ≡ g.D.Disk.failures l.fn.disk;
  closed : (image : Image) → g.D.Disk.left l.disk (g.D.Disk.time l.disk) image → IsClosed (image l.fn.area);
  carries : IsTrue (g.D.Disk.observable l.fn.disk) → (generation : ℕ) (notes : List Note) → Carries (g.D.Disk.left l.fn.disk (g.D.Disk.time l.fn.disk)) l.fn.area l.fn.first l.fn.buffer generation notes
      → Carries (g.D.Disk.left l.disk (g.D.Disk.time l.disk)) l.fn.area l.gate l.buffer generation (notes ++ carried_of l.fn.number (slot_of (g.D.Disk.seen l.fn.disk 0)) (take l.i (list_in l.fn.transactions.clients.items l.fn.client)));
  seen : IsTrue (g.D.Disk.observable l.fn.disk) → Others l.fn.area (g.D.Disk.seen l.fn.disk) (g.D.Disk.seen l.disk);
}

abbrev pub decreases-writes : goal.decreases-writes
decreases-writes g l = l.count - l.i
