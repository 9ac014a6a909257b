use Rattle.std.specs.Prelude.{All}
use Rattle.log_meaning.specs.Bytes.{IsNote}
use Rattle.std.proofs.Common.{◌≡◌, ◌+◌, ◌≤◌, ◌^◌, ℕ, IsTrue, ◌-◌}
use Rattle.storage.specs.Disk.{Stays}
use Rattle.log_meaning.specs.Images.{IsOpened}
use Rattle.bi_recovery.specs.ReadNotes.{HasReadTo}
use Rattle.bi_recovery.proofs.notes_read.read_notes.Given as goal

abbrev pub invariant-notes : goal.invariant-notes
invariant-notes g l = record {
  rest : Stays (g.D.Disk.observable l.fn.disk) (g.D.Disk.observable l.disk) (g.D.Disk.seen l.fn.disk) (g.D.Disk.seen l.disk) (g.D.Disk.time l.fn.disk) (g.D.Disk.time l.disk) (g.D.Disk.left l.fn.disk) (g.D.Disk.left l.disk);
  failures : g.D.Disk.failures l.disk ≡ g.D.Disk.failures l.fn.disk;
  same_area : l.area ≡ l.fn.area;
  sound : All IsNote l.notes.items;
  place : l.at + l.left ≤ 2 ^ 40 + 2 ^ 20 + 5;
  read : IsTrue (g.D.Disk.observable l.fn.disk) → (generation : ℕ) → IsOpened (g.D.Disk.seen l.fn.disk l.fn.area) generation → HasReadTo (g.D.Disk.seen l.fn.disk l.fn.area) generation l.at l.left l.notes.items;
}

abbrev pub decreases-notes : goal.decreases-notes
decreases-notes g l = 2 ^ 41 - l.at
