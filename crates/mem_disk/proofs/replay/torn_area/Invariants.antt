use Rattle.std.proofs.Common.{◌≡◌, ◌≤◌, drop}
use Rattle.mem_disk.specs.Notes.{notes_of}
use Rattle.mem_disk.specs.Crash.{torn_all}
use Rattle.mem_disk.proofs.replay.torn_area.Given as goal

abbrev pub invariant-loop-i : goal.invariant-loop-i
invariant-loop-i l = record {
  next : l.next ≤ l.i;
  rest : torn_all l.area l.image.items (notes_of l.pool (drop l.i l.calls)) (drop l.next l.torn) ≡ torn_all l.area l.fn.base.items (notes_of l.pool l.calls) l.torn;
}
