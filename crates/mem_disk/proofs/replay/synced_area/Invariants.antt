use Rattle.std.proofs.Common.{◌≡◌, take}
use Rattle.mem_disk.specs.Notes.{notes_of, after_notes, fresh}
use Rattle.mem_disk.proofs.replay.synced_area.Given as goal

abbrev pub invariant-loop-call : goal.invariant-loop-call
invariant-loop-call l = record {
  seen : l.seen.items ≡ (after_notes l.area (fresh l.first) (notes_of l.pool (take l.call-index l.calls))).seen;
  synced : l.synced.items ≡ (after_notes l.area (fresh l.first) (notes_of l.pool (take l.call-index l.calls))).synced;
}
