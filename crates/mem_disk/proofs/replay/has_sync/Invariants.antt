use Rattle.std.proofs.Common.{◌≡◌, ℕ, List, drop}
use Rattle.mem_disk.specs.Notes.{notes_of}
use Rattle.mem_disk.specs.Crash.{synced_in}
use Rattle.mem_disk.proofs.replay.has_sync.Given as goal

abbrev pub invariant-loop-call : goal.invariant-loop-call
invariant-loop-call l = (pool : List ℕ) → synced_in l.area (notes_of pool l.calls) ≡ synced_in l.area (notes_of pool (drop l.call-index l.calls))
