use Rattle.std.proofs.Common.{◌≡◌, [], map, take}
use Rattle.client_memory.specs.Buffers.{saved_contents}
use Rattle.client_memory.specs.Savepoints.{contents_with, counts_of}
use Rattle.client_memory.proofs.records.has_pending.Given as goal

abbrev pub invariant-loop-buffers : goal.invariant-loop-buffers
invariant-loop-buffers l = contents_with [] (counts_of (take l.buffers-index l.frames)) ≡ map saved_contents (take l.buffers-index l.frames)
