use Rattle.std.proofs.Common.{◌≡◌, ◌++◌, map, take, drop}
use Rattle.block_meaning.specs.Buffers.{buffer_shared}
use Rattle.client_memory.proofs.records.share_all.Given as goal

abbrev pub invariant-loop-buffers : goal.invariant-loop-buffers
invariant-loop-buffers l = l.buffers-items ≡ map (map buffer_shared) (take l.buffers-index l.initial.buffers-items) ++ drop l.buffers-index l.initial.buffers-items
