use Rattle.std.proofs.Common.{◌≡◌, map, take}
use Rattle.client_memory.specs.Buffers.{saved_contents}
use Rattle.client_memory.proofs.records.all_saved.Given as goal

abbrev pub invariant-loop-buffers : goal.invariant-loop-buffers
invariant-loop-buffers l = l.saved.items ≡ map saved_contents (take l.buffers-index l.frames)
