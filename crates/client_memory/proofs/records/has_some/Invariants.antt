use Rattle.client_memory.specs.Buffers.{HasNoBuffers}
use Rattle.std.proofs.Common.{take}
use Rattle.client_memory.proofs.records.has_some.Given as goal

abbrev pub invariant-loop-buffers : goal.invariant-loop-buffers
invariant-loop-buffers l = HasNoBuffers (take l.buffers-index l.frames)
