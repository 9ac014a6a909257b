use Rattle.std.proofs.Common.{◌≡◌, ◌++◌, map, take, drop}
use Rattle.block_meaning.specs.Buffers.{buffer_shared}
use Rattle.client_memory.specs.Buffers.{denoted_buffer}
use Rattle.client_memory.proofs.buffers.share_buffers.Given as goal

abbrev pub invariant-loop-buffer : goal.invariant-loop-buffer
invariant-loop-buffer l =
    map denoted_buffer l.buffer-items ≡ map buffer_shared (take l.buffer-index (map denoted_buffer l.initial.buffer-items)) ++ drop l.buffer-index (map denoted_buffer l.initial.buffer-items)
