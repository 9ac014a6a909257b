use Rattle.std.proofs.Common.{◌≡◌, map, take}
use Rattle.client_memory.specs.Buffers.{denoted_buffer, denoted_content, saved_contents}
use Rattle.client_memory.proofs.buffers.Buffers.saved.Given as goal

abbrev pub invariant-loop-buffer : goal.invariant-loop-buffer
invariant-loop-buffer l = map denoted_content l.contents.items ≡ saved_contents (map denoted_buffer (take l.buffer-index l.buffer-items))
