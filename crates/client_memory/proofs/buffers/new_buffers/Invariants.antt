use Rattle.std.proofs.Common.{◌≡◌, map, take}
use Rattle.block_meaning.specs.Meaning.{new_buffer}
use Rattle.client_memory.specs.Buffers.{denoted_buffer}
use Rattle.client_memory.proofs.buffers.new_buffers.Given as goal

abbrev pub invariant-loop-definition : goal.invariant-loop-definition
invariant-loop-definition l = map denoted_buffer l.buffers.items ≡ map new_buffer (take l.definition-index l.definitions)
