use Rattle.std.proofs.Common.{◌≡◌, map, take}
use Rattle.block_meaning.specs.Buffers.{own}
use Rattle.client_memory.specs.Buffers.{denoted_place}
use Rattle.client_ends.proofs.lists.own_places.Given as goal

abbrev pub invariant-loop-buffer : goal.invariant-loop-buffer
invariant-loop-buffer l = map denoted_place l.places.items ≡ map own (take l.buffer-index l.buffers)
