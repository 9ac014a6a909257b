use Rattle.std.proofs.Common.{◌≡◌, map, vec_len}
use Rattle.block_meaning.specs.Frames.{contents_restored}
use Rattle.client_memory.specs.Buffers.{denoted_content}
use Rattle.client_memory.proofs.buffers.Buffers.restore.Given as goal

abbrev pub invariant-loop-content : goal.invariant-loop-content
invariant-loop-content l = contents_restored (map denoted_content l.contents.items) l.self ≡ contents_restored (map denoted_content l.initial.contents.items) l.initial.self

abbrev pub decreases-loop-content : goal.decreases-loop-content
decreases-loop-content l = vec_len l.contents
