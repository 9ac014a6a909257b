use Rattle.std.proofs.Common.{◌≡◌, map, take}
use Rattle.client_memory.specs.Buffers.{denoted_content}
use Rattle.client_memory.proofs.buffers.SavedContents.copy.Given as goal

abbrev pub invariant-loop-content : goal.invariant-loop-content
invariant-loop-content l = map denoted_content l.contents.items ≡ map denoted_content (take l.content-index l.content-items)
