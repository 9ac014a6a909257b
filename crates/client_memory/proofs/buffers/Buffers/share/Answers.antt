use Rattle.std.proofs.Common.{map, sym, ap, ◌∙◌}
use Rattle.client_memory.specs.Buffers.{denoted_buffer, pending_count}
use Rattle.client_memory.proofs.BufferLists.{shared_count}
use Rattle.client_memory.proofs.buffers.Buffers.share.Goals as goal

pub invariant_of-self : goal.invariant_of-self
invariant_of-self c = c.self.invariant ∙ sym (shared_count (map denoted_buffer c.self.inside.buffers.items)) ∙ ap pending_count (sym c.share_buffers.ensures)
