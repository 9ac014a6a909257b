use Rattle.std.proofs.Common.{map, refl, sym, ap, ◌∙◌}
use Rattle.client_memory.specs.Buffers.{denoted_buffer, pending_count, with_locked}
use Rattle.client_memory.proofs.BufferLists.{same_count}
use Rattle.client_memory.proofs.buffers.Buffers.set_locked.Goals as goal

pub invariant_of-self : goal.invariant_of-self
invariant_of-self c = c.self.invariant ∙ sym (same_count (map denoted_buffer c.self.inside.buffers.items) c.args.number (with_locked c.args.locked) (λ b. refl)) ∙ ap pending_count (sym c.set_locked_at.ensures)
