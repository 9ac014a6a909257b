use Rattle.std.proofs.Common.{map, refl, sym, ap, ◌∙◌}
use Rattle.client_memory.specs.Buffers.{denoted_buffer, denoted_spot_if, pending_count, with_spot}
use Rattle.client_memory.proofs.BufferLists.{same_count}
use Rattle.client_memory.proofs.buffers.Buffers.set_spot.Goals as goal

pub invariant_of-self : goal.invariant_of-self
invariant_of-self c = c.self.invariant ∙ sym (same_count (map denoted_buffer c.self.inside.buffers.items) c.args.number (with_spot (denoted_spot_if c.args.spot)) (λ b. refl)) ∙ ap pending_count (sym c.set_spot_at.ensures)
