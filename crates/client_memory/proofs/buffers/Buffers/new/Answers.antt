use Rattle.std.proofs.Common.{◌∙◌, ap, sym}
use Rattle.client_memory.specs.Buffers.{pending_count}
use Rattle.client_memory.proofs.BufferLists.{new_count}
use Rattle.client_memory.proofs.buffers.Buffers.new.Goals as goal

pub invariant_of-result : goal.invariant_of-result
invariant_of-result c = new_count c.args.definitions.now ∙ ap pending_count (sym c.in_ok-buffers.ensures)
