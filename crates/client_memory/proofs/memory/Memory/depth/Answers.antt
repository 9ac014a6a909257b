use Rattle.std.proofs.Common.{sym, ap, ◌∙◌, length}
use Rattle.client_memory.specs.Memory.{Remembered}
use Rattle.client_memory.proofs.Remembers.{levels}
use Rattle.client_memory.proofs.memory.Memory.depth.Goals as goal

pub returns : goal.returns
returns c =
    c.self.invariant.2 ∙ sym (levels c.self.inside.old_values.items c.self.inside.undoable.items c.self.inside.no_undo.items c.self.inside.buffers.items c.self.inside.savepoints.items) ∙ ap (λ (m : Remembered). length m.copies) c.self.view_is
