use Rattle.std.proofs.Common.{sym, ap, ◌∙◌, reverse}
use Rattle.client_memory.specs.OldValues.{old_values_of}
use Rattle.client_memory.specs.Savepoints.{counts_of, innermost_made}
use Rattle.client_memory.specs.Memory.{Remembered, last_copy, made_before}
use Rattle.client_memory.proofs.LastMade.{made_is}
use Rattle.client_memory.proofs.memory.Memory.made_before.Goals as goal

pub returns : goal.returns
returns c =
    let m = c.self.inside in
    c.creates_before.ensures ∙ ap innermost_made c.deref.ensures.value
    ∙ sym (made_is (counts_of m.buffers.items) 0 (reverse (old_values_of m.old_values.items)) m.undoable.items m.savepoints.items)
    ∙ ap (λ (x : Remembered). made_before (last_copy x.copies)) c.self.view_is
