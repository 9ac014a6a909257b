use Rattle.std.proofs.Common.{◌≡◌, ◌-◌, Some, sym, ap, ◌∙◌, arith, length, reverse, subst}
use Rattle.std.specs.Prelude.{option_copied, slice_get}
use Rattle.client_memory.proofs.Copies.{length_back}
use Rattle.client_memory.specs.declared.memory.Savepoint.{Savepoint}
use Rattle.client_memory.specs.OldValues.{old_values_of}
use Rattle.client_memory.specs.Memory.{buffers_restored}
use Rattle.client_memory.proofs.Restored.{view_back, order_back, last_item, length_buffers_restored}
use Rattle.client_memory.proofs.memory.Memory.back.Goals as goal

pub invariant_of-self : goal.invariant_of-self
invariant_of-self c =
    let l = length_back c.in-Some-pop.savepoint.old_values (reverse (old_values_of c.self.inside.old_values.items)) c.self.inside.undoable.items in
    let e = ap length c.restore.ensures.values in (
      omega (arith, l, e, c.self.invariant.0),
      order_back c.self.inside.old_values.items c.restore.new.old_values.items c.self.inside.undoable.items c.restore.new.frames.items c.self.inside.savepoints.items c.pop.new.self.items c.push_reserved.new.self.items c.in-Some-pop.savepoint c.in-Some-pop.ensures.items c.push_reserved.ensures.items c.self.invariant.1 c.restore.ensures.values c.restore.ensures.old_values,
      c.self.invariant.2 ∙ ap length (c.in-Some-pop.ensures.items ∙ sym c.push_reserved.ensures.items),
      length_buffers_restored c.in_ok-pending.pending.items c.self.inside.buffers.items c.restore_records.new.frames.items c.self.inside.undoable.items c.restore.new.frames.items c.in-Some-pop.savepoint.old_values (reverse (old_values_of c.self.inside.old_values.items)) c.self.invariant.3 c.restore_records.ensures c.restore.ensures.values,
    )

pub returns-in-Some-pop-clause-ok : goal.returns-in-Some-pop-clause-ok
returns-in-Some-pop-clause-ok c =
    let found : slice_get c.deref.result.now (length c.deref.result.now - 1) ≡ Some c.in-Some.innermost.now = sym c.last.ensures.value ∙ ap option_copied c.in-Some.is in
    let same : c.in-Some.innermost.now ≡ c.in-Some-pop.savepoint = last_item c.self.inside.savepoints.items c.pop.new.self.items c.in-Some-pop.savepoint c.in-Some.innermost.now c.in-Some-pop.ensures.items (subst (λ xs. slice_get xs (length xs - 1) ≡ Some c.in-Some.innermost.now) c.deref.ensures.value found) in
    let saved = c.in_ok-pending.ensures ∙ c.deref-2.ensures.value ∙ ap (λ (m : Savepoint). m.pending.items) same in
    view_back c.self.inside.old_values.items c.restore.new.old_values.items c.self.inside.undoable.items c.restore.new.frames.items c.self.inside.no_undo.items c.self.inside.buffers.items c.restore_records.new.frames.items c.self.inside.savepoints.items c.pop.new.self.items c.push_reserved.new.self.items c.in-Some-pop.savepoint c.args.self.now (sym c.self.view_is) c.in-Some-pop.ensures.items c.push_reserved.ensures.items c.self.invariant.3 c.self.invariant.1 c.restore.ensures.values c.restore.ensures.old_values (c.restore_records.ensures ∙ ap (λ css. buffers_restored css c.self.inside.buffers.items) saved)
