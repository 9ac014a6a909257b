use Rattle.std.proofs.Common.{◌≡◌, ◌++◌, ◌∷◌, [], refl, sym, ap, ◌∙◌, length}
use Rattle.client_memory.proofs.Copies.{length_with}
use Rattle.client_memory.specs.declared.memory.OldValue.{OldValue}
use Rattle.client_memory.specs.Memory.{Remembered}
use Rattle.client_memory.proofs.Remembers.{order_set, view_set, set_is}
use Rattle.client_memory.proofs.memory.Memory.set.Goals as goal

pub invariant_of-self-else-is_empty : goal.invariant_of-self-else-is_empty
invariant_of-self-else-is_empty c =
    let o : OldValue = record { frame = c.frame_of-frame.result; number = c.args.variable.number; value = c.set_value-value.result } in
    let l : length c.set_value-value.new.frames.items ≡ length c.self.inside.undoable.items = ap length c.set_value-value.ensures.new ∙ length_with c.frame_of-frame.result c.args.variable.number c.args.value c.self.inside.undoable.items in (
      c.self.invariant.0 ∙ sym l,
      order_set 0 c.frame_of-frame.result c.args.variable.number c.args.value c.self.inside.undoable.items c.set_value-value.new.frames.items c.self.inside.old_values.items c.push_reserved.new.self.items o c.self.inside.savepoints.items c.set_value-value.ensures.new
          (c.push_reserved.ensures.items ∙ ap (λ old_values. old_values ++ o ∷ []) c.in_ok-reserve.ensures.items) c.self.invariant.1,
      c.self.invariant.2,
      c.self.invariant.3 ∙ sym l,
    )

pub returns-in_ok-reserve-clause-ok : goal.returns-in_ok-reserve-clause-ok
returns-in_ok-reserve-clause-ok c =
    let o : OldValue = record { frame = c.frame_of-frame.result; number = c.args.variable.number; value = c.set_value-value.result } in
    view_set c.frame_of-frame.result c.args.variable.number c.args.value c.self.inside.undoable.items c.set_value-value.new.frames.items c.self.inside.no_undo.items c.self.inside.buffers.items c.self.inside.old_values.items c.push_reserved.new.self.items o c.self.inside.savepoints.items c.args.self.now (sym c.self.view_is) c.set_value-value.ensures.new
    (c.push_reserved.ensures.items ∙ ap (λ old_values. old_values ++ o ∷ []) c.in_ok-reserve.ensures.items) refl refl c.set_value-value.ensures.old c.self.invariant.1
    ∙ set_is c.args.variable c.args.value c.args.self.now c.frame_of-frame.result c.len.result c.if-variable.true c.frame_of-frame.ensures (c.len.ensures ∙ c.self.inside.undoable.ok.0 ∙ ap (λ (m : Remembered). length m.undoable) c.self.view_is)
