use Rattle.std.proofs.Common.{◌∙◌, ap, sym, subst, length, arith}
use Rattle.std.proofs.lemmas.List.{length-take-le}
use Rattle.client_memory.specs.Savepoints.{AreInOrder}
use Rattle.client_memory.proofs.Levels.{order_left_to, view_left_to, view_left_nowhere}
use Rattle.client_memory.proofs.memory.Memory.leave_to.Goals as goal

pub invariant_of-self : goal.invariant_of-self
invariant_of-self c =
    let m = c.self.inside in
    let o = length m.old_values.items in
    let f = length m.undoable.items in (
      c.self.invariant.0,
      subst (λ ms. AreInOrder o f 0 0 ms) (sym c.truncate.ensures.items) (order_left_to o f 0 0 c.args.depth m.savepoints.items c.self.invariant.1),
      sym (ap length c.truncate.ensures.items ∙ length-take-le c.args.depth m.savepoints.items (omega (arith, c.if-depth-self.true, c.self.invariant.2))),
      c.self.invariant.3,
    )

pub returns-then-depth-self : goal.returns-then-depth-self
returns-then-depth-self c =
    view_left_to c.self.inside.old_values.items c.self.inside.undoable.items c.self.inside.no_undo.items c.self.inside.buffers.items c.self.inside.savepoints.items c.truncate.new.self.items c.args.depth c.args.self.now (sym c.self.view_is) c.truncate.ensures.items

pub returns-else-depth-self : goal.returns-else-depth-self
returns-else-depth-self c =
    view_left_nowhere c.self.inside.old_values.items c.self.inside.undoable.items c.self.inside.no_undo.items c.self.inside.buffers.items c.self.inside.savepoints.items c.args.depth c.args.self.now (sym c.self.view_is) (omega (arith, c.if-depth-self.false, c.self.invariant.2))
