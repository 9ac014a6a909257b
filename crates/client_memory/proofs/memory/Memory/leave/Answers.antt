use Rattle.std.proofs.Common.{sym, length, vec_len}
use Rattle.client_memory.proofs.Remembers.{order_left, depth_less}
use Rattle.client_memory.proofs.Levels.{view_left, some_left}
use Rattle.client_memory.proofs.memory.Memory.leave.Goals as goal

pub invariant_of-self-else-is_empty : goal.invariant_of-self-else-is_empty
invariant_of-self-else-is_empty c =
    (c.self.invariant.0, order_left (length c.self.inside.old_values.items) (length c.self.inside.undoable.items) c.self.inside.savepoints.items c.pop.new.self.items c.in-Some.field-0 c.in-Some.ensures.items c.self.invariant.1, depth_less c.self.inside.savepoints.items c.pop.new.self.items c.in-Some.field-0 c.self.inside.depth c.saturating_sub-self-inside.result c.self.invariant.2 c.saturating_sub-self-inside.ensures c.in-Some.ensures.items, c.self.invariant.3)

pub returns-in-Some : goal.returns-in-Some
returns-in-Some c =
    view_left c.self.inside.old_values.items c.self.inside.undoable.items c.self.inside.no_undo.items c.self.inside.buffers.items c.self.inside.savepoints.items c.pop.new.self.items c.in-Some.field-0 c.args.self.now (sym c.self.view_is) c.in-Some.ensures.items (some_left c.pop.new.self.items (vec_len c.pop.new.self) c.is_empty.result c.pop.new.self.ok.0 c.is_empty.ensures c.if-is_empty.false)
