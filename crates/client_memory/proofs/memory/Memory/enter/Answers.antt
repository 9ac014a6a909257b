use Rattle.std.proofs.Common.{rules, refl, sym, arith, length}
use Rattle.client_memory.specs.declared.memory.Savepoint.{Savepoint}
use Rattle.client_memory.proofs.BufferLists.{stored_here}
use Rattle.client_memory.proofs.Remembers.{order_entered, view_entered, depth_more}
use Rattle.client_memory.proofs.memory.Memory.enter.Goals as goal

pub invariant_of-self-2 : goal.invariant_of-self-2
invariant_of-self-2 c =
    let m : Savepoint = record { made = c.args.made; frames = c.len.result; old_values = c.len-2.result; pending = c.in_ok-pending.pending } in (
      c.self.invariant.0,
      order_entered (length c.self.inside.old_values.items) (length c.self.inside.undoable.items) c.self.inside.savepoints.items c.push.new.self.items m c.in_ok-push.ensures.items (omega (arith, c.len-2.ensures, c.self.inside.old_values.ok.0)) (omega (arith, c.len.ensures, c.self.inside.undoable.ok.0)) c.self.invariant.1,
      depth_more c.self.inside.savepoints.items c.push.new.self.items m c.self.inside.depth c.in-Some.depth c.self.invariant.2 (search (rules, c.in-Some.is, c.checked_add.ensures)) c.in_ok-push.ensures.items,
      c.self.invariant.3,
    )

pub returns-clause-ok : goal.returns-clause-ok
returns-clause-ok c =
    let m : Savepoint = record { made = c.args.made; frames = c.len.result; old_values = c.len-2.result; pending = c.in_ok-pending.pending } in
    view_entered c.args.made c.self.inside.old_values.items c.self.inside.undoable.items c.self.inside.no_undo.items c.self.inside.buffers.items c.self.inside.savepoints.items c.push.new.self.items m c.args.self.now (sym c.self.view_is) c.in_ok-push.ensures.items refl (omega (arith, c.len.ensures, c.self.inside.undoable.ok.0)) (omega (arith, c.len-2.ensures, c.self.inside.old_values.ok.0)) c.self.invariant.3 (stored_here c.in_ok-pending.pending.items c.deref.result.now c.self.inside.buffers.items c.deref.ensures.value c.in_ok-pending.ensures)
