use Rattle.std.proofs.Common.{◌≡◌, ◌-◌, ◌≤◌, ap, ◌∙◌, length, take, arith}
use Rattle.std.proofs.lemmas.List.{length-take}
use Rattle.client_memory.specs.Savepoints.{innermost_frames}
use Rattle.client_memory.proofs.Procedures.{view_ended, order_shorter, outer_frames}
use Rattle.client_memory.proofs.memory.Memory.end.Goals as goal

pub invariant_of-self : goal.invariant_of-self
invariant_of-self c =
    let m = c.self.inside in
    let n : c.saturating_sub-count.result ≡ length m.undoable.items - 1 = omega (arith, c.saturating_sub-count.ensures, c.len.ensures, m.undoable.ok.0) in
    let e1 : c.truncate.new.self.items ≡ take (length m.undoable.items - 1) m.undoable.items = c.truncate.ensures.items ∙ ap (λ n. take n m.undoable.items) n in
    let e2 : c.truncate-then-outer_procedures-count.new.self.items ≡ take (length m.undoable.items - 1) m.no_undo.items = c.truncate-then-outer_procedures-count.ensures.items ∙ ap (λ n. take n m.no_undo.items) n in
    let e3 : c.truncate-then-outer_procedures-count-2.new.self.items ≡ take (length m.undoable.items - 1) m.buffers.items = c.truncate-then-outer_procedures-count-2.ensures.items ∙ ap (λ n. take n m.buffers.items) n in
    let low : innermost_frames m.savepoints.items ≤ length m.undoable.items - 1 =
    let is : c.outer_procedures.result ≡ innermost_frames m.savepoints.items = c.outer_procedures.ensures ∙ ap innermost_frames c.deref.ensures.value in
    omega (arith, is, n, c.if-outer_procedures-count.true) in
    let a = ap length e1 in
    let b = ap length e2 in
    let d = ap length e3 in
    let z = length-take (length m.undoable.items - 1) m.buffers.items in
    let x = length-take (length m.undoable.items - 1) m.undoable.items in
    let y = length-take (length m.undoable.items - 1) m.no_undo.items in
    (omega (arith, a, b, x, y, c.self.invariant.0), order_shorter (length m.old_values.items) m.undoable.items c.truncate.new.self.items m.savepoints.items e1 low c.self.invariant.1, c.self.invariant.2, omega (arith, a, d, x, z, c.self.invariant.3))

pub returns-then-outer_procedures-count : goal.returns-then-outer_procedures-count
returns-then-outer_procedures-count c = λ outer.
    let m = c.self.inside in
    let n : c.saturating_sub-count.result ≡ length m.undoable.items - 1 = omega (arith, c.saturating_sub-count.ensures, c.len.ensures, m.undoable.ok.0) in
    view_ended m.old_values.items m.undoable.items c.truncate.new.self.items m.no_undo.items c.truncate-then-outer_procedures-count.new.self.items m.buffers.items c.truncate-then-outer_procedures-count-2.new.self.items m.savepoints.items c.args.self.now c.self.view_is
    (c.truncate.ensures.items ∙ ap (λ n. take n m.undoable.items) n) (c.truncate-then-outer_procedures-count.ensures.items ∙ ap (λ n. take n m.no_undo.items) n) (c.truncate-then-outer_procedures-count-2.ensures.items ∙ ap (λ n. take n m.buffers.items) n) c.self.invariant.3 c.self.invariant.1 outer

pub returns-else-outer_procedures-count : goal.returns-else-outer_procedures-count
returns-else-outer_procedures-count c = λ outer.
    let m = c.self.inside in
    let n : c.saturating_sub-count.result ≡ length m.undoable.items - 1 = omega (arith, c.saturating_sub-count.ensures, c.len.ensures, m.undoable.ok.0) in
    let low = outer_frames m.old_values.items m.undoable.items m.no_undo.items m.buffers.items m.savepoints.items c.args.self.now c.self.view_is c.self.invariant.3 c.self.invariant.1 outer in
    let is : c.outer_procedures.result ≡ innermost_frames m.savepoints.items = c.outer_procedures.ensures ∙ ap innermost_frames c.deref.ensures.value in
    absurd (omega (arith, is, n, low, c.if-outer_procedures-count.false))
