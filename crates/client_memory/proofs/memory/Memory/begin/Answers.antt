use Rattle.std.proofs.Common.{◌≡◌, ◌++◌, ◌∷◌, [], ap, ◌∙◌, length, arith}
use Rattle.std.proofs.lemmas.List.{length-append}
use Rattle.client_memory.proofs.Procedures.{view_begun, order_begun}
use Rattle.client_memory.proofs.memory.Memory.begin.Goals as goal

pub invariant_of-self-2 : goal.invariant_of-self-2
invariant_of-self-2 c =
    let e1 : c.push_reserved.new.self.items ≡ c.self.inside.undoable.items ++ c.args.undoable ∷ [] = c.push_reserved.ensures.items ∙ ap (λ xs. xs ++ c.args.undoable ∷ []) c.in_ok-reserve.ensures.items in
    let e2 : c.push_reserved-2.new.self.items ≡ c.self.inside.no_undo.items ++ c.args.no_undo ∷ [] = c.push_reserved-2.ensures.items ∙ ap (λ xs. xs ++ c.args.no_undo ∷ []) c.in_ok-reserve-2.ensures.items in
    let e3 : c.push_reserved-3.new.self.items ≡ c.self.inside.buffers.items ++ c.args.buffers ∷ [] = c.push_reserved-3.ensures.items ∙ ap (λ xs. xs ++ c.args.buffers ∷ []) c.in_ok-reserve-3.ensures.items in
    let a = ap length e1 in
    let b = ap length e2 in
    let d = ap length e3 in
    let z = length-append c.self.inside.buffers.items (c.args.buffers ∷ []) in
    let x = length-append c.self.inside.undoable.items (c.args.undoable ∷ []) in
    let y = length-append c.self.inside.no_undo.items (c.args.no_undo ∷ []) in
    (omega (arith, a, b, x, y, c.self.invariant.0), order_begun c.args.undoable (length c.self.inside.old_values.items) c.self.inside.undoable.items c.push_reserved.new.self.items c.self.inside.savepoints.items e1 c.self.invariant.1, c.self.invariant.2, omega (arith, a, d, x, z, c.self.invariant.3))

pub returns-clause-ok : goal.returns-clause-ok
returns-clause-ok c =
    view_begun c.args.undoable c.args.no_undo c.args.buffers c.self.inside.old_values.items c.self.inside.undoable.items c.push_reserved.new.self.items c.self.inside.no_undo.items c.push_reserved-2.new.self.items c.self.inside.buffers.items c.push_reserved-3.new.self.items c.self.inside.savepoints.items c.args.self.now c.self.view_is
    (c.push_reserved.ensures.items ∙ ap (λ xs. xs ++ c.args.undoable ∷ []) c.in_ok-reserve.ensures.items) (c.push_reserved-2.ensures.items ∙ ap (λ xs. xs ++ c.args.no_undo ∷ []) c.in_ok-reserve-2.ensures.items)
    (c.push_reserved-3.ensures.items ∙ ap (λ xs. xs ++ c.args.buffers ∷ []) c.in_ok-reserve-3.ensures.items) c.self.invariant.3 c.self.invariant.1
