use Rattle.std.proofs.Common.{ℕ, ◌+◌, List, None, Some, sym, ap, ◌∙◌, subst}
use Rattle.std.specs.List.{Contains}
use Rattle.std.specs.BinaryHeap.{heap_items}
use Rattle.free_slots.specs.Free.{free_in}
use Rattle.row_fragments.specs.Fragments.{first_or_zero}
use Rattle.byte_rows.specs.declared.places.Place.{Place}
use Rattle.byte_rows.specs.Places.{AreLaid, row_in}
use Rattle.byte_rows.specs.Rows.{AreRewritten, HoldsRow}
use Rattle.byte_rows.proofs.Drawn.{first_some, freed_after}
use Rattle.byte_rows.proofs.row.write_row.Goals as goal

pub returns-in-Ok-clause-freed : goal.returns-in-Ok-clause-freed
returns-in-Ok-clause-freed g c =
    let d = c.in_ok-draw_after.ensures.drawn in
    let f = c.args.free.now in
    let after = c.draw_after.new.free in
    let chain = c.draw_after.new.slots.items in
    freed_after c.args.places.now.items c.change.new.places.items (free_in (heap_items f.back) f.end) (free_in (heap_items after.back) after.end) c.args.chain.now.items d.0 chain
    (first_or_zero c.args.chain.now.items) (first_or_zero chain) (c.args.client + 1) d.1 d.4 c.requires.freed
    (λ k there. ap (λ (ps : List Place). row_in ps k) (sym c.deref-2.ensures.value)
    ∙ (c.are_held.ensures c.if-not-are_held.false k (subst (λ (xs : List ℕ). Contains xs k) (sym c.deref-3.ensures.value) there)
    ∙ (c.first-own.ensures ∙ ap first_or_zero c.deref.ensures.value)))
    c.requires.low
    (first_some chain c.args.chain.now.items d.0 c.args.more d.1 d.2 d.3 c.requires.some c.requires.low)
    (subst (λ (xs : List ℕ). AreLaid c.change.new.places.items xs (first_or_zero chain) 0 (c.args.client + 1)) c.deref-5.ensures.value
    (subst (λ (n : ℕ). AreLaid c.change.new.places.items c.deref-5.result.now n 0 (c.args.client + 1)) (c.first-row.ensures ∙ ap first_or_zero c.deref-4.ensures.value) c.in-Ok.ensures.laid))
    (λ k out. c.change.ensures.rest k (subst (λ (xs : List ℕ). ¬ Contains xs k) (sym c.deref-5.ensures.value) out))

pub returns-in-Ok-clause-first : goal.returns-in-Ok-clause-first
returns-in-Ok-clause-first g c =
    let d = c.in_ok-draw_after.ensures.drawn in
    first_some c.draw_after.new.slots.items c.args.chain.now.items d.0 c.args.more d.1 d.2 d.3 c.requires.some c.requires.low

pub returns-in-Ok-clause-laid : goal.returns-in-Ok-clause-laid
returns-in-Ok-clause-laid g c =
    let chain = c.draw_after.new.slots.items in
    subst (λ (xs : List ℕ). AreLaid c.change.new.places.items xs (first_or_zero chain) 0 (c.args.client + 1)) c.deref-5.ensures.value
    (subst (λ (n : ℕ). AreLaid c.change.new.places.items c.deref-5.result.now n 0 (c.args.client + 1)) (c.first-row.ensures ∙ ap first_or_zero c.deref-4.ensures.value) c.in-Ok.ensures.laid)

pub returns-in-Ok-clause-rest : goal.returns-in-Ok-clause-rest
returns-in-Ok-clause-rest g c = λ k out. c.change.ensures.rest k (subst (λ (xs : List ℕ). ¬ Contains xs k) (sym c.deref-5.ensures.value) out)

pub returns-in-Ok-clause-within : goal.returns-in-Ok-clause-within
returns-in-Ok-clause-within g c = λ k there. c.in-Ok.ensures.within k (subst (λ (xs : List ℕ). Contains xs k) (sym c.deref-5.ensures.value) there)

pub returns-in-Ok-clause-inside : goal.returns-in-Ok-clause-inside
returns-in-Ok-clause-inside g c = λ k there. c.in-Ok.ensures.inside k (subst (λ (xs : List ℕ). Contains xs k) (sym c.deref-5.ensures.value) there)

pub returns-in-Ok-clause-row : goal.returns-in-Ok-clause-row
returns-in-Ok-clause-row g c = λ readable some.
    let chain = c.draw_after.new.slots.items in
    let t = g.S.Slots.state c.change.new.slots in
    subst (λ (xs : List ℕ). HoldsRow t.reads xs (first_or_zero chain) (Some (record { table = c.args.table; bytes = c.args.bytes.now }))) c.deref-5.ensures.value
    (subst (λ (n : ℕ). HoldsRow t.reads c.deref-5.result.now n (Some (record { table = c.args.table; bytes = c.args.bytes.now }))) (c.first-row.ensures ∙ ap first_or_zero c.deref-4.ensures.value) (c.in-Ok.ensures.row readable some))

pub returns-in-Ok-clause-gone : goal.returns-in-Ok-clause-gone
returns-in-Ok-clause-gone g c = λ readable none.
    let chain = c.draw_after.new.slots.items in
    let t = g.S.Slots.state c.change.new.slots in
    subst (λ (xs : List ℕ). HoldsRow t.reads xs (first_or_zero chain) None) c.deref-5.ensures.value
    (subst (λ (n : ℕ). HoldsRow t.reads c.deref-5.result.now n None) (c.first-row.ensures ∙ ap first_or_zero c.deref-4.ensures.value) (c.in-Ok.ensures.gone readable none))

pub returns-in-Ok-clause-rewritten : goal.returns-in-Ok-clause-rewritten
returns-in-Ok-clause-rewritten g c = λ readable.
    subst (λ (xs : List ℕ). AreRewritten (g.S.Slots.state c.change.new.slots).reads xs c.args.keep c.args.table c.args.bytes.now) c.deref-5.ensures.value (c.in-Ok.ensures.rewritten readable)
