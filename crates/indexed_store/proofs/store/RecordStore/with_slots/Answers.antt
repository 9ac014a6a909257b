use Rattle.std.proofs.Common.{◌≡◌, ℕ, List, [], length, sym, ap, ◌∙◌, subst}
use Rattle.abl_values.specs.Schema.{SchemaData}
use Rattle.sequence_slots.specs.Values.{HoldValues}
use Rattle.row_moves.specs.Moved.{moved_in}
use Rattle.slot_rows.specs.Opens.{log_in, touched_in}
use Rattle.slot_rows.proofs.OtherSlots.{committed_over}
use Rattle.indexed_store.proofs.OtherSlots.{indexed_over, opened_over}
use Rattle.indexed_store.proofs.store.RecordStore.with_slots.Goals as goal

pub invariant_of-result : goal.invariant_of-result
invariant_of-result g c =
    let store = c.args.self in
    let rows = store.rows in
    let s = g.S.Slots.state rows.chains.slots in
    let t = g.T.Slots.state c.args.slots in
    let e = c.with_slots.ensures in
    let undone : (d : ℕ) → (s.transaction d).undo ≡ [] = λ d. (rows.chains.sound.noted c.requires.fine_before).kept.idle d (c.requires.ended d) in
    record {
      sixteen = store.sixteen;
      values = store.values ∙ ap (λ (x : SchemaData). length x.sequences) (sym e.schema);
      few = store.few;
      held =
          rw e.slots
          (λ seen. subst (λ (f : ℕ → List ℕ). HoldValues f store.sequences.items)
          (sym (committed_over rows.schema s t (log_in rows.opens.items) (touched_in rows.opens.items) rows.stored c.requires.ended undone c.requires.fine_before c.requires.settled c.requires.same (seen, c.requires.fine)))
          (store.held (c.requires.same seen).0));
      indexed =
          rw (e.slots, e.schema, e.opens)
          (indexed_over rows.schema store.indexes.items store.sequences.items s t rows.opens.items c.requires.ended c.requires.idle (moved_in store.clients.items) c.requires.fine_before c.requires.same store.indexed);
    }

pub returns-clause-opened : goal.returns-clause-opened
returns-clause-opened g c = λ schema old opened same.
    let store = c.args.self in
    let rows = store.rows in
    let s = g.S.Slots.state rows.chains.slots in
    let t = g.T.Slots.state c.args.slots in
    let e = c.with_slots.ensures in
    rw (e.slots, e.schema, e.opens)
    (opened_over rows.schema store.indexes.items store.sequences.items s t rows.opens.items c.requires.ended c.requires.idle schema old c.requires.fine c.requires.settled same opened)
