use Rattle.std.proofs.Common.{◌≡◌, ℤ, List, length, sym, ap, ◌∙◌, subst, arith}
use Rattle.abl_values.specs.Schema.{SchemaData}
use Rattle.row_keys.specs.Numbers.{index_count}
use Rattle.row_moves.specs.Moved.{moved_in}
use Rattle.sequence_slots.specs.Values.{HoldValues}
use Rattle.slot_rows.specs.State.{state_of}
use Rattle.indexed_store.specs.State.{IsNewStore, no_reserved}
use Rattle.indexed_store.proofs.NewStore.{length_initial, new_indexed, new_store}
use Rattle.indexed_store.proofs.store.RecordStore.new.Goals as goal

pub invariant_of-result : goal.invariant_of-result
invariant_of-result g c =
    let rows = c.in_ok-rows.rows in
    let e = c.in_ok-rows.ensures in
    let i = c.in-Ok.ensures in
    let values = c.in-Ok-first_values.sequences.items in
    let s = g.S.Slots.state rows.chains.slots in
    let is : c.as_slice.result.now ≡ values = c.as_slice.ensures.value in
    let same : length c.as_slice.result.now ≡ length values = ap length is in
    let long = c.as_slice.ensures.len in
    let len = c.len.ensures in
    let few = c.if-len-gt-MAX_SEQUENCES.false in
    record {
      sixteen = c.in-Ok-idle_clients.ensures.sixteen;
      values = ap length c.in-Ok-first_values.ensures ∙ (length_initial c.args.schema.sequences ∙ ap (λ (x : SchemaData). length x.sequences) (sym e.schema));
      few = omega (arith, same, long, len, few);
      held = λ seen. subst (HoldValues s.committed) is (e.held seen);
      indexed =
          new_indexed rows.schema c.args.schema c.in-Ok.indexes.items values s rows.opens.items (moved_in c.in-Ok-idle_clients.clients.items)
          (subst (λ (v : List ℤ). IsNewStore (state_of rows.schema no_reserved v s rows.opens.items) c.args.schema) is e.new) (i.count ∙ ap index_count (sym e.schema)) i.places i.keepers c.in-Ok-idle_clients.ensures.idle;
    }

pub returns : goal.returns
returns g c =
    let rows = c.in_ok-rows.rows in
    let e = c.in_ok-rows.ensures in
    let i = c.in-Ok.ensures in
    let s = g.S.Slots.state rows.chains.slots in
    new_store rows.schema c.args.schema c.in-Ok.indexes.items c.in-Ok-first_values.sequences.items s rows.opens.items (moved_in c.in-Ok-idle_clients.clients.items)
    (subst (λ (v : List ℤ). IsNewStore (state_of rows.schema no_reserved v s rows.opens.items) c.args.schema) c.as_slice.ensures.value e.new) (i.count ∙ ap index_count (sym e.schema)) i.places i.keepers c.in-Ok-idle_clients.ensures.idle
