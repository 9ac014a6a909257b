use Rattle.std.proofs.Common.{◌≡◌, ◌≤◌, ℕ, List, Some, Err, length, slice_set, sym, ap, ◌∙◌, subst, arith}
use Rattle.std.specs.BinaryHeap.{heap_items}
use Rattle.free_slots.specs.Free.{free_in}
use Rattle.storage.specs.Slots.{IsReadable}
use Rattle.abl_values.specs.Rows.{bytes_of_row, fragments_of}
use Rattle.database_meaning.specs.Setting.{fragments}
use Rattle.row_fragments.specs.Fragments.{table_in}
use Rattle.row_store.specs.Rows.{AfterError}
use Rattle.row_store.specs.declared.store.RowFault.{RowFault}
use Rattle.slot_rows.specs.Decoded.{row_of}
use Rattle.slot_rows.specs.State.{state_of}
use Rattle.slot_rows.proofs.Chaining.{chains_go}
use Rattle.slot_rows.proofs.Errors.{after_refusal}
use Rattle.slot_rows.proofs.Methods.{begun_touched, same_all}
use Rattle.slot_rows.proofs.Replaced.{few_fragments, put_is, put_reads, replace_keeps, replace_says, row_there}
use Rattle.slot_rows.proofs.Counting.{counted_keeps}
use Rattle.slot_rows.proofs.Quiet.{quiet_changes}
use Rattle.slot_rows.proofs.rows.StoredRows.put.Goals as goal

pub put-requires-clause-there : goal.put-requires-clause-there
put-requires-clause-there g c = λ readable.
    let rows = c.args.self.now in
    row_there rows.schema (g.S.Slots.state rows.chains.slots).reads c.args.row.0 c.args.old.row (c.requires.there readable)

pub invariant_of-self-2-clause-stored : goal.invariant_of-self-2-clause-stored
invariant_of-self-2-clause-stored g c =
    let rows = c.args.self.now in
    let old = rows.chains in
    let new = c.put.new.chains in
    let s = g.S.Slots.state old.slots in
    let e = c.put.ensures in
    let before = c.args.old.row in
    let encoded : c.as_slice.result.now ≡ bytes_of_row c.args.values.now = c.as_slice.ensures ∙ c.in-Ok.ensures in
    let is : IsReadable s → row_of rows.schema (Some (record { table = table_in (s.reads c.args.row.0); bytes = c.as_slice.result.now })) ≡ Some (record { table = before.table; values = c.args.values.now }) = λ readable. put_is rows.schema s.reads c.args.row.0 before c.args.values.now c.as_slice.result.now (c.requires.there readable) c.requires.table c.requires.fits encoded in
    let many : fragments_of (length c.as_slice.result.now) ≡ fragments (Some (record { table = before.table; values = c.args.values.now })) = ap (λ (b : List ℕ). fragments_of (length b)) encoded in
    let size = c.requires.size in
    let long = ap length encoded in
    let few : fragments_of (length c.as_slice.result.now) ≤ 125 = few_fragments (length c.as_slice.result.now) (omega (arith, size, long)) in
    replace_keeps rows.schema s (g.S.Slots.state new.slots) rows.opens.items c.args.client c.index_mut-transaction.result.now c.put.new.transaction rows.sixteen c.requires.client c.index_mut-transaction.ensures.value
    old.places.items (free_in (heap_items old.free.back) old.free.end) old.clients.items old.failed old.sound
    new.places.items (free_in (heap_items new.free.back) new.free.end) new.clients.items new.failed new.sound rows.stored c.requires.fine c.requires.begun
    c.args.row.0 (Some before) (Some (record { table = table_in (s.reads c.args.row.0); bytes = c.as_slice.result.now })) (Some (record { table = before.table; values = c.args.values.now }))
    c.args.old.fragments (fragments_of (length c.as_slice.result.now))
    c.requires.there (λ readable. sym (is readable)) (λ readable. put_reads rows.schema _ _ c.requires.table (is readable)) c.args.old.counted many few
    (g.S.Slots.stop old.slots) (g.S.Slots.stop new.slots) c.put.result e.ok e.touched e.refused e.same

pub returns-in-Ok-put-clause-ok : goal.returns-in-Ok-put-clause-ok
returns-in-Ok-put-clause-ok g c =
    let rows = c.args.self.now in
    let old = rows.chains in
    let new = c.put.new.chains in
    let s = g.S.Slots.state old.slots in
    let e = c.in-Ok-put.ensures in
    let before = c.args.old.row in
    let encoded : c.as_slice.result.now ≡ bytes_of_row c.args.values.now = c.as_slice.ensures ∙ c.in-Ok.ensures in
    let is : IsReadable s → row_of rows.schema (Some (record { table = table_in (s.reads c.args.row.0); bytes = c.as_slice.result.now })) ≡ Some (record { table = before.table; values = c.args.values.now }) = λ readable. put_is rows.schema s.reads c.args.row.0 before c.args.values.now c.as_slice.result.now (c.requires.there readable) c.requires.table c.requires.fits encoded in
    let many : fragments_of (length c.as_slice.result.now) ≡ fragments (Some (record { table = before.table; values = c.args.values.now })) = ap (λ (b : List ℕ). fragments_of (length b)) encoded in
    let size = c.requires.size in
    let long = ap length encoded in
    let few : fragments_of (length c.as_slice.result.now) ≤ 125 = few_fragments (length c.as_slice.result.now) (omega (arith, size, long)) in
    replace_says rows.schema s (g.S.Slots.state new.slots) rows.opens.items c.args.client c.index_mut-transaction.result.now c.put.new.transaction rows.sixteen c.requires.client c.index_mut-transaction.ensures.value
    old.places.items (free_in (heap_items old.free.back) old.free.end) old.clients.items old.failed old.sound
    new.places.items (free_in (heap_items new.free.back) new.free.end) new.clients.items new.failed new.sound rows.stored c.requires.fine c.requires.begun
    c.args.row.0 (Some before) (Some (record { table = table_in (s.reads c.args.row.0); bytes = c.as_slice.result.now })) (Some (record { table = before.table; values = c.args.values.now }))
    c.args.old.fragments (fragments_of (length c.as_slice.result.now))
    c.requires.there (λ readable. sym (is readable)) (λ readable. put_reads rows.schema _ _ c.requires.table (is readable)) c.args.old.counted many few
    e.touched.others e.touched.begun e.touched.keeps e.ok

pub returns-clause-err : goal.returns-clause-err
returns-clause-err g c = λ reserved sequences.
    let rows = c.args.self.now in
    let old = rows.chains in
    let new = c.put.new.chains in
    let s = g.S.Slots.state old.slots in
    let t = g.S.Slots.state new.slots in
    let e = c.in-Err-put.ensures in
    let now = c.put.new.transaction in
    let same = same_all rows.opens.items c.args.client c.index_mut-transaction.result.now now rows.sixteen c.requires.client c.index_mut-transaction.ensures.value e.same in
    subst (λ (x : RowFault). AfterError {T = Unit {0}} (state_of rows.schema reserved sequences s rows.opens.items) (state_of rows.schema reserved sequences t (slice_set rows.opens.items c.args.client now)) (Err x)) (sym c.error_of.ensures)
    (after_refusal rows.schema reserved sequences s t rows.opens.items (slice_set rows.opens.items c.args.client now) same c.in-Err-put.fault e.touched.keeps
    (begun_touched s t (g.S.Slots.stop old.slots) (g.S.Slots.stop new.slots) c.args.client _ e.touched) (λ never. e.refused (λ q. never (cc q))) e.touched.cause)

pub invariant_of-self-2-clause-counted : goal.invariant_of-self-2-clause-counted
invariant_of-self-2-clause-counted g c =
    let rows = c.args.self.now in
    counted_keeps rows.schema (g.S.Slots.state rows.chains.slots) (g.S.Slots.state c.put.new.chains.slots) rows.used c.put.ensures.touched.keeps (λ _. c.requires.fine) rows.counted

pub invariant_of-self-2-clause-quiet : goal.invariant_of-self-2-clause-quiet
invariant_of-self-2-clause-quiet g c =
    let rows = c.args.self.now in
    let e = c.put.ensures in
    quiet_changes _ (g.S.Slots.state rows.chains.slots) (g.S.Slots.state c.put.new.chains.slots) (g.S.Slots.stop rows.chains.slots) (g.S.Slots.stop c.put.new.chains.slots) c.args.client c.args.row.0 _ c.put.result c.requires.begun e.ok e.touched e.refused rows.quiet

pub invariant_of-self-2-clause-laid : goal.invariant_of-self-2-clause-laid
invariant_of-self-2-clause-laid g c =
    let old = c.args.self.now.chains in
    let new = c.put.new.chains in
    let s = g.S.Slots.state old.slots in
    let t = g.S.Slots.state new.slots in
    let e = c.put.ensures in
    chains_go s t (g.S.Slots.stop old.slots) (g.S.Slots.stop new.slots) (g.met.S.Slots.stop_known new.slots) (g.met.S.Slots.since_past old.slots) e.touched.keeps e.touched.time c.args.self.now.laid
