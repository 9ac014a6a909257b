use Rattle.std.proofs.Common.{Some, None, Err, slice_set, refl, sym, subst, arith}
use Rattle.std.specs.BinaryHeap.{heap_items}
use Rattle.free_slots.specs.Free.{free_in}
use Rattle.row_store.specs.Rows.{AfterError}
use Rattle.row_store.specs.declared.store.RowFault.{RowFault}
use Rattle.slot_rows.specs.State.{state_of}
use Rattle.slot_rows.proofs.Chaining.{chains_go}
use Rattle.slot_rows.proofs.Errors.{after_refusal}
use Rattle.slot_rows.proofs.Methods.{begun_touched, same_all}
use Rattle.slot_rows.proofs.Replaced.{replace_keeps, replace_says, row_there}
use Rattle.slot_rows.proofs.Counting.{counted_keeps}
use Rattle.slot_rows.proofs.Quiet.{quiet_changes}
use Rattle.slot_rows.proofs.rows.StoredRows.delete.Goals as goal

pub delete-requires-clause-there : goal.delete-requires-clause-there
delete-requires-clause-there g c = λ readable.
    let rows = c.args.self.now in
    row_there rows.schema (g.S.Slots.state rows.chains.slots).reads c.args.row.0 c.args.old.row (c.requires.there readable)

pub invariant_of-self-clause-stored : goal.invariant_of-self-clause-stored
invariant_of-self-clause-stored g c =
    let rows = c.args.self.now in
    let old = rows.chains in
    let new = c.delete.new.chains in
    let e = c.delete.ensures in
    replace_keeps rows.schema (g.S.Slots.state old.slots) (g.S.Slots.state new.slots) rows.opens.items c.args.client c.index_mut-transaction.result.now c.delete.new.transaction rows.sixteen c.requires.client c.index_mut-transaction.ensures.value
    old.places.items (free_in (heap_items old.free.back) old.free.end) old.clients.items old.failed old.sound
    new.places.items (free_in (heap_items new.free.back) new.free.end) new.clients.items new.failed new.sound rows.stored c.requires.fine c.requires.begun
    c.args.row.0 (Some c.args.old.row) None None c.args.old.fragments 0 c.requires.there (λ readable. refl) (λ readable. refl) c.args.old.counted refl (omega arith)
    (g.S.Slots.stop old.slots) (g.S.Slots.stop new.slots) c.delete.result e.ok e.touched e.refused e.same

pub returns-in-Ok-clause-ok : goal.returns-in-Ok-clause-ok
returns-in-Ok-clause-ok g c =
    let rows = c.args.self.now in
    let old = rows.chains in
    let new = c.delete.new.chains in
    let e = c.in-Ok.ensures in
    replace_says rows.schema (g.S.Slots.state old.slots) (g.S.Slots.state new.slots) rows.opens.items c.args.client c.index_mut-transaction.result.now c.delete.new.transaction rows.sixteen c.requires.client c.index_mut-transaction.ensures.value
    old.places.items (free_in (heap_items old.free.back) old.free.end) old.clients.items old.failed old.sound
    new.places.items (free_in (heap_items new.free.back) new.free.end) new.clients.items new.failed new.sound rows.stored c.requires.fine c.requires.begun
    c.args.row.0 (Some c.args.old.row) None None c.args.old.fragments 0 c.requires.there (λ readable. refl) (λ readable. refl) c.args.old.counted refl (omega arith)
    e.touched.others e.touched.begun e.touched.keeps e.ok

pub returns-in-Err-clause-err : goal.returns-in-Err-clause-err
returns-in-Err-clause-err g c = λ reserved sequences.
    let rows = c.args.self.now in
    let old = rows.chains in
    let new = c.delete.new.chains in
    let s = g.S.Slots.state old.slots in
    let t = g.S.Slots.state new.slots in
    let e = c.in-Err.ensures in
    let now = c.delete.new.transaction in
    let same = same_all rows.opens.items c.args.client c.index_mut-transaction.result.now now rows.sixteen c.requires.client c.index_mut-transaction.ensures.value e.same in
    subst (λ (x : RowFault). AfterError {T = Unit {0}} (state_of rows.schema reserved sequences s rows.opens.items) (state_of rows.schema reserved sequences t (slice_set rows.opens.items c.args.client now)) (Err x)) (sym c.error_of.ensures)
    (after_refusal rows.schema reserved sequences s t rows.opens.items (slice_set rows.opens.items c.args.client now) same c.in-Err.fault e.touched.keeps
    (begun_touched s t (g.S.Slots.stop old.slots) (g.S.Slots.stop new.slots) c.args.client _ e.touched) (λ never. e.refused (λ q. never (cc q))) e.touched.cause)

pub invariant_of-self-clause-counted : goal.invariant_of-self-clause-counted
invariant_of-self-clause-counted g c =
    let rows = c.args.self.now in
    counted_keeps rows.schema (g.S.Slots.state rows.chains.slots) (g.S.Slots.state c.delete.new.chains.slots) rows.used c.delete.ensures.touched.keeps (λ _. c.requires.fine) rows.counted

pub invariant_of-self-clause-quiet : goal.invariant_of-self-clause-quiet
invariant_of-self-clause-quiet g c =
    let rows = c.args.self.now in
    let e = c.delete.ensures in
    quiet_changes _ (g.S.Slots.state rows.chains.slots) (g.S.Slots.state c.delete.new.chains.slots) (g.S.Slots.stop rows.chains.slots) (g.S.Slots.stop c.delete.new.chains.slots) c.args.client c.args.row.0 None c.delete.result c.requires.begun e.ok e.touched e.refused rows.quiet

pub invariant_of-self-clause-laid : goal.invariant_of-self-clause-laid
invariant_of-self-clause-laid g c =
    let old = c.args.self.now.chains in
    let new = c.delete.new.chains in
    let s = g.S.Slots.state old.slots in
    let t = g.S.Slots.state new.slots in
    let e = c.delete.ensures in
    chains_go s t (g.S.Slots.stop old.slots) (g.S.Slots.stop new.slots) (g.met.S.Slots.stop_known new.slots) (g.met.S.Slots.since_past old.slots) e.touched.keeps e.touched.time c.args.self.now.laid
