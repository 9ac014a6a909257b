use Rattle.std.proofs.Common.{Err, slice_set, sym, subst}
use Rattle.std.specs.BinaryHeap.{heap_items}
use Rattle.free_slots.specs.Free.{free_in}
use Rattle.row_store.specs.Rows.{AfterError}
use Rattle.row_store.specs.declared.store.RowFault.{RowFault}
use Rattle.slot_rows.specs.State.{state_of}
use Rattle.slot_rows.proofs.Chaining.{chains_go}
use Rattle.slot_rows.proofs.Errors.{after_refusal}
use Rattle.slot_rows.proofs.Methods.{begin_keeps, begin_says, begun_rests, same_all}
use Rattle.slot_rows.proofs.Counting.{begins_keeps, counted_keeps}
use Rattle.slot_rows.proofs.Quiet.{quiet_begins}
use Rattle.slot_rows.proofs.rows.StoredRows.begin.Goals as goal

pub invariant_of-self-clause-stored : goal.invariant_of-self-clause-stored
invariant_of-self-clause-stored g c =
    let rows = c.args.self.now in
    let old = rows.chains in
    let new = c.begin.new.chains in
    let e = c.begin.ensures in
    begin_keeps rows.schema (g.S.Slots.state old.slots) (g.S.Slots.state new.slots) rows.opens.items c.args.client c.index_mut-transaction.result.now c.begin.new.transaction rows.sixteen c.requires.client c.index_mut-transaction.ensures.value
    old.places.items (free_in (heap_items old.free.back) old.free.end) old.clients.items old.failed old.sound
    new.places.items (free_in (heap_items new.free.back) new.free.end) new.clients.items new.failed new.sound rows.stored c.requires.fine c.requires.idle
    c.begin.result e.ok e.none e.err e.same e.cause

pub returns-in-Ok-clause-ok : goal.returns-in-Ok-clause-ok
returns-in-Ok-clause-ok g c =
    let rows = c.args.self.now in
    let old = rows.chains in
    let new = c.begin.new.chains in
    let e = c.in-Ok.ensures in
    begin_says rows.schema (g.S.Slots.state old.slots) (g.S.Slots.state new.slots) rows.opens.items c.args.client c.index_mut-transaction.result.now c.begin.new.transaction rows.sixteen c.requires.client c.index_mut-transaction.ensures.value
    old.places.items (free_in (heap_items old.free.back) old.free.end) old.clients.items old.failed old.sound
    new.places.items (free_in (heap_items new.free.back) new.free.end) new.clients.items new.failed new.sound rows.stored c.requires.fine c.requires.idle
    e.ok e.none (e.cause.stays (λ q. cc q))

pub returns-in-Err-clause-err : goal.returns-in-Err-clause-err
returns-in-Err-clause-err g c = λ reserved sequences.
    let rows = c.args.self.now in
    let old = rows.chains in
    let new = c.begin.new.chains in
    let s = g.S.Slots.state old.slots in
    let t = g.S.Slots.state new.slots in
    let e = c.in-Err.ensures in
    let now = c.begin.new.transaction in
    let same = same_all rows.opens.items c.args.client c.index_mut-transaction.result.now now rows.sixteen c.requires.client c.index_mut-transaction.ensures.value e.same in
    subst (λ (x : RowFault). AfterError {T = Unit {0}} (state_of rows.schema reserved sequences s rows.opens.items) (state_of rows.schema reserved sequences t (slice_set rows.opens.items c.args.client now)) (Err x)) (sym c.error_of.ensures)
    (after_refusal rows.schema reserved sequences s t rows.opens.items (slice_set rows.opens.items c.args.client now) same c.in-Err.fault e.err.keeps (begun_rests s t e.err) (λ q. e.err) e.cause)

pub invariant_of-self-clause-counted : goal.invariant_of-self-clause-counted
invariant_of-self-clause-counted g c =
    let rows = c.args.self.now in
    let s = g.S.Slots.state rows.chains.slots in
    let t = g.S.Slots.state c.begin.new.chains.slots in
    let e = c.begin.ensures in
    counted_keeps rows.schema s t rows.used (begins_keeps s t c.args.client c.begin.result e.ok e.err) (λ _. c.requires.fine) rows.counted

pub invariant_of-self-clause-quiet : goal.invariant_of-self-clause-quiet
invariant_of-self-clause-quiet g c =
    let rows = c.args.self.now in
    let e = c.begin.ensures in
    quiet_begins (g.S.Slots.state rows.chains.slots) (g.S.Slots.state c.begin.new.chains.slots) c.args.client c.begin.result e.ok e.err e.cause rows.quiet

pub invariant_of-self-clause-laid : goal.invariant_of-self-clause-laid
invariant_of-self-clause-laid g c =
    let old = c.args.self.now.chains in
    let new = c.begin.new.chains in
    let s = g.S.Slots.state old.slots in
    let t = g.S.Slots.state new.slots in
    let e = c.begin.ensures in
    chains_go s t (g.S.Slots.stop old.slots) (g.S.Slots.stop new.slots) (g.met.S.Slots.stop_known new.slots) (g.met.S.Slots.since_past old.slots) (begins_keeps s t c.args.client c.begin.result e.ok e.err) e.time c.args.self.now.laid
