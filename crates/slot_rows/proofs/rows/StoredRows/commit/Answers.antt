use Rattle.std.proofs.Common.{◌≡◌, ℕ, Err, slice_set, sym, ap, ◌∙◌, subst, rules, arith}
use Rattle.slot_rows.specs.Counted.{after_all, before_all}
use Rattle.std.specs.BinaryHeap.{heap_items}
use Rattle.free_slots.specs.Free.{free_in}
use Rattle.row_store.specs.Rows.{AfterError}
use Rattle.row_store.specs.declared.store.RowFault.{RowFault}
use Rattle.slot_rows.specs.State.{state_of}
use Rattle.slot_rows.proofs.Errors.{after_failure}
use Rattle.slot_rows.proofs.Committed.{commit_chains, commit_counts, commit_doubt, commit_keeps, commit_quiet, commit_says}
use Rattle.slot_rows.proofs.Methods.{same_all}
use Rattle.slot_rows.proofs.Counting.{counted_fails}
use Rattle.slot_rows.proofs.rows.StoredRows.commit.Goals as goal

pub invariant_of-self-clause-stored : goal.invariant_of-self-clause-stored
invariant_of-self-clause-stored g c =
    let rows = c.args.self.now in
    let old = rows.chains in
    let new = c.commit.new.chains in
    let e = c.commit.ensures in
    commit_keeps rows.schema (g.S.Slots.state old.slots) (g.S.Slots.state new.slots) rows.opens.items c.args.client c.index_mut-transaction.result.now c.commit.new.transaction rows.sixteen c.requires.client c.index_mut-transaction.ensures.value
    old.places.items (free_in (heap_items old.free.back) old.free.end) old.clients.items old.failed old.sound
    new.places.items (free_in (heap_items new.free.back) new.free.end) new.clients.items new.failed new.sound rows.stored c.requires.fine c.args.sequences.now
    c.commit.result e.ok e.none e.err e.same e.cause e.only

pub returns-in-Ok-clause-ok : goal.returns-in-Ok-clause-ok
returns-in-Ok-clause-ok g c =
    let rows = c.args.self.now in
    let old = rows.chains in
    let new = c.commit.new.chains in
    let e = c.in-Ok.ensures in
    commit_says rows.schema (g.S.Slots.state old.slots) (g.S.Slots.state new.slots) rows.opens.items c.args.client c.index_mut-transaction.result.now c.commit.new.transaction rows.sixteen c.requires.client c.index_mut-transaction.ensures.value
    old.places.items (free_in (heap_items old.free.back) old.free.end) old.clients.items old.failed old.sound
    new.places.items (free_in (heap_items new.free.back) new.free.end) new.clients.items new.failed new.sound rows.stored c.requires.fine c.args.sequences.now
    e.ok e.none (e.cause.stays (λ q. cc q))

pub returns-in-Err-clause-err : goal.returns-in-Err-clause-err
returns-in-Err-clause-err g c = λ reserved sequences.
    let rows = c.args.self.now in
    let old = rows.chains in
    let new = c.commit.new.chains in
    let s = g.S.Slots.state old.slots in
    let t = g.S.Slots.state new.slots in
    let e = c.in-Err.ensures in
    let now = c.commit.new.transaction in
    let same = same_all rows.opens.items c.args.client c.index_mut-transaction.result.now now rows.sixteen c.requires.client c.index_mut-transaction.ensures.value e.same in
    subst (λ (x : RowFault). AfterError {T = ℕ} (state_of rows.schema reserved sequences s rows.opens.items) (state_of rows.schema reserved sequences t (slice_set rows.opens.items c.args.client now)) (Err x)) (sym c.error_of.ensures)
    (after_failure rows.schema reserved sequences s t rows.opens.items (slice_set rows.opens.items c.args.client now) same c.args.client c.args.sequences.now c.in-Err.fault e.err e.cause e.only)

pub invariant_of-self-clause-counted : goal.invariant_of-self-clause-counted
invariant_of-self-clause-counted g c =
    let rows = c.args.self.now in
    let old = rows.chains in
    let new = c.commit.new.chains in
    let held = c.index_mut-transaction.result.now in
    let e = c.in-Ok.ensures in
    let most = held.most in
    let logged = held.logged in
    let before : c.before_all-before.result ≡ before_all held.log.items = c.before_all-before.ensures ∙ ap before_all c.as_slice.ensures.value in
    let after : c.after_all-after.result ≡ after_all held.log.items = c.after_all-after.ensures ∙ ap after_all c.as_slice-2.ensures.value in
    commit_counts rows.schema (g.S.Slots.state old.slots) (g.S.Slots.state new.slots) rows.opens.items c.args.client held c.commit.new.transaction rows.sixteen c.requires.client c.index_mut-transaction.ensures.value
    old.places.items (free_in (heap_items old.free.back) old.free.end) old.clients.items old.failed old.sound
    new.places.items (free_in (heap_items new.free.back) new.free.end) new.clients.items new.failed new.sound rows.stored c.requires.fine c.args.sequences.now
    e.ok e.none (e.cause.stays (λ q. cc q)) rows.used c.moved-self.result rows.counted (omega (arith, most, logged))
    (λ lt. let now = c.moved-self.ensures (omega (arith, lt, after)) in omega (arith, now, before, after))

pub invariant_of-self-in-Err-1 : goal.invariant_of-self-in-Err-1
invariant_of-self-in-Err-1 g c =
    let rows = c.args.self.now in
    let old = rows.chains in
    let new = c.commit.new.chains in
    let e = c.commit.ensures in
    record {
      sixteen = search rules;
      stored =
          commit_keeps rows.schema (g.S.Slots.state old.slots) (g.S.Slots.state new.slots) rows.opens.items c.args.client c.index_mut-transaction.result.now c.commit.new.transaction rows.sixteen c.requires.client c.index_mut-transaction.ensures.value
          old.places.items (free_in (heap_items old.free.back) old.free.end) old.clients.items old.failed old.sound
          new.places.items (free_in (heap_items new.free.back) new.free.end) new.clients.items new.failed new.sound rows.stored c.requires.fine c.args.sequences.now
          c.commit.result e.ok e.none e.err e.same e.cause e.only;
      quiet =
          commit_quiet rows.schema (g.S.Slots.state old.slots) (g.S.Slots.state new.slots) rows.opens.items c.args.client c.index_mut-transaction.result.now c.commit.new.transaction rows.sixteen c.requires.client c.index_mut-transaction.ensures.value
          old.places.items (free_in (heap_items old.free.back) old.free.end) old.clients.items old.failed old.sound
          new.places.items (free_in (heap_items new.free.back) new.free.end) new.clients.items new.failed new.sound rows.stored c.requires.fine c.args.sequences.now
          c.commit.result e.ok e.cause e.only rows.quiet;
      laid =
          commit_chains rows.schema (g.S.Slots.state old.slots) (g.S.Slots.state new.slots) rows.opens.items c.args.client c.index_mut-transaction.result.now c.commit.new.transaction rows.sixteen c.requires.client c.index_mut-transaction.ensures.value
          old.places.items (free_in (heap_items old.free.back) old.free.end) old.clients.items old.failed old.sound
          new.places.items (free_in (heap_items new.free.back) new.free.end) new.clients.items new.failed new.sound rows.stored c.requires.fine c.args.sequences.now
          (g.S.Slots.stop old.slots) (g.S.Slots.stop new.slots) (g.met.S.Slots.stop_known new.slots) (g.met.S.Slots.since_past old.slots) e.time rows.laid c.commit.result e.ok e.err;
      counted = counted_fails rows.schema (g.S.Slots.state old.slots) (g.S.Slots.state new.slots) rows.used c.args.client c.args.sequences.now c.in-Err.ensures.err c.requires.fine rows.counted;
    }

pub invariant_of-self-clause-quiet : goal.invariant_of-self-clause-quiet
invariant_of-self-clause-quiet g c =
    let rows = c.args.self.now in
    let old = rows.chains in
    let new = c.commit.new.chains in
    let e = c.commit.ensures in
    commit_quiet rows.schema (g.S.Slots.state old.slots) (g.S.Slots.state new.slots) rows.opens.items c.args.client c.index_mut-transaction.result.now c.commit.new.transaction rows.sixteen c.requires.client c.index_mut-transaction.ensures.value
    old.places.items (free_in (heap_items old.free.back) old.free.end) old.clients.items old.failed old.sound
    new.places.items (free_in (heap_items new.free.back) new.free.end) new.clients.items new.failed new.sound rows.stored c.requires.fine c.args.sequences.now
    c.commit.result e.ok e.cause e.only rows.quiet

pub commit-requires-clause-none : goal.commit-requires-clause-none
commit-requires-clause-none g c = c.args.self.now.stored.low c.requires.fine c.args.client

pub returns-in-Err-clause-doubt : goal.returns-in-Err-clause-doubt
returns-in-Err-clause-doubt g c =
    let rows = c.args.self.now in
    let old = rows.chains in
    let new = c.commit.new.chains in
    commit_doubt rows.schema (g.S.Slots.state old.slots) (g.S.Slots.state new.slots) rows.opens.items c.args.client c.index_mut-transaction.result.now c.commit.new.transaction rows.sixteen c.requires.client c.index_mut-transaction.ensures.value
    old.places.items (free_in (heap_items old.free.back) old.free.end) old.clients.items old.failed old.sound
    new.places.items (free_in (heap_items new.free.back) new.free.end) new.clients.items new.failed new.sound rows.stored c.requires.fine c.args.sequences.now c.in-Err.ensures.err c.requires.many

pub invariant_of-self-clause-laid : goal.invariant_of-self-clause-laid
invariant_of-self-clause-laid g c =
    let rows = c.args.self.now in
    let old = rows.chains in
    let new = c.commit.new.chains in
    let e = c.commit.ensures in
    commit_chains rows.schema (g.S.Slots.state old.slots) (g.S.Slots.state new.slots) rows.opens.items c.args.client c.index_mut-transaction.result.now c.commit.new.transaction rows.sixteen c.requires.client c.index_mut-transaction.ensures.value
    old.places.items (free_in (heap_items old.free.back) old.free.end) old.clients.items old.failed old.sound
    new.places.items (free_in (heap_items new.free.back) new.free.end) new.clients.items new.failed new.sound rows.stored c.requires.fine c.args.sequences.now
    (g.S.Slots.stop old.slots) (g.S.Slots.stop new.slots) (g.met.S.Slots.stop_known new.slots) (g.met.S.Slots.since_past old.slots) e.time rows.laid c.commit.result e.ok e.err
