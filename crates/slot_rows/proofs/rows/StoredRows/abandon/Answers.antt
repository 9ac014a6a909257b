use Rattle.std.proofs.Common.{sym, ◌∙◌}
use Rattle.std.specs.BinaryHeap.{heap_items}
use Rattle.free_slots.specs.Free.{free_in}
use Rattle.slot_rows.proofs.Chaining.{chains_go}
use Rattle.slot_rows.proofs.Methods.{abandon_keeps, abandon_says}
use Rattle.slot_rows.proofs.Counting.{counted_keeps}
use Rattle.slot_rows.proofs.Quiet.{quiet_ends}
use Rattle.slot_rows.proofs.rows.StoredRows.abandon.Goals as goal

pub invariant_of-self-clause-stored : goal.invariant_of-self-clause-stored
invariant_of-self-clause-stored g c =
    let rows = c.args.self.now in
    let old = rows.chains in
    let new = c.abandon.new.chains in
    abandon_keeps rows.schema (g.S.Slots.state old.slots) (g.S.Slots.state new.slots) rows.opens.items c.args.client c.index_mut-transaction.result.now c.abandon.new.transaction rows.sixteen c.requires.client c.index_mut-transaction.ensures.value
    old.places.items (free_in (heap_items old.free.back) old.free.end) old.clients.items old.failed old.sound
    new.places.items (free_in (heap_items new.free.back) new.free.end) new.clients.items new.failed new.sound rows.stored c.abandon.ensures.ended c.abandon.ensures.none

pub returns-clause-abandoned : goal.returns-clause-abandoned
returns-clause-abandoned g c =
    let rows = c.args.self.now in
    let old = rows.chains in
    let new = c.abandon.new.chains in
    abandon_says rows.schema (g.S.Slots.state old.slots) (g.S.Slots.state new.slots) rows.opens.items c.args.client c.index_mut-transaction.result.now c.abandon.new.transaction rows.sixteen c.requires.client c.index_mut-transaction.ensures.value
    old.places.items (free_in (heap_items old.free.back) old.free.end) old.clients.items old.failed old.sound
    new.places.items (free_in (heap_items new.free.back) new.free.end) new.clients.items new.failed new.sound rows.stored c.abandon.ensures.ended c.abandon.ensures.none

pub invariant_of-self-clause-counted : goal.invariant_of-self-clause-counted
invariant_of-self-clause-counted g c =
    let rows = c.args.self.now in
    let ended = c.abandon.ensures.ended in
    counted_keeps rows.schema (g.S.Slots.state rows.chains.slots) (g.S.Slots.state c.abandon.new.chains.slots) rows.used ended.keeps (λ fine. sym ended.failed ∙ fine) rows.counted

pub invariant_of-self-clause-quiet : goal.invariant_of-self-clause-quiet
invariant_of-self-clause-quiet g c =
    let rows = c.args.self.now in
    quiet_ends (g.S.Slots.state rows.chains.slots) (g.S.Slots.state c.abandon.new.chains.slots) c.args.client c.abandon.ensures.ended rows.quiet

pub invariant_of-self-clause-laid : goal.invariant_of-self-clause-laid
invariant_of-self-clause-laid g c =
    let old = c.args.self.now.chains in
    let new = c.abandon.new.chains in
    let s = g.S.Slots.state old.slots in
    let t = g.S.Slots.state new.slots in
    let e = c.abandon.ensures in
    chains_go s t (g.S.Slots.stop old.slots) (g.S.Slots.stop new.slots) (g.met.S.Slots.stop_known new.slots) (g.met.S.Slots.since_past old.slots) e.ended.keeps e.time c.args.self.now.laid
