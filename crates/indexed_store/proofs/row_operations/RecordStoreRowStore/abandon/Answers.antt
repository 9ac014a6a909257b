use Rattle.std.proofs.Common.{ℕ, ◌<◌, refl, sym, subst}
use Rattle.row_moves.specs.Moved.{moved_in}
use Rattle.indexed_store.proofs.Calls.{asked_values}
use Rattle.row_indexes.specs.Changes.{AreAllWithin}
use Rattle.indexed_store.proofs.Returns.{abandon_ok, abandon_store}
use Rattle.indexed_store.proofs.Timed.{store_held, store_rests}
use Rattle.indexed_store.proofs.row_operations.RecordStoreRowStore.abandon.Goals as goal

pub give_up-requires-clause-client : goal.give_up-requires-clause-client
give_up-requires-clause-client g c = subst (λ (n : ℕ). c.args.client < n) (sym c.args.self.now.sixteen) c.requires.client

pub give_up-requires-clause-within : goal.give_up-requires-clause-within
give_up-requires-clause-within g c =
    let store = c.args.self.now in
    subst (λ (n : ℕ). AreAllWithin n (moved_in store.clients.items c.args.client)) (sym store.indexed.count) (store.indexed.within c.args.client)

pub give_up-requires-clause-can : goal.give_up-requires-clause-can
give_up-requires-clause-can g c = c.args.self.now.indexed.can c.args.client

pub give_up-requires-clause-reserved : goal.give_up-requires-clause-reserved
give_up-requires-clause-reserved g c = c.args.self.now.indexed.reserved c.args.client

pub returns-clause-abandoned : goal.returns-clause-abandoned
returns-clause-abandoned g c =
    let store = c.args.self.now in
    let rows = store.rows in
    let new = c.abandon.new.self in
    let s = g.S.Slots.state rows.chains.slots in
    let t = g.S.Slots.state new.chains.slots in
    let e = c.abandon.ensures in
    let u = c.give_up.ensures in
    abandon_ok rows.schema new.schema store.indexes.items c.give_up.new.indexes.items store.sequences.items store.sequences.items s t rows.opens.items new.opens.items (moved_in store.clients.items) (moved_in c.give_up.new.clients.items) c.args.client e.schema store.indexed u.keepers u.count u.own u.others e.abandoned refl

pub returns-clause-later : goal.returns-clause-later
returns-clause-later g c = c.abandon.ensures.later

pub returns-clause-time : goal.returns-clause-time
returns-clause-time g c =
    let store = c.args.self.now in
    let rows = store.rows in
    let new = c.abandon.new.self in
    let s = g.S.Slots.state rows.chains.slots in
    let t = g.S.Slots.state new.chains.slots in
    let e = c.abandon.ensures in
    let u = c.give_up.ensures in
    store_rests rows.schema new.schema store.indexes.items store.sequences.items s t rows.opens.items (g.S.Slots.stop rows.chains.slots) (g.S.Slots.stop new.chains.slots) e.schema store.values store.held e.keeps e.time (g.met.S.Slots.stop_known new.chains.slots)

pub invariant_of-self-clause-indexed : goal.invariant_of-self-clause-indexed
invariant_of-self-clause-indexed g c =
    let store = c.args.self.now in
    let rows = store.rows in
    let new = c.abandon.new.self in
    let s = g.S.Slots.state rows.chains.slots in
    let t = g.S.Slots.state new.chains.slots in
    let e = c.abandon.ensures in
    let u = c.give_up.ensures in
    abandon_store rows.schema new.schema store.indexes.items c.give_up.new.indexes.items store.sequences.items store.sequences.items s t rows.opens.items new.opens.items (moved_in store.clients.items) (moved_in c.give_up.new.clients.items) c.args.client e.schema store.indexed u.keepers u.count u.own u.others e.abandoned refl rows.stored u.places

pub invariant_of-self-clause-held : goal.invariant_of-self-clause-held
invariant_of-self-clause-held g c =
    let store = c.args.self.now in
    let rows = store.rows in
    let new = c.abandon.new.self in
    let s = g.S.Slots.state rows.chains.slots in
    let t = g.S.Slots.state new.chains.slots in
    let e = c.abandon.ensures in
    let u = c.give_up.ensures in
    store_held s t store.sequences.items e.keeps store.held

pub invariant_of-self-clause-values : goal.invariant_of-self-clause-values
invariant_of-self-clause-values g c =
    let store = c.args.self.now in
    let rows = store.rows in
    let new = c.abandon.new.self in
    let s = g.S.Slots.state rows.chains.slots in
    let t = g.S.Slots.state new.chains.slots in
    let e = c.abandon.ensures in
    asked_values rows.schema new.schema store.indexes.items store.sequences.items s t rows.opens.items new.opens.items e.schema store.values
