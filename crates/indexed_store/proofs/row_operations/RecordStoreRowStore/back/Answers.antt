use Rattle.std.proofs.Common.{ℕ, ◌<◌, ◌≤◌, Err, sym, subst}
use Rattle.row_indexes.specs.Places.{keepers_of}
use Rattle.row_keys.specs.Reserved.{reserved_at}
use Rattle.row_moves.proofs.Kept.{refused_indexed}
use Rattle.row_moves.specs.Moved.{moved_in}
use Rattle.indexed_store.proofs.Calls.{asked_err, asked_values}
use Rattle.row_indexes.specs.Changes.{AreAllWithin}
use Rattle.slot_rows.specs.Opens.{log_in}
use Rattle.indexed_store.specs.State.{store_state}
use Rattle.indexed_store.proofs.Known.{length_changes, length_moved}
use Rattle.indexed_store.proofs.Returns.{back_ok, back_store}
use Rattle.slot_rows.specs.Stored.{changes_of}
use Rattle.indexed_store.proofs.Timed.{store_held, store_rests}
use Rattle.indexed_store.proofs.row_operations.RecordStoreRowStore.back.Goals as goal

pub back-requires-clause-mark : goal.back-requires-clause-mark
back-requires-clause-mark g c = subst (λ (n : ℕ). c.args.mark ≤ n) (length_changes (log_in c.args.self.now.rows.opens.items c.args.client)) c.requires.mark

pub go_back-requires-clause-client : goal.go_back-requires-clause-client
go_back-requires-clause-client g c = subst (λ (n : ℕ). c.args.client < n) (sym c.args.self.now.sixteen) c.requires.client

pub go_back-requires-clause-mark : goal.go_back-requires-clause-mark
go_back-requires-clause-mark g c =
    let store = c.args.self.now in
    subst (λ (n : ℕ). c.args.mark ≤ n) (sym (length_moved (changes_of (log_in store.rows.opens.items c.args.client)) (moved_in store.clients.items c.args.client) (store.indexed.rows c.args.client))) c.requires.mark

pub go_back-requires-clause-within : goal.go_back-requires-clause-within
go_back-requires-clause-within g c =
    let store = c.args.self.now in
    subst (λ (n : ℕ). AreAllWithin n (moved_in store.clients.items c.args.client)) (sym store.indexed.count) (store.indexed.within c.args.client)

pub go_back-requires-clause-can : goal.go_back-requires-clause-can
go_back-requires-clause-can g c = c.args.self.now.indexed.can c.args.client

pub go_back-requires-clause-reserved : goal.go_back-requires-clause-reserved
go_back-requires-clause-reserved g c = c.args.self.now.indexed.reserved c.args.client

pub returns-in-Ok-clause-ok : goal.returns-in-Ok-clause-ok
returns-in-Ok-clause-ok g c =
    let store = c.args.self.now in
    let rows = store.rows in
    let new = c.back.new.self in
    let s = g.S.Slots.state rows.chains.slots in
    let t = g.S.Slots.state new.chains.slots in
    let e = c.back.ensures in
    let err = e.err (reserved_at rows.schema (keepers_of store.indexes.items)) store.sequences.items in
    let u = c.go_back.ensures in
    back_ok rows.schema new.schema store.indexes.items c.go_back.new.indexes.items store.sequences.items s t rows.opens.items new.opens.items (moved_in store.clients.items) (moved_in c.go_back.new.clients.items) c.args.client c.args.mark e.schema store.indexed rows.stored c.in-Ok.ensures.ok u.places u.keepers u.count u.own u.others

pub returns-in-Ok-clause-time : goal.returns-in-Ok-clause-time
returns-in-Ok-clause-time g c =
    let store = c.args.self.now in
    let rows = store.rows in
    let new = c.back.new.self in
    let s = g.S.Slots.state rows.chains.slots in
    let t = g.S.Slots.state new.chains.slots in
    let e = c.back.ensures in
    let err = e.err (reserved_at rows.schema (keepers_of store.indexes.items)) store.sequences.items in
    let u = c.go_back.ensures in
    store_rests rows.schema new.schema store.indexes.items store.sequences.items s t rows.opens.items (g.S.Slots.stop rows.chains.slots) (g.S.Slots.stop new.chains.slots) e.schema store.values store.held e.keeps e.time (g.met.S.Slots.stop_known new.chains.slots)

pub returns-in-Err-clause-err : goal.returns-in-Err-clause-err
returns-in-Err-clause-err g c =
    let store = c.args.self.now in
    let rows = store.rows in
    let new = c.back.new.self in
    let s = g.S.Slots.state rows.chains.slots in
    let t = g.S.Slots.state new.chains.slots in
    let e = c.back.ensures in
    let err = e.err (reserved_at rows.schema (keepers_of store.indexes.items)) store.sequences.items in
    asked_err rows.schema new.schema store.indexes.items store.sequences.items s t rows.opens.items new.opens.items e.schema {T = Unit {0}} (Err c.in-Err.error) (c.in-Err.ensures.err (reserved_at rows.schema (keepers_of store.indexes.items)) store.sequences.items)

pub returns-in-Err-clause-time : goal.returns-in-Err-clause-time
returns-in-Err-clause-time g c =
    let store = c.args.self.now in
    let rows = store.rows in
    let new = c.back.new.self in
    let s = g.S.Slots.state rows.chains.slots in
    let t = g.S.Slots.state new.chains.slots in
    let e = c.back.ensures in
    let err = e.err (reserved_at rows.schema (keepers_of store.indexes.items)) store.sequences.items in
    store_rests rows.schema new.schema store.indexes.items store.sequences.items s t rows.opens.items (g.S.Slots.stop rows.chains.slots) (g.S.Slots.stop new.chains.slots) e.schema store.values store.held e.keeps e.time (g.met.S.Slots.stop_known new.chains.slots)

pub returns-in-Ok-clause-cause : goal.returns-in-Ok-clause-cause
returns-in-Ok-clause-cause g c =
    let store = c.args.self.now in
    let rows = store.rows in
    let new = c.back.new.self in
    let s = g.S.Slots.state rows.chains.slots in
    let t = g.S.Slots.state new.chains.slots in
    let e = c.back.ensures in
    let err = e.err (reserved_at rows.schema (keepers_of store.indexes.items)) store.sequences.items in
    c.in-Ok.ensures.cause (reserved_at rows.schema (keepers_of store.indexes.items)) store.sequences.items

pub returns-in-Err-clause-cause : goal.returns-in-Err-clause-cause
returns-in-Err-clause-cause g c =
    let store = c.args.self.now in
    let rows = store.rows in
    let new = c.back.new.self in
    let s = g.S.Slots.state rows.chains.slots in
    let t = g.S.Slots.state new.chains.slots in
    let e = c.back.ensures in
    let err = e.err (reserved_at rows.schema (keepers_of store.indexes.items)) store.sequences.items in
    c.in-Err.ensures.cause (reserved_at rows.schema (keepers_of store.indexes.items)) store.sequences.items

pub invariant_of-self-clause-indexed : goal.invariant_of-self-clause-indexed
invariant_of-self-clause-indexed g c =
    let store = c.args.self.now in
    let rows = store.rows in
    let new = c.back.new.self in
    let s = g.S.Slots.state rows.chains.slots in
    let t = g.S.Slots.state new.chains.slots in
    let e = c.back.ensures in
    let err = e.err (reserved_at rows.schema (keepers_of store.indexes.items)) store.sequences.items in
    let u = c.go_back.ensures in
    back_store rows.schema new.schema store.indexes.items c.go_back.new.indexes.items store.sequences.items s t rows.opens.items new.opens.items (moved_in store.clients.items) (moved_in c.go_back.new.clients.items) c.args.client c.args.mark e.schema store.indexed rows.stored c.in-Ok.ensures.ok u.places u.keepers u.count u.own u.others

pub invariant_of-self-clause-held : goal.invariant_of-self-clause-held
invariant_of-self-clause-held g c =
    let store = c.args.self.now in
    let rows = store.rows in
    let new = c.back.new.self in
    let s = g.S.Slots.state rows.chains.slots in
    let t = g.S.Slots.state new.chains.slots in
    let e = c.back.ensures in
    let err = e.err (reserved_at rows.schema (keepers_of store.indexes.items)) store.sequences.items in
    let u = c.go_back.ensures in
    store_held s t store.sequences.items e.keeps store.held

pub invariant_of-self-clause-values : goal.invariant_of-self-clause-values
invariant_of-self-clause-values g c =
    let store = c.args.self.now in
    let rows = store.rows in
    let new = c.back.new.self in
    let s = g.S.Slots.state rows.chains.slots in
    let t = g.S.Slots.state new.chains.slots in
    let e = c.back.ensures in
    let err = e.err (reserved_at rows.schema (keepers_of store.indexes.items)) store.sequences.items in
    asked_values rows.schema new.schema store.indexes.items store.sequences.items s t rows.opens.items new.opens.items e.schema store.values

pub invariant_of-self-in-Err-1 : goal.invariant_of-self-in-Err-1
invariant_of-self-in-Err-1 g c =
    let store = c.args.self.now in
    let rows = store.rows in
    let new = c.back.new.self in
    let s = g.S.Slots.state rows.chains.slots in
    let t = g.S.Slots.state new.chains.slots in
    let e = c.back.ensures in
    let err = e.err (reserved_at rows.schema (keepers_of store.indexes.items)) store.sequences.items in
    record { sixteen = store.sixteen; values = asked_values rows.schema new.schema store.indexes.items store.sequences.items s t rows.opens.items new.opens.items e.schema store.values; few = store.few; held = store_held s t store.sequences.items e.keeps store.held; indexed = refused_indexed (store_state rows.schema store.indexes.items store.sequences.items s rows.opens.items) (store_state new.schema store.indexes.items store.sequences.items t new.opens.items) (moved_in store.clients.items) store.indexes.items c.in-Err.error (asked_err rows.schema new.schema store.indexes.items store.sequences.items s t rows.opens.items new.opens.items e.schema {T = Unit {0}} (Err c.in-Err.error) (c.in-Err.ensures.err (reserved_at rows.schema (keepers_of store.indexes.items)) store.sequences.items)) store.indexed }
