use Rattle.std.proofs.Common.{ℕ, ◌<◌, length, None, refl, sym, ap, ◌∙◌, subst}
use Rattle.row_indexes.specs.Places.{keepers_of, places_of}
use Rattle.row_keys.specs.Reserved.{reserved_at}
use Rattle.row_moves.specs.Moved.{moved_in}
use Rattle.std.proofs.Common.{drop}
use Rattle.abl_values.specs.Schema.{SchemaData}
use Rattle.database_meaning.specs.Setting.{FitsTable, HasTable}
use Rattle.database_meaning.specs.Waiting.{row_in}
use Rattle.row_store.specs.Changes.{RowsById}
use Rattle.row_store.specs.declared.store.RowFault.TheVariants.{NoMemory}
use Rattle.row_indexes.specs.Places.{AreWithin}
use Rattle.row_keys.specs.Numbers.{index_count}
use Rattle.row_keys.specs.Moves.{AreMovesOf}
use Rattle.slot_rows.specs.Decoded.{decoded}
use Rattle.slot_rows.proofs.Changed.{rows_known}
use Rattle.indexed_store.specs.State.{store_state}
use Rattle.indexed_store.proofs.Calls.{no_disk, out_of_memory}
use Rattle.indexed_store.proofs.StoreChanges.{refused_err, refused_store, row_changes, row_indexed}
use Rattle.slot_rows.specs.State.{state_of}
use Rattle.indexed_store.proofs.Timed.{store_held, store_rests, store_waits}
use Rattle.indexed_store.proofs.row_operations.RecordStoreRowStore.insert.Goals as goal

pub prepare-requires-clause-client : goal.prepare-requires-clause-client
prepare-requires-clause-client g c = subst (λ (n : ℕ). c.args.client < n) (sym c.args.self.now.sixteen) c.requires.client

pub prepare-requires-clause-table : goal.prepare-requires-clause-table
prepare-requires-clause-table g c = subst (λ (x : SchemaData). HasTable x c.args.table) (sym c.schema.ensures) c.requires.table

pub prepare-requires-clause-count : goal.prepare-requires-clause-count
prepare-requires-clause-count g c = c.args.self.now.indexed.count ∙ ap index_count (sym c.schema.ensures)

pub prepare-requires-clause-new : goal.prepare-requires-clause-new
prepare-requires-clause-new g c = subst (λ (x : SchemaData). FitsTable x c.args.table c.args.values.now) (sym c.schema.ensures) c.requires.fits

pub insert-requires-clause-empty : goal.insert-requires-clause-empty
insert-requires-clause-empty g c = λ readable.
    let rows = c.args.self.now.rows in
    let s = g.S.Slots.state rows.chains.slots in
    sym (ap (λ (f : RowsById). f c.args.row.0) (rows_known s (decoded rows.schema s.reads) readable)) ∙ c.requires.free.empty readable

pub finish-requires-clause-client : goal.finish-requires-clause-client
finish-requires-clause-client g c = subst (λ (n : ℕ). c.args.client < n) (sym (c.prepare.ensures.clients ∙ c.args.self.now.sixteen)) c.requires.client

pub finish-requires-clause-room : goal.finish-requires-clause-room
finish-requires-clause-room g c = c.in-Ok.ensures.room

pub finish-requires-clause-within : goal.finish-requires-clause-within
finish-requires-clause-within g c = subst (λ (n : ℕ). AreWithin n (drop c.in-Ok.started.enters c.in-Ok.started.moves.items)) (sym c.prepare.ensures.count) c.in-Ok.ensures.started.within

pub finish-requires-clause-can : goal.finish-requires-clause-can
finish-requires-clause-can g c = c.in-Ok.ensures.started.rest

pub finish-requires-clause-leaves : goal.finish-requires-clause-leaves
finish-requires-clause-leaves g c = c.in-Ok.ensures.started.leaves

pub returns-in-Ok-insert-clause-ok : goal.returns-in-Ok-insert-clause-ok
returns-in-Ok-insert-clause-ok g c =
    let store = c.args.self.now in
    let rows = store.rows in
    let s = g.S.Slots.state rows.chains.slots in
    let p = c.prepare.ensures in
    let new = c.insert.new.self in
    let t = g.S.Slots.state new.chains.slots in
    let e = c.insert.ensures in
    let started = c.in-Ok.started in
    let u = c.finish.ensures in
    row_changes rows.schema new.schema store.indexes.items c.prepare.new.indexes.items c.finish.new.indexes.items store.sequences.items s t rows.opens.items new.opens.items (moved_in store.clients.items) (moved_in c.prepare.new.clients.items) (moved_in c.finish.new.clients.items) c.args.client started.enters c.args.row.0 (record { row = started.row; moves = started.moves }) started.before.items None (row_in c.args.table c.args.values.now) c.in-Ok.ensures.of_row e.schema store.indexed c.in-Ok.ensures.started (subst (λ (x : SchemaData). AreMovesOf x None (row_in c.args.table c.args.values.now) started.moves.items) c.schema.ensures c.in-Ok.ensures.moves) u.places u.keepers p.count u.count p.same_clients u.own u.others c.requires.free.empty (c.requires.table, c.requires.fits) c.in-Ok-insert.ensures.ok new.stored

pub returns-in-Ok-insert-clause-time : goal.returns-in-Ok-insert-clause-time
returns-in-Ok-insert-clause-time g c =
    let store = c.args.self.now in
    let rows = store.rows in
    let s = g.S.Slots.state rows.chains.slots in
    let p = c.prepare.ensures in
    let new = c.insert.new.self in
    let t = g.S.Slots.state new.chains.slots in
    let e = c.insert.ensures in
    let started = c.in-Ok.started in
    let u = c.finish.ensures in
    store_rests rows.schema new.schema store.indexes.items store.sequences.items s t rows.opens.items (g.S.Slots.stop rows.chains.slots) (g.S.Slots.stop new.chains.slots) e.schema store.values store.held e.keeps e.time (g.met.S.Slots.stop_known new.chains.slots)

pub returns-in-Ok-insert-clause-cause : goal.returns-in-Ok-insert-clause-cause
returns-in-Ok-insert-clause-cause g c =
    let store = c.args.self.now in
    let rows = store.rows in
    let s = g.S.Slots.state rows.chains.slots in
    let p = c.prepare.ensures in
    let new = c.insert.new.self in
    let t = g.S.Slots.state new.chains.slots in
    let e = c.insert.ensures in
    let started = c.in-Ok.started in
    let u = c.finish.ensures in
    c.in-Ok-insert.ensures.cause (reserved_at rows.schema (keepers_of store.indexes.items)) store.sequences.items

pub returns-in-Err-insert-clause-err : goal.returns-in-Err-insert-clause-err
returns-in-Err-insert-clause-err g c =
    let store = c.args.self.now in
    let rows = store.rows in
    let s = g.S.Slots.state rows.chains.slots in
    let p = c.prepare.ensures in
    let new = c.insert.new.self in
    let t = g.S.Slots.state new.chains.slots in
    let e = c.insert.ensures in
    let started = c.in-Ok.ensures.started in
    let gone = c.cancel.ensures.forgotten (places_of store.indexes.items) (keepers_of store.indexes.items) started.was started.places started.keepers in
    refused_err {T = Unit {0}} rows.schema new.schema store.indexes.items c.cancel.new.indexes.items store.sequences.items s t rows.opens.items new.opens.items (moved_in store.clients.items) (moved_in c.prepare.new.clients.items) e.schema gone.0 gone.1 (c.cancel.ensures.count ∙ p.count) p.same_clients c.in-Err-insert.error c.in-Err-insert.ensures.err

pub returns-in-Err-insert-clause-time : goal.returns-in-Err-insert-clause-time
returns-in-Err-insert-clause-time g c =
    let store = c.args.self.now in
    let rows = store.rows in
    let s = g.S.Slots.state rows.chains.slots in
    let p = c.prepare.ensures in
    let new = c.insert.new.self in
    let t = g.S.Slots.state new.chains.slots in
    let e = c.insert.ensures in
    let started = c.in-Ok.ensures.started in
    let gone = c.cancel.ensures.forgotten (places_of store.indexes.items) (keepers_of store.indexes.items) started.was started.places started.keepers in
    store_rests rows.schema new.schema store.indexes.items store.sequences.items s t rows.opens.items (g.S.Slots.stop rows.chains.slots) (g.S.Slots.stop new.chains.slots) e.schema store.values store.held e.keeps e.time (g.met.S.Slots.stop_known new.chains.slots)

pub returns-in-Err-insert-clause-cause : goal.returns-in-Err-insert-clause-cause
returns-in-Err-insert-clause-cause g c =
    let store = c.args.self.now in
    let rows = store.rows in
    let s = g.S.Slots.state rows.chains.slots in
    let p = c.prepare.ensures in
    let new = c.insert.new.self in
    let t = g.S.Slots.state new.chains.slots in
    let e = c.insert.ensures in
    let started = c.in-Ok.ensures.started in
    let gone = c.cancel.ensures.forgotten (places_of store.indexes.items) (keepers_of store.indexes.items) started.was started.places started.keepers in
    c.in-Err-insert.ensures.cause (reserved_at rows.schema (keepers_of store.indexes.items)) store.sequences.items

pub returns-in-Err-clause-err : goal.returns-in-Err-clause-err
returns-in-Err-clause-err g c =
    let store = c.args.self.now in
    let rows = store.rows in
    let s = g.S.Slots.state rows.chains.slots in
    let p = c.prepare.ensures in
    refused_err {T = Unit {0}} rows.schema rows.schema store.indexes.items c.prepare.new.indexes.items store.sequences.items s s rows.opens.items rows.opens.items (moved_in store.clients.items) (moved_in c.prepare.new.clients.items) refl c.in-Err.ensures.same_places c.in-Err.ensures.same_keepers p.count p.same_clients NoMemory (λ reserved values. out_of_memory (state_of rows.schema reserved values s rows.opens.items))

pub returns-in-Err-clause-time : goal.returns-in-Err-clause-time
returns-in-Err-clause-time g c =
    let store = c.args.self.now in
    let rows = store.rows in
    let s = g.S.Slots.state rows.chains.slots in
    let p = c.prepare.ensures in
    store_waits rows.schema store.indexes.items store.sequences.items s rows.opens.items (g.S.Slots.stop rows.chains.slots) (g.met.S.Slots.stop_known rows.chains.slots)

pub returns-in-Err-clause-cause : goal.returns-in-Err-clause-cause
returns-in-Err-clause-cause g c =
    let store = c.args.self.now in
    let rows = store.rows in
    let s = g.S.Slots.state rows.chains.slots in
    let p = c.prepare.ensures in
    no_disk {T = Unit {0}} s.faults (store_state rows.schema store.indexes.items store.sequences.items s rows.opens.items)

pub invariant_of-self-in-Ok-insert-clause-indexed : goal.invariant_of-self-in-Ok-insert-clause-indexed
invariant_of-self-in-Ok-insert-clause-indexed g c =
    let store = c.args.self.now in
    let rows = store.rows in
    let s = g.S.Slots.state rows.chains.slots in
    let p = c.prepare.ensures in
    let new = c.insert.new.self in
    let t = g.S.Slots.state new.chains.slots in
    let e = c.insert.ensures in
    let started = c.in-Ok.started in
    let u = c.finish.ensures in
    row_indexed rows.schema new.schema store.indexes.items c.prepare.new.indexes.items c.finish.new.indexes.items store.sequences.items s t rows.opens.items new.opens.items (moved_in store.clients.items) (moved_in c.prepare.new.clients.items) (moved_in c.finish.new.clients.items) c.args.client started.enters c.args.row.0 (record { row = started.row; moves = started.moves }) started.before.items None (row_in c.args.table c.args.values.now) c.in-Ok.ensures.of_row e.schema store.indexed c.in-Ok.ensures.started (subst (λ (x : SchemaData). AreMovesOf x None (row_in c.args.table c.args.values.now) started.moves.items) c.schema.ensures c.in-Ok.ensures.moves) u.places u.keepers p.count u.count p.same_clients u.own u.others c.requires.free.empty (c.requires.table, c.requires.fits) c.in-Ok-insert.ensures.ok new.stored

pub invariant_of-self-in-Ok-insert-clause-held : goal.invariant_of-self-in-Ok-insert-clause-held
invariant_of-self-in-Ok-insert-clause-held g c =
    let store = c.args.self.now in
    let rows = store.rows in
    let s = g.S.Slots.state rows.chains.slots in
    let p = c.prepare.ensures in
    let new = c.insert.new.self in
    let t = g.S.Slots.state new.chains.slots in
    let e = c.insert.ensures in
    let started = c.in-Ok.started in
    let u = c.finish.ensures in
    store_held s t store.sequences.items e.keeps store.held

pub invariant_of-self-in-Err-insert-clause-indexed : goal.invariant_of-self-in-Err-insert-clause-indexed
invariant_of-self-in-Err-insert-clause-indexed g c =
    let store = c.args.self.now in
    let rows = store.rows in
    let s = g.S.Slots.state rows.chains.slots in
    let p = c.prepare.ensures in
    let new = c.insert.new.self in
    let t = g.S.Slots.state new.chains.slots in
    let e = c.insert.ensures in
    let started = c.in-Ok.ensures.started in
    let gone = c.cancel.ensures.forgotten (places_of store.indexes.items) (keepers_of store.indexes.items) started.was started.places started.keepers in
    refused_store {T = Unit {0}} rows.schema new.schema store.indexes.items c.cancel.new.indexes.items store.sequences.items s t rows.opens.items new.opens.items (moved_in store.clients.items) (moved_in c.prepare.new.clients.items) e.schema gone.0 gone.1 (c.cancel.ensures.count ∙ p.count) p.same_clients c.in-Err-insert.error c.in-Err-insert.ensures.err store.indexed

pub invariant_of-self-in-Err-insert-clause-held : goal.invariant_of-self-in-Err-insert-clause-held
invariant_of-self-in-Err-insert-clause-held g c =
    let store = c.args.self.now in
    let rows = store.rows in
    let s = g.S.Slots.state rows.chains.slots in
    let p = c.prepare.ensures in
    let new = c.insert.new.self in
    let t = g.S.Slots.state new.chains.slots in
    let e = c.insert.ensures in
    let started = c.in-Ok.ensures.started in
    let gone = c.cancel.ensures.forgotten (places_of store.indexes.items) (keepers_of store.indexes.items) started.was started.places started.keepers in
    store_held s t store.sequences.items e.keeps store.held

pub invariant_of-self-clause-indexed : goal.invariant_of-self-clause-indexed
invariant_of-self-clause-indexed g c =
    let store = c.args.self.now in
    let rows = store.rows in
    let s = g.S.Slots.state rows.chains.slots in
    let p = c.prepare.ensures in
    refused_store {T = Unit {0}} rows.schema rows.schema store.indexes.items c.prepare.new.indexes.items store.sequences.items s s rows.opens.items rows.opens.items (moved_in store.clients.items) (moved_in c.prepare.new.clients.items) refl c.in-Err.ensures.same_places c.in-Err.ensures.same_keepers p.count p.same_clients NoMemory (λ reserved values. out_of_memory (state_of rows.schema reserved values s rows.opens.items)) store.indexed

pub invariant_of-self-clause-held : goal.invariant_of-self-clause-held
invariant_of-self-clause-held g c =
    let store = c.args.self.now in
    let rows = store.rows in
    let s = g.S.Slots.state rows.chains.slots in
    let p = c.prepare.ensures in
    store.held

pub invariant_of-self-in-Ok-insert-clause-values : goal.invariant_of-self-in-Ok-insert-clause-values
invariant_of-self-in-Ok-insert-clause-values g c = c.args.self.now.values ∙ ap (λ (x : SchemaData). length x.sequences) (sym c.insert.ensures.schema)

pub invariant_of-self-in-Err-insert-clause-values : goal.invariant_of-self-in-Err-insert-clause-values
invariant_of-self-in-Err-insert-clause-values g c = c.args.self.now.values ∙ ap (λ (x : SchemaData). length x.sequences) (sym c.insert.ensures.schema)
