use Rattle.std.proofs.Common.{ℕ, ◌<◌, length, Some, None, Ok, Err, refl, sym, ap, ◌∙◌, subst}
use Rattle.row_indexes.specs.Places.{keepers_of, places_of}
use Rattle.row_keys.specs.Reserved.{reserved_at}
use Rattle.row_moves.specs.Moved.{moved_in}
use Rattle.indexed_store.proofs.Calls.{asked_err}
use Rattle.std.proofs.Common.{drop}
use Rattle.abl_values.specs.Schema.{SchemaData}
use Rattle.database_meaning.specs.Setting.{FitsTable, HasTable}
use Rattle.database_meaning.specs.Waiting.{row_in}
use Rattle.row_store.specs.declared.store.RowFault.TheVariants.{NoMemory}
use Rattle.row_indexes.specs.Places.{AreWithin}
use Rattle.row_keys.specs.Numbers.{index_count}
use Rattle.row_keys.specs.Moves.{AreMovesOf}
use Rattle.indexed_store.specs.State.{store_state}
use Rattle.indexed_store.proofs.Calls.{out_of_memory}
use Rattle.indexed_store.proofs.StoreChanges.{refused_err, refused_store, row_changes, row_indexed}
use Rattle.row_store.specs.Rows.{AfterError, ChangesRow, RowState}
use Rattle.row_moves.proofs.Kept.{refused_indexed}
use Rattle.slot_rows.specs.declared.decode.OldRow.{OldRow}
use Rattle.slot_rows.specs.State.{state_of}
use Rattle.indexed_store.proofs.Calls.{other_cause, other_error}
use Rattle.indexed_store.proofs.Replacing.{cause_before, read_begun, read_fine, read_gone, read_indexed, read_is, read_known, read_there}
use Rattle.row_fragments.proofs.Composes.{goes_both, keeps_both}
use Rattle.indexed_store.proofs.Timed.{store_held, store_rests}
use Rattle.indexed_store.proofs.row_operations.RecordStoreRowStore.delete.Goals as goal

pub prepare-requires-clause-client : goal.prepare-requires-clause-client
prepare-requires-clause-client g c = subst (λ (n : ℕ). c.args.client < n) (sym c.args.self.now.sixteen) c.requires.client

pub prepare-requires-clause-table : goal.prepare-requires-clause-table
prepare-requires-clause-table g c =
    let store = c.args.self.now in
    let rows0 = store.rows in
    let s0 = g.S.Slots.state rows0.chains.slots in
    let rows = c.old_row.new.rows in
    let s = g.S.Slots.state rows.chains.slots in
    let o = c.in-Ok.ensures in
    let old = c.in-Ok.old in
    subst (λ (x : SchemaData). HasTable x c.args.table) (sym (c.schema.ensures ∙ o.schema)) o.has_table

pub prepare-requires-clause-count : goal.prepare-requires-clause-count
prepare-requires-clause-count g c = c.args.self.now.indexed.count ∙ ap index_count (sym (c.schema.ensures ∙ c.in-Ok.ensures.schema))

pub prepare-requires-clause-old : goal.prepare-requires-clause-old
prepare-requires-clause-old g c =
    let store = c.args.self.now in
    let rows0 = store.rows in
    let s0 = g.S.Slots.state rows0.chains.slots in
    let rows = c.old_row.new.rows in
    let s = g.S.Slots.state rows.chains.slots in
    let o = c.in-Ok.ensures in
    let old = c.in-Ok.old in
    subst (λ (x : SchemaData). FitsTable x c.args.table old.row.values) (sym (c.schema.ensures ∙ o.schema)) o.fits

pub delete-requires-clause-fine : goal.delete-requires-clause-fine
delete-requires-clause-fine g c =
    let store = c.args.self.now in
    let rows0 = store.rows in
    let s0 = g.S.Slots.state rows0.chains.slots in
    let rows = c.old_row.new.rows in
    let s = g.S.Slots.state rows.chains.slots in
    let o = c.in-Ok.ensures in
    let old = c.in-Ok.old in
    read_fine rows0.schema rows.schema store.indexes.items store.sequences.items s0 s rows0.opens.items rows.opens.items (moved_in store.clients.items) c.args.row.0 c.args.table old.row o.schema o.same store.indexed o.found o.table c.requires.fine

pub delete-requires-clause-begun : goal.delete-requires-clause-begun
delete-requires-clause-begun g c =
    let store = c.args.self.now in
    let rows0 = store.rows in
    let s0 = g.S.Slots.state rows0.chains.slots in
    let rows = c.old_row.new.rows in
    let s = g.S.Slots.state rows.chains.slots in
    let o = c.in-Ok.ensures in
    let old = c.in-Ok.old in
    read_begun rows0.schema rows.schema store.indexes.items store.sequences.items s0 s rows0.opens.items rows.opens.items (moved_in store.clients.items) c.args.row.0 c.args.table old.row o.schema o.same store.indexed o.found o.table c.args.client c.requires.begun

pub delete-requires-clause-there : goal.delete-requires-clause-there
delete-requires-clause-there g c =
    let store = c.args.self.now in
    let rows0 = store.rows in
    let s0 = g.S.Slots.state rows0.chains.slots in
    let rows = c.old_row.new.rows in
    let s = g.S.Slots.state rows.chains.slots in
    let o = c.in-Ok.ensures in
    let old = c.in-Ok.old in
    read_there rows0.schema rows.schema store.indexes.items store.sequences.items s0 s rows0.opens.items rows.opens.items (moved_in store.clients.items) c.args.row.0 c.args.table old.row o.schema o.same store.indexed o.found o.table

pub finish-requires-clause-client : goal.finish-requires-clause-client
finish-requires-clause-client g c = subst (λ (n : ℕ). c.args.client < n) (sym (c.prepare.ensures.clients ∙ c.args.self.now.sixteen)) c.requires.client

pub finish-requires-clause-room : goal.finish-requires-clause-room
finish-requires-clause-room g c = c.in-Ok-prepare.ensures.room

pub finish-requires-clause-within : goal.finish-requires-clause-within
finish-requires-clause-within g c =
    subst (λ (n : ℕ). AreWithin n (drop c.in-Ok-prepare.started.enters c.in-Ok-prepare.started.moves.items)) (sym c.prepare.ensures.count) c.in-Ok-prepare.ensures.started.within

pub finish-requires-clause-can : goal.finish-requires-clause-can
finish-requires-clause-can g c = c.in-Ok-prepare.ensures.started.rest

pub finish-requires-clause-leaves : goal.finish-requires-clause-leaves
finish-requires-clause-leaves g c = c.in-Ok-prepare.ensures.started.leaves

pub returns-in-Ok-delete-clause-ok : goal.returns-in-Ok-delete-clause-ok
returns-in-Ok-delete-clause-ok g c =
    let store = c.args.self.now in
    let rows0 = store.rows in
    let s0 = g.S.Slots.state rows0.chains.slots in
    let rows = c.old_row.new.rows in
    let s = g.S.Slots.state rows.chains.slots in
    let o = c.in-Ok.ensures in
    let old = c.in-Ok.old in
    let p = c.prepare.ensures in
    let new = c.delete.new.self in
    let t = g.S.Slots.state new.chains.slots in
    let e = c.delete.ensures in
    let started = c.in-Ok-prepare.started in
    let a = c.in-Ok-prepare.ensures in
    let u = c.finish.ensures in
    subst (λ (x : RowState). ChangesRow x (store_state new.schema c.finish.new.indexes.items store.sequences.items t new.opens.items) c.args.client c.args.row.0 (None)) (read_is rows0.schema rows.schema store.indexes.items store.sequences.items s0 s rows0.opens.items rows.opens.items (moved_in store.clients.items) c.args.row.0 c.args.table old.row o.schema o.same store.indexed o.found o.table) (row_changes rows.schema new.schema store.indexes.items c.prepare.new.indexes.items c.finish.new.indexes.items store.sequences.items s t rows.opens.items new.opens.items (moved_in store.clients.items) (moved_in c.prepare.new.clients.items) (moved_in c.finish.new.clients.items) c.args.client started.enters c.args.row.0 (record { row = started.row; moves = started.moves }) started.before.items (Some old.row) (None) a.of_row e.schema (read_indexed rows0.schema rows.schema store.indexes.items store.sequences.items s0 s rows0.opens.items rows.opens.items (moved_in store.clients.items) c.args.row.0 c.args.table old.row o.schema o.same store.indexed o.found o.table) a.started (read_gone rows0.schema rows.schema store.indexes.items store.sequences.items s0 s rows0.opens.items rows.opens.items (moved_in store.clients.items) c.args.row.0 c.args.table old.row o.schema o.same store.indexed o.found o.table started.moves.items (subst (λ (x : SchemaData). AreMovesOf x (row_in c.args.table old.row.values) None started.moves.items) c.schema.ensures a.moves)) u.places u.keepers p.count u.count p.same_clients u.own u.others (read_known rows0.schema rows.schema store.indexes.items store.sequences.items s0 s rows0.opens.items rows.opens.items (moved_in store.clients.items) c.args.row.0 c.args.table old.row o.schema o.same store.indexed o.found o.table) tt c.in-Ok-delete.ensures.ok new.stored)

pub returns-in-Ok-delete-clause-time : goal.returns-in-Ok-delete-clause-time
returns-in-Ok-delete-clause-time g c =
    let store = c.args.self.now in
    let rows0 = store.rows in
    let s0 = g.S.Slots.state rows0.chains.slots in
    let rows = c.old_row.new.rows in
    let s = g.S.Slots.state rows.chains.slots in
    let o = c.in-Ok.ensures in
    let old = c.in-Ok.old in
    let p = c.prepare.ensures in
    let new = c.delete.new.self in
    let t = g.S.Slots.state new.chains.slots in
    let e = c.delete.ensures in
    let started = c.in-Ok-prepare.started in
    let a = c.in-Ok-prepare.ensures in
    let u = c.finish.ensures in
    store_rests rows0.schema new.schema store.indexes.items store.sequences.items s0 t rows0.opens.items (g.S.Slots.stop rows0.chains.slots) (g.S.Slots.stop new.chains.slots) (e.schema ∙ c.old_row.ensures.schema) store.values store.held
    (keeps_both s0 s t c.old_row.ensures.keeps e.keeps)
    (goes_both s0 s t (g.S.Slots.stop rows0.chains.slots) (g.S.Slots.stop rows.chains.slots) (g.S.Slots.stop new.chains.slots) c.old_row.ensures.keeps e.keeps (g.met.S.Slots.stop_known new.chains.slots) c.old_row.ensures.time e.time) (g.met.S.Slots.stop_known new.chains.slots)

pub returns-in-Ok-delete-clause-cause : goal.returns-in-Ok-delete-clause-cause
returns-in-Ok-delete-clause-cause g c =
    let store = c.args.self.now in
    let rows0 = store.rows in
    let s0 = g.S.Slots.state rows0.chains.slots in
    let rows = c.old_row.new.rows in
    let s = g.S.Slots.state rows.chains.slots in
    let o = c.in-Ok.ensures in
    let old = c.in-Ok.old in
    let p = c.prepare.ensures in
    let new = c.delete.new.self in
    let t = g.S.Slots.state new.chains.slots in
    let e = c.delete.ensures in
    let started = c.in-Ok-prepare.started in
    let a = c.in-Ok-prepare.ensures in
    let u = c.finish.ensures in
    cause_before {T = Unit {0}} s0.faults s.faults t.faults (store_state rows0.schema store.indexes.items store.sequences.items s0 rows0.opens.items) (store_state rows.schema store.indexes.items store.sequences.items s rows.opens.items) (Ok c.in-Ok-delete.field-0) (c.old_row.ensures.cause (reserved_at rows0.schema (keepers_of store.indexes.items)) store.sequences.items).later (read_is rows0.schema rows.schema store.indexes.items store.sequences.items s0 s rows0.opens.items rows.opens.items (moved_in store.clients.items) c.args.row.0 c.args.table old.row o.schema o.same store.indexed o.found o.table) (c.in-Ok-delete.ensures.cause (reserved_at rows.schema (keepers_of store.indexes.items)) store.sequences.items)

pub returns-in-Err-delete-clause-err : goal.returns-in-Err-delete-clause-err
returns-in-Err-delete-clause-err g c =
    let store = c.args.self.now in
    let rows0 = store.rows in
    let s0 = g.S.Slots.state rows0.chains.slots in
    let rows = c.old_row.new.rows in
    let s = g.S.Slots.state rows.chains.slots in
    let o = c.in-Ok.ensures in
    let old = c.in-Ok.old in
    let p = c.prepare.ensures in
    let new = c.delete.new.self in
    let t = g.S.Slots.state new.chains.slots in
    let e = c.delete.ensures in
    let started = c.in-Ok-prepare.ensures.started in
    let gone = c.cancel.ensures.forgotten (places_of store.indexes.items) (keepers_of store.indexes.items) started.was started.places started.keepers in
    subst (λ (x : RowState). AfterError {T = Unit {0}} x (store_state new.schema c.cancel.new.indexes.items store.sequences.items t new.opens.items) (Err c.in-Err-delete.error)) (read_is rows0.schema rows.schema store.indexes.items store.sequences.items s0 s rows0.opens.items rows.opens.items (moved_in store.clients.items) c.args.row.0 c.args.table old.row o.schema o.same store.indexed o.found o.table) (refused_err {T = Unit {0}} rows.schema new.schema store.indexes.items c.cancel.new.indexes.items store.sequences.items s t rows.opens.items new.opens.items (moved_in store.clients.items) (moved_in c.prepare.new.clients.items) e.schema gone.0 gone.1 (c.cancel.ensures.count ∙ p.count) p.same_clients c.in-Err-delete.error c.in-Err-delete.ensures.err)

pub returns-in-Err-delete-clause-time : goal.returns-in-Err-delete-clause-time
returns-in-Err-delete-clause-time g c =
    let store = c.args.self.now in
    let rows0 = store.rows in
    let s0 = g.S.Slots.state rows0.chains.slots in
    let rows = c.old_row.new.rows in
    let s = g.S.Slots.state rows.chains.slots in
    let o = c.in-Ok.ensures in
    let old = c.in-Ok.old in
    let p = c.prepare.ensures in
    let new = c.delete.new.self in
    let t = g.S.Slots.state new.chains.slots in
    let e = c.delete.ensures in
    let started = c.in-Ok-prepare.ensures.started in
    let gone = c.cancel.ensures.forgotten (places_of store.indexes.items) (keepers_of store.indexes.items) started.was started.places started.keepers in
    store_rests rows0.schema new.schema store.indexes.items store.sequences.items s0 t rows0.opens.items (g.S.Slots.stop rows0.chains.slots) (g.S.Slots.stop new.chains.slots) (e.schema ∙ c.old_row.ensures.schema) store.values store.held
    (keeps_both s0 s t c.old_row.ensures.keeps e.keeps)
    (goes_both s0 s t (g.S.Slots.stop rows0.chains.slots) (g.S.Slots.stop rows.chains.slots) (g.S.Slots.stop new.chains.slots) c.old_row.ensures.keeps e.keeps (g.met.S.Slots.stop_known new.chains.slots) c.old_row.ensures.time e.time) (g.met.S.Slots.stop_known new.chains.slots)

pub returns-in-Err-delete-clause-cause : goal.returns-in-Err-delete-clause-cause
returns-in-Err-delete-clause-cause g c =
    let store = c.args.self.now in
    let rows0 = store.rows in
    let s0 = g.S.Slots.state rows0.chains.slots in
    let rows = c.old_row.new.rows in
    let s = g.S.Slots.state rows.chains.slots in
    let o = c.in-Ok.ensures in
    let old = c.in-Ok.old in
    let p = c.prepare.ensures in
    let new = c.delete.new.self in
    let t = g.S.Slots.state new.chains.slots in
    let e = c.delete.ensures in
    let started = c.in-Ok-prepare.ensures.started in
    let gone = c.cancel.ensures.forgotten (places_of store.indexes.items) (keepers_of store.indexes.items) started.was started.places started.keepers in
    cause_before {T = Unit {0}} s0.faults s.faults t.faults (store_state rows0.schema store.indexes.items store.sequences.items s0 rows0.opens.items) (store_state rows.schema store.indexes.items store.sequences.items s rows.opens.items) (Err c.in-Err-delete.error) (c.old_row.ensures.cause (reserved_at rows0.schema (keepers_of store.indexes.items)) store.sequences.items).later (read_is rows0.schema rows.schema store.indexes.items store.sequences.items s0 s rows0.opens.items rows.opens.items (moved_in store.clients.items) c.args.row.0 c.args.table old.row o.schema o.same store.indexed o.found o.table) (c.in-Err-delete.ensures.cause (reserved_at rows.schema (keepers_of store.indexes.items)) store.sequences.items)

pub returns-in-Err-prepare-clause-err : goal.returns-in-Err-prepare-clause-err
returns-in-Err-prepare-clause-err g c =
    let store = c.args.self.now in
    let rows0 = store.rows in
    let s0 = g.S.Slots.state rows0.chains.slots in
    let rows = c.old_row.new.rows in
    let s = g.S.Slots.state rows.chains.slots in
    let o = c.in-Ok.ensures in
    let old = c.in-Ok.old in
    let p = c.prepare.ensures in
    subst (λ (x : RowState). AfterError {T = Unit {0}} x (store_state rows.schema c.prepare.new.indexes.items store.sequences.items s rows.opens.items) (Err NoMemory)) (read_is rows0.schema rows.schema store.indexes.items store.sequences.items s0 s rows0.opens.items rows.opens.items (moved_in store.clients.items) c.args.row.0 c.args.table old.row o.schema o.same store.indexed o.found o.table) (refused_err {T = Unit {0}} rows.schema rows.schema store.indexes.items c.prepare.new.indexes.items store.sequences.items s s rows.opens.items rows.opens.items (moved_in store.clients.items) (moved_in c.prepare.new.clients.items) refl c.in-Err-prepare.ensures.same_places c.in-Err-prepare.ensures.same_keepers p.count p.same_clients NoMemory (λ reserved values. out_of_memory (state_of rows.schema reserved values s rows.opens.items)))

pub returns-in-Err-prepare-clause-time : goal.returns-in-Err-prepare-clause-time
returns-in-Err-prepare-clause-time g c =
    let store = c.args.self.now in
    let rows0 = store.rows in
    let s0 = g.S.Slots.state rows0.chains.slots in
    let rows = c.old_row.new.rows in
    let s = g.S.Slots.state rows.chains.slots in
    let o = c.in-Ok.ensures in
    let old = c.in-Ok.old in
    let p = c.prepare.ensures in
    store_rests rows0.schema rows.schema store.indexes.items store.sequences.items s0 s rows0.opens.items (g.S.Slots.stop rows0.chains.slots) (g.S.Slots.stop rows.chains.slots) c.old_row.ensures.schema store.values store.held
    c.old_row.ensures.keeps c.old_row.ensures.time (g.met.S.Slots.stop_known rows.chains.slots)

pub returns-in-Err-prepare-clause-cause : goal.returns-in-Err-prepare-clause-cause
returns-in-Err-prepare-clause-cause g c =
    let store = c.args.self.now in
    let rows0 = store.rows in
    let s0 = g.S.Slots.state rows0.chains.slots in
    let rows = c.old_row.new.rows in
    let s = g.S.Slots.state rows.chains.slots in
    let o = c.in-Ok.ensures in
    let old = c.in-Ok.old in
    let p = c.prepare.ensures in
    record { later = (c.old_row.ensures.cause (reserved_at rows0.schema (keepers_of store.indexes.items)) store.sequences.items).later; disk = λ q. absurd (cc q) }

pub returns-in-Err-clause-err : goal.returns-in-Err-clause-err
returns-in-Err-clause-err g c =
    let store = c.args.self.now in
    let rows0 = store.rows in
    let s0 = g.S.Slots.state rows0.chains.slots in
    let rows = c.old_row.new.rows in
    let s = g.S.Slots.state rows.chains.slots in
    asked_err rows0.schema rows.schema store.indexes.items store.sequences.items s0 s rows0.opens.items rows.opens.items c.old_row.ensures.schema {T = Unit {0}} (Err c.in-Err.error) (other_error {T = OldRow} {U = Unit {0}} (state_of rows0.schema (reserved_at rows0.schema (keepers_of store.indexes.items)) store.sequences.items s0 rows0.opens.items) (state_of rows0.schema (reserved_at rows0.schema (keepers_of store.indexes.items)) store.sequences.items s rows.opens.items) c.in-Err.error (c.in-Err.ensures.err (reserved_at rows0.schema (keepers_of store.indexes.items)) store.sequences.items))

pub returns-in-Err-clause-time : goal.returns-in-Err-clause-time
returns-in-Err-clause-time g c =
    let store = c.args.self.now in
    let rows0 = store.rows in
    let s0 = g.S.Slots.state rows0.chains.slots in
    let rows = c.old_row.new.rows in
    let s = g.S.Slots.state rows.chains.slots in
    store_rests rows0.schema rows.schema store.indexes.items store.sequences.items s0 s rows0.opens.items (g.S.Slots.stop rows0.chains.slots) (g.S.Slots.stop rows.chains.slots) c.old_row.ensures.schema store.values store.held
    c.old_row.ensures.keeps c.old_row.ensures.time (g.met.S.Slots.stop_known rows.chains.slots)

pub returns-in-Err-clause-cause : goal.returns-in-Err-clause-cause
returns-in-Err-clause-cause g c =
    let store = c.args.self.now in
    let rows0 = store.rows in
    let s0 = g.S.Slots.state rows0.chains.slots in
    let rows = c.old_row.new.rows in
    let s = g.S.Slots.state rows.chains.slots in
    other_cause {T = OldRow} {U = Unit {0}} s0.faults s.faults (store_state rows0.schema store.indexes.items store.sequences.items s0 rows0.opens.items) c.in-Err.error (c.in-Err.ensures.cause (reserved_at rows0.schema (keepers_of store.indexes.items)) store.sequences.items)

pub invariant_of-self-in-Ok-delete-clause-indexed : goal.invariant_of-self-in-Ok-delete-clause-indexed
invariant_of-self-in-Ok-delete-clause-indexed g c =
    let store = c.args.self.now in
    let rows0 = store.rows in
    let s0 = g.S.Slots.state rows0.chains.slots in
    let rows = c.old_row.new.rows in
    let s = g.S.Slots.state rows.chains.slots in
    let o = c.in-Ok.ensures in
    let old = c.in-Ok.old in
    let p = c.prepare.ensures in
    let new = c.delete.new.self in
    let t = g.S.Slots.state new.chains.slots in
    let e = c.delete.ensures in
    let started = c.in-Ok-prepare.started in
    let a = c.in-Ok-prepare.ensures in
    let u = c.finish.ensures in
    row_indexed rows.schema new.schema store.indexes.items c.prepare.new.indexes.items c.finish.new.indexes.items store.sequences.items s t rows.opens.items new.opens.items (moved_in store.clients.items) (moved_in c.prepare.new.clients.items) (moved_in c.finish.new.clients.items) c.args.client started.enters c.args.row.0 (record { row = started.row; moves = started.moves }) started.before.items (Some old.row) (None) a.of_row e.schema (read_indexed rows0.schema rows.schema store.indexes.items store.sequences.items s0 s rows0.opens.items rows.opens.items (moved_in store.clients.items) c.args.row.0 c.args.table old.row o.schema o.same store.indexed o.found o.table) a.started (read_gone rows0.schema rows.schema store.indexes.items store.sequences.items s0 s rows0.opens.items rows.opens.items (moved_in store.clients.items) c.args.row.0 c.args.table old.row o.schema o.same store.indexed o.found o.table started.moves.items (subst (λ (x : SchemaData). AreMovesOf x (row_in c.args.table old.row.values) None started.moves.items) c.schema.ensures a.moves)) u.places u.keepers p.count u.count p.same_clients u.own u.others (read_known rows0.schema rows.schema store.indexes.items store.sequences.items s0 s rows0.opens.items rows.opens.items (moved_in store.clients.items) c.args.row.0 c.args.table old.row o.schema o.same store.indexed o.found o.table) tt c.in-Ok-delete.ensures.ok new.stored

pub invariant_of-self-in-Ok-delete-clause-held : goal.invariant_of-self-in-Ok-delete-clause-held
invariant_of-self-in-Ok-delete-clause-held g c =
    let store = c.args.self.now in
    let rows0 = store.rows in
    let s0 = g.S.Slots.state rows0.chains.slots in
    let rows = c.old_row.new.rows in
    let s = g.S.Slots.state rows.chains.slots in
    let o = c.in-Ok.ensures in
    let old = c.in-Ok.old in
    let p = c.prepare.ensures in
    let new = c.delete.new.self in
    let t = g.S.Slots.state new.chains.slots in
    let e = c.delete.ensures in
    let started = c.in-Ok-prepare.started in
    let a = c.in-Ok-prepare.ensures in
    let u = c.finish.ensures in
    store_held s0 t store.sequences.items (keeps_both s0 s t c.old_row.ensures.keeps e.keeps) store.held

pub invariant_of-self-in-Err-delete-clause-indexed : goal.invariant_of-self-in-Err-delete-clause-indexed
invariant_of-self-in-Err-delete-clause-indexed g c =
    let store = c.args.self.now in
    let rows0 = store.rows in
    let s0 = g.S.Slots.state rows0.chains.slots in
    let rows = c.old_row.new.rows in
    let s = g.S.Slots.state rows.chains.slots in
    let o = c.in-Ok.ensures in
    let old = c.in-Ok.old in
    let p = c.prepare.ensures in
    let new = c.delete.new.self in
    let t = g.S.Slots.state new.chains.slots in
    let e = c.delete.ensures in
    let started = c.in-Ok-prepare.ensures.started in
    let gone = c.cancel.ensures.forgotten (places_of store.indexes.items) (keepers_of store.indexes.items) started.was started.places started.keepers in
    refused_store {T = Unit {0}} rows.schema new.schema store.indexes.items c.cancel.new.indexes.items store.sequences.items s t rows.opens.items new.opens.items (moved_in store.clients.items) (moved_in c.prepare.new.clients.items) e.schema gone.0 gone.1 (c.cancel.ensures.count ∙ p.count) p.same_clients c.in-Err-delete.error c.in-Err-delete.ensures.err (read_indexed rows0.schema rows.schema store.indexes.items store.sequences.items s0 s rows0.opens.items rows.opens.items (moved_in store.clients.items) c.args.row.0 c.args.table old.row c.in-Ok.ensures.schema c.in-Ok.ensures.same store.indexed c.in-Ok.ensures.found c.in-Ok.ensures.table)

pub invariant_of-self-in-Err-delete-clause-held : goal.invariant_of-self-in-Err-delete-clause-held
invariant_of-self-in-Err-delete-clause-held g c =
    let store = c.args.self.now in
    let rows0 = store.rows in
    let s0 = g.S.Slots.state rows0.chains.slots in
    let rows = c.old_row.new.rows in
    let s = g.S.Slots.state rows.chains.slots in
    let o = c.in-Ok.ensures in
    let old = c.in-Ok.old in
    let p = c.prepare.ensures in
    let new = c.delete.new.self in
    let t = g.S.Slots.state new.chains.slots in
    let e = c.delete.ensures in
    let started = c.in-Ok-prepare.ensures.started in
    let gone = c.cancel.ensures.forgotten (places_of store.indexes.items) (keepers_of store.indexes.items) started.was started.places started.keepers in
    store_held s0 t store.sequences.items (keeps_both s0 s t c.old_row.ensures.keeps e.keeps) store.held

pub invariant_of-self-in-Err-prepare-clause-indexed : goal.invariant_of-self-in-Err-prepare-clause-indexed
invariant_of-self-in-Err-prepare-clause-indexed g c =
    let store = c.args.self.now in
    let rows0 = store.rows in
    let s0 = g.S.Slots.state rows0.chains.slots in
    let rows = c.old_row.new.rows in
    let s = g.S.Slots.state rows.chains.slots in
    let o = c.in-Ok.ensures in
    let old = c.in-Ok.old in
    let p = c.prepare.ensures in
    refused_store {T = Unit {0}} rows.schema rows.schema store.indexes.items c.prepare.new.indexes.items store.sequences.items s s rows.opens.items rows.opens.items (moved_in store.clients.items) (moved_in c.prepare.new.clients.items) refl c.in-Err-prepare.ensures.same_places c.in-Err-prepare.ensures.same_keepers p.count p.same_clients NoMemory (λ reserved values. out_of_memory (state_of rows.schema reserved values s rows.opens.items)) (read_indexed rows0.schema rows.schema store.indexes.items store.sequences.items s0 s rows0.opens.items rows.opens.items (moved_in store.clients.items) c.args.row.0 c.args.table old.row o.schema o.same store.indexed o.found o.table)

pub invariant_of-self-in-Err-prepare-clause-held : goal.invariant_of-self-in-Err-prepare-clause-held
invariant_of-self-in-Err-prepare-clause-held g c =
    let store = c.args.self.now in
    let rows0 = store.rows in
    let s0 = g.S.Slots.state rows0.chains.slots in
    let rows = c.old_row.new.rows in
    let s = g.S.Slots.state rows.chains.slots in
    let o = c.in-Ok.ensures in
    let old = c.in-Ok.old in
    let p = c.prepare.ensures in
    store_held s0 s store.sequences.items c.old_row.ensures.keeps store.held

pub invariant_of-self-in-Ok-delete-clause-values : goal.invariant_of-self-in-Ok-delete-clause-values
invariant_of-self-in-Ok-delete-clause-values g c = c.args.self.now.values ∙ ap (λ (x : SchemaData). length x.sequences) (sym (c.delete.ensures.schema ∙ c.in-Ok.ensures.schema))

pub invariant_of-self-in-Err-delete-clause-values : goal.invariant_of-self-in-Err-delete-clause-values
invariant_of-self-in-Err-delete-clause-values g c = c.args.self.now.values ∙ ap (λ (x : SchemaData). length x.sequences) (sym (c.delete.ensures.schema ∙ c.in-Ok.ensures.schema))

pub invariant_of-self-in-Err-prepare-clause-values : goal.invariant_of-self-in-Err-prepare-clause-values
invariant_of-self-in-Err-prepare-clause-values g c = c.args.self.now.values ∙ ap (λ (x : SchemaData). length x.sequences) (sym (c.in-Ok.ensures.schema))

pub invariant_of-self : goal.invariant_of-self
invariant_of-self g c =
    let store = c.args.self.now in
    let rows0 = store.rows in
    let s0 = g.S.Slots.state rows0.chains.slots in
    let rows = c.old_row.new.rows in
    let s = g.S.Slots.state rows.chains.slots in
    record {
      sixteen = store.sixteen;
      values = store.values ∙ ap (λ (x : SchemaData). length x.sequences) (sym c.old_row.ensures.schema);
      few = store.few;
      held = store_held s0 s store.sequences.items c.old_row.ensures.keeps store.held;
      indexed = refused_indexed {T = Unit {0}} (store_state rows0.schema store.indexes.items store.sequences.items s0 rows0.opens.items) (store_state rows.schema store.indexes.items store.sequences.items s rows.opens.items) (moved_in store.clients.items) store.indexes.items c.in-Err.error (asked_err rows0.schema rows.schema store.indexes.items store.sequences.items s0 s rows0.opens.items rows.opens.items c.old_row.ensures.schema {T = Unit {0}} (Err c.in-Err.error) (other_error {T = OldRow} {U = Unit {0}} (state_of rows0.schema (reserved_at rows0.schema (keepers_of store.indexes.items)) store.sequences.items s0 rows0.opens.items) (state_of rows0.schema (reserved_at rows0.schema (keepers_of store.indexes.items)) store.sequences.items s rows.opens.items) c.in-Err.error (c.in-Err.ensures.err (reserved_at rows0.schema (keepers_of store.indexes.items)) store.sequences.items))) store.indexed;
    }
