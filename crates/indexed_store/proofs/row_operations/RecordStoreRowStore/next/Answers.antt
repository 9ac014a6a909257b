use Rattle.std.proofs.Common.{length, Option, Err, refl, sym, ap, ◌∙◌, subst, le_refl}
use Rattle.row_indexes.specs.Places.{keepers_of}
use Rattle.row_keys.specs.Reserved.{reserved_at}
use Rattle.row_moves.specs.Moved.{moved_in}
use Rattle.indexed_store.proofs.Calls.{asked_err, asked_indexed, asked_same, asked_values}
use Rattle.abl_values.specs.Schema.{SchemaData}
use Rattle.database_meaning.specs.Setting.{HasTable}
use Rattle.row_keys.specs.Numbers.{HasOrder, index_count}
use Rattle.indexed_store.specs.State.{store_state}
use Rattle.indexed_store.proofs.Known.{read_at}
use Rattle.std.specs.Option.{option_copied}
use Rattle.row_store.specs.declared.store.FoundRow.{FoundRow}
use Rattle.indexed_store.proofs.Asked.{FindsPlace, memory_err, none_found, order_of, row_found}
use Rattle.indexed_store.proofs.Timed.{store_held, store_rests, store_waits}
use Rattle.indexed_store.proofs.row_operations.RecordStoreRowStore.next.Goals as goal

pub place_found-requires-clause-table : goal.place_found-requires-clause-table
place_found-requires-clause-table g c = subst (λ (x : SchemaData). HasTable x c.args.table) (sym c.schema.ensures) c.requires.table

pub place_found-requires-clause-order : goal.place_found-requires-clause-order
place_found-requires-clause-order g c = subst (λ (x : SchemaData). HasOrder x c.args.table c.args.index) (sym c.schema.ensures) (order_of c.args.self.now.rows.schema c.args.table c.args.index c.requires.order)

pub place_found-requires-clause-count : goal.place_found-requires-clause-count
place_found-requires-clause-count g c = ap length c.as_slice.ensures.value ∙ (c.args.self.now.indexed.count ∙ ap index_count (sym c.schema.ensures))

pub returns-in-Ok-Some-clause-found : goal.returns-in-Ok-Some-clause-found
returns-in-Ok-Some-clause-found g c =
    let store = c.args.self.now in
    let rows = store.rows in
    let s = g.S.Slots.state rows.chains.slots in
    let new = c.found.new.rows in
    let t = g.S.Slots.state new.chains.slots in
    let e = c.found.ensures in
    let err = e.err (reserved_at rows.schema (keepers_of store.indexes.items)) store.sequences.items in
    row_found (store_state rows.schema store.indexes.items store.sequences.items s rows.opens.items) (moved_in store.clients.items) store.indexes.items store.indexed c.schema.result.now c.as_slice.result.now c.schema.ensures c.as_slice.ensures.value c.args.table c.args.index c.args.prefix.now (option_copied c.args.cursor) c.args.forward c.in-Ok-Some.at (subst (FindsPlace c.schema.result.now c.as_slice.result.now c.args.table c.args.index c.args.prefix.now (option_copied c.args.cursor) c.args.forward) c.in-Ok-Some.field-0-is c.in-Ok-Some.ensures.found) c.found.result (read_at rows.schema store.indexes.items store.sequences.items s rows.opens.items c.args.table c.in-Ok-Some.at c.found.result e.found)

pub returns-in-Ok-Some-clause-same : goal.returns-in-Ok-Some-clause-same
returns-in-Ok-Some-clause-same g c =
    let store = c.args.self.now in
    let rows = store.rows in
    let s = g.S.Slots.state rows.chains.slots in
    let new = c.found.new.rows in
    let t = g.S.Slots.state new.chains.slots in
    let e = c.found.ensures in
    let err = e.err (reserved_at rows.schema (keepers_of store.indexes.items)) store.sequences.items in
    asked_same rows.schema new.schema store.indexes.items store.sequences.items s t rows.opens.items new.opens.items e.schema {T = Option FoundRow} c.found.result e.same

pub returns-in-Ok-Some-clause-err : goal.returns-in-Ok-Some-clause-err
returns-in-Ok-Some-clause-err g c =
    let store = c.args.self.now in
    let rows = store.rows in
    let s = g.S.Slots.state rows.chains.slots in
    let new = c.found.new.rows in
    let t = g.S.Slots.state new.chains.slots in
    let e = c.found.ensures in
    let err = e.err (reserved_at rows.schema (keepers_of store.indexes.items)) store.sequences.items in
    asked_err rows.schema new.schema store.indexes.items store.sequences.items s t rows.opens.items new.opens.items e.schema {T = Option FoundRow} c.found.result err

pub returns-in-Ok-Some-clause-cause : goal.returns-in-Ok-Some-clause-cause
returns-in-Ok-Some-clause-cause g c =
    let store = c.args.self.now in
    let rows = store.rows in
    let s = g.S.Slots.state rows.chains.slots in
    let new = c.found.new.rows in
    let t = g.S.Slots.state new.chains.slots in
    let e = c.found.ensures in
    let err = e.err (reserved_at rows.schema (keepers_of store.indexes.items)) store.sequences.items in
    e.cause (reserved_at rows.schema (keepers_of store.indexes.items)) store.sequences.items

pub returns-in-Ok-Some-clause-time : goal.returns-in-Ok-Some-clause-time
returns-in-Ok-Some-clause-time g c =
    let store = c.args.self.now in
    let rows = store.rows in
    let s = g.S.Slots.state rows.chains.slots in
    let new = c.found.new.rows in
    let t = g.S.Slots.state new.chains.slots in
    let e = c.found.ensures in
    let err = e.err (reserved_at rows.schema (keepers_of store.indexes.items)) store.sequences.items in
    store_rests rows.schema new.schema store.indexes.items store.sequences.items s t rows.opens.items (g.S.Slots.stop rows.chains.slots) (g.S.Slots.stop new.chains.slots) e.schema store.values store.held e.keeps e.time (g.met.S.Slots.stop_known new.chains.slots)

pub invariant_of-self-clause-values : goal.invariant_of-self-clause-values
invariant_of-self-clause-values g c =
    let store = c.args.self.now in
    let rows = store.rows in
    let s = g.S.Slots.state rows.chains.slots in
    let new = c.found.new.rows in
    let t = g.S.Slots.state new.chains.slots in
    let e = c.found.ensures in
    let err = e.err (reserved_at rows.schema (keepers_of store.indexes.items)) store.sequences.items in
    asked_values rows.schema new.schema store.indexes.items store.sequences.items s t rows.opens.items new.opens.items e.schema store.values

pub invariant_of-self-clause-indexed : goal.invariant_of-self-clause-indexed
invariant_of-self-clause-indexed g c =
    let store = c.args.self.now in
    let rows = store.rows in
    let s = g.S.Slots.state rows.chains.slots in
    let new = c.found.new.rows in
    let t = g.S.Slots.state new.chains.slots in
    let e = c.found.ensures in
    let err = e.err (reserved_at rows.schema (keepers_of store.indexes.items)) store.sequences.items in
    asked_indexed rows.schema new.schema store.indexes.items store.sequences.items s t rows.opens.items new.opens.items e.schema {T = Option FoundRow} c.found.result (asked_same rows.schema new.schema store.indexes.items store.sequences.items s t rows.opens.items new.opens.items e.schema {T = Option FoundRow} c.found.result e.same) (asked_err rows.schema new.schema store.indexes.items store.sequences.items s t rows.opens.items new.opens.items e.schema {T = Option FoundRow} c.found.result err) (moved_in store.clients.items) store.indexed

pub invariant_of-self-clause-held : goal.invariant_of-self-clause-held
invariant_of-self-clause-held g c =
    let store = c.args.self.now in
    let rows = store.rows in
    let s = g.S.Slots.state rows.chains.slots in
    let new = c.found.new.rows in
    let t = g.S.Slots.state new.chains.slots in
    let e = c.found.ensures in
    let err = e.err (reserved_at rows.schema (keepers_of store.indexes.items)) store.sequences.items in
    store_held s t store.sequences.items e.keeps store.held

pub returns-in-Ok-None-clause-found : goal.returns-in-Ok-None-clause-found
returns-in-Ok-None-clause-found g c =
    let store = c.args.self.now in
    let rows = store.rows in
    let s = g.S.Slots.state rows.chains.slots in
    none_found (store_state rows.schema store.indexes.items store.sequences.items s rows.opens.items) (moved_in store.clients.items) store.indexes.items store.indexed c.schema.result.now c.as_slice.result.now c.schema.ensures c.as_slice.ensures.value c.args.table c.args.index c.args.prefix.now (option_copied c.args.cursor) c.args.forward (subst (FindsPlace c.schema.result.now c.as_slice.result.now c.args.table c.args.index c.args.prefix.now (option_copied c.args.cursor) c.args.forward) c.in-Ok-None.field-0-is c.in-Ok-None.ensures.found)

pub returns-in-Ok-None-clause-time : goal.returns-in-Ok-None-clause-time
returns-in-Ok-None-clause-time g c =
    let store = c.args.self.now in
    let rows = store.rows in
    let s = g.S.Slots.state rows.chains.slots in
    store_waits rows.schema store.indexes.items store.sequences.items s rows.opens.items (g.S.Slots.stop rows.chains.slots) (g.met.S.Slots.stop_known rows.chains.slots)

pub returns-in-Err-clause-err : goal.returns-in-Err-clause-err
returns-in-Err-clause-err g c =
    let store = c.args.self.now in
    let rows = store.rows in
    let s = g.S.Slots.state rows.chains.slots in
    memory_err {T = Option FoundRow} (store_state rows.schema store.indexes.items store.sequences.items s rows.opens.items) (store_state rows.schema store.indexes.items store.sequences.items s rows.opens.items) (Err c.in-Err.error) refl (λ q. c.in-Err.ensures.only (cc q))

pub returns-in-Err-clause-cause : goal.returns-in-Err-clause-cause
returns-in-Err-clause-cause g c =
    let store = c.args.self.now in
    let rows = store.rows in
    let s = g.S.Slots.state rows.chains.slots in
    record { later = le_refl s.faults; disk = λ q. absurd (c.in-Err.ensures.only (cc q)) }

pub returns-in-Err-clause-time : goal.returns-in-Err-clause-time
returns-in-Err-clause-time g c =
    let store = c.args.self.now in
    let rows = store.rows in
    let s = g.S.Slots.state rows.chains.slots in
    store_waits rows.schema store.indexes.items store.sequences.items s rows.opens.items (g.S.Slots.stop rows.chains.slots) (g.met.S.Slots.stop_known rows.chains.slots)
