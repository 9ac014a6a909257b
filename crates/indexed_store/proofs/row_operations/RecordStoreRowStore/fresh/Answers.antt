use Rattle.abl_base.specs.declared.row.RowId.{RowId}
use Rattle.row_indexes.specs.Places.{keepers_of}
use Rattle.row_keys.specs.Reserved.{reserved_at}
use Rattle.row_moves.specs.Moved.{moved_in}
use Rattle.indexed_store.proofs.Calls.{asked_err, asked_indexed, asked_same, asked_values}
use Rattle.indexed_store.proofs.Known.{free_found}
use Rattle.indexed_store.proofs.Timed.{store_held, store_rests}
use Rattle.indexed_store.proofs.row_operations.RecordStoreRowStore.fresh.Goals as goal

pub returns-clause-free : goal.returns-clause-free
returns-clause-free g c =
    let store = c.args.self.now in
    let rows = store.rows in
    let new = c.fresh.new.self in
    let s = g.S.Slots.state rows.chains.slots in
    let t = g.S.Slots.state new.chains.slots in
    let e = c.fresh.ensures in
    let err = e.err (reserved_at rows.schema (keepers_of store.indexes.items)) store.sequences.items in
    free_found rows.schema store.indexes.items store.sequences.items s rows.opens.items c.fresh.result e.free

pub returns-clause-same : goal.returns-clause-same
returns-clause-same g c =
    let store = c.args.self.now in
    let rows = store.rows in
    let new = c.fresh.new.self in
    let s = g.S.Slots.state rows.chains.slots in
    let t = g.S.Slots.state new.chains.slots in
    let e = c.fresh.ensures in
    let err = e.err (reserved_at rows.schema (keepers_of store.indexes.items)) store.sequences.items in
    asked_same rows.schema new.schema store.indexes.items store.sequences.items s t rows.opens.items new.opens.items e.schema {T = RowId} c.fresh.result e.same

pub returns-clause-err : goal.returns-clause-err
returns-clause-err g c =
    let store = c.args.self.now in
    let rows = store.rows in
    let new = c.fresh.new.self in
    let s = g.S.Slots.state rows.chains.slots in
    let t = g.S.Slots.state new.chains.slots in
    let e = c.fresh.ensures in
    let err = e.err (reserved_at rows.schema (keepers_of store.indexes.items)) store.sequences.items in
    asked_err rows.schema new.schema store.indexes.items store.sequences.items s t rows.opens.items new.opens.items e.schema {T = RowId} c.fresh.result err

pub returns-clause-cause : goal.returns-clause-cause
returns-clause-cause g c =
    let store = c.args.self.now in
    let rows = store.rows in
    let new = c.fresh.new.self in
    let s = g.S.Slots.state rows.chains.slots in
    let t = g.S.Slots.state new.chains.slots in
    let e = c.fresh.ensures in
    let err = e.err (reserved_at rows.schema (keepers_of store.indexes.items)) store.sequences.items in
    e.cause (reserved_at rows.schema (keepers_of store.indexes.items)) store.sequences.items

pub returns-clause-time : goal.returns-clause-time
returns-clause-time g c =
    let store = c.args.self.now in
    let rows = store.rows in
    let new = c.fresh.new.self in
    let s = g.S.Slots.state rows.chains.slots in
    let t = g.S.Slots.state new.chains.slots in
    let e = c.fresh.ensures in
    let err = e.err (reserved_at rows.schema (keepers_of store.indexes.items)) store.sequences.items in
    store_rests rows.schema new.schema store.indexes.items store.sequences.items s t rows.opens.items (g.S.Slots.stop rows.chains.slots) (g.S.Slots.stop new.chains.slots) e.schema store.values store.held e.keeps e.time (g.met.S.Slots.stop_known new.chains.slots)

pub invariant_of-self-clause-values : goal.invariant_of-self-clause-values
invariant_of-self-clause-values g c =
    let store = c.args.self.now in
    let rows = store.rows in
    let new = c.fresh.new.self in
    let s = g.S.Slots.state rows.chains.slots in
    let t = g.S.Slots.state new.chains.slots in
    let e = c.fresh.ensures in
    let err = e.err (reserved_at rows.schema (keepers_of store.indexes.items)) store.sequences.items in
    asked_values rows.schema new.schema store.indexes.items store.sequences.items s t rows.opens.items new.opens.items e.schema store.values

pub invariant_of-self-clause-indexed : goal.invariant_of-self-clause-indexed
invariant_of-self-clause-indexed g c =
    let store = c.args.self.now in
    let rows = store.rows in
    let new = c.fresh.new.self in
    let s = g.S.Slots.state rows.chains.slots in
    let t = g.S.Slots.state new.chains.slots in
    let e = c.fresh.ensures in
    let err = e.err (reserved_at rows.schema (keepers_of store.indexes.items)) store.sequences.items in
    asked_indexed rows.schema new.schema store.indexes.items store.sequences.items s t rows.opens.items new.opens.items e.schema {T = RowId} c.fresh.result (asked_same rows.schema new.schema store.indexes.items store.sequences.items s t rows.opens.items new.opens.items e.schema {T = RowId} c.fresh.result e.same) (asked_err rows.schema new.schema store.indexes.items store.sequences.items s t rows.opens.items new.opens.items e.schema {T = RowId} c.fresh.result err) (moved_in store.clients.items) store.indexed

pub invariant_of-self-clause-held : goal.invariant_of-self-clause-held
invariant_of-self-clause-held g c =
    let store = c.args.self.now in
    let rows = store.rows in
    let new = c.fresh.new.self in
    let s = g.S.Slots.state rows.chains.slots in
    let t = g.S.Slots.state new.chains.slots in
    let e = c.fresh.ensures in
    let err = e.err (reserved_at rows.schema (keepers_of store.indexes.items)) store.sequences.items in
    store_held s t store.sequences.items e.keeps store.held
