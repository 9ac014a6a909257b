use Rattle.row_indexes.specs.Places.{keepers_of}
use Rattle.row_keys.specs.Reserved.{reserved_at}
use Rattle.row_moves.specs.Moved.{moved_in}
use Rattle.indexed_store.proofs.Calls.{asked_err, asked_values}
use Rattle.indexed_store.proofs.Calls.{on_ok}
use Rattle.indexed_store.proofs.Returns.{begin_ok, begin_store}
use Rattle.indexed_store.proofs.Timed.{store_held, store_rests}
use Rattle.indexed_store.proofs.row_operations.RecordStoreRowStore.begin.Goals as goal

pub returns-clause-ok : goal.returns-clause-ok
returns-clause-ok g c =
    let store = c.args.self.now in
    let rows = store.rows in
    let new = c.begin.new.self in
    let s = g.S.Slots.state rows.chains.slots in
    let t = g.S.Slots.state new.chains.slots in
    let e = c.begin.ensures in
    let err = e.err (reserved_at rows.schema (keepers_of store.indexes.items)) store.sequences.items in
    on_ok c.begin.result (begin_ok rows.schema new.schema store.indexes.items store.sequences.items s t rows.opens.items new.opens.items (moved_in store.clients.items) c.args.client e.schema store.indexed rows.stored c.requires.idle) e.ok

pub returns-clause-err : goal.returns-clause-err
returns-clause-err g c =
    let store = c.args.self.now in
    let rows = store.rows in
    let new = c.begin.new.self in
    let s = g.S.Slots.state rows.chains.slots in
    let t = g.S.Slots.state new.chains.slots in
    let e = c.begin.ensures in
    let err = e.err (reserved_at rows.schema (keepers_of store.indexes.items)) store.sequences.items in
    asked_err rows.schema new.schema store.indexes.items store.sequences.items s t rows.opens.items new.opens.items e.schema {T = Unit {0}} c.begin.result err

pub returns-clause-cause : goal.returns-clause-cause
returns-clause-cause g c =
    let store = c.args.self.now in
    let rows = store.rows in
    let new = c.begin.new.self in
    let s = g.S.Slots.state rows.chains.slots in
    let t = g.S.Slots.state new.chains.slots in
    let e = c.begin.ensures in
    let err = e.err (reserved_at rows.schema (keepers_of store.indexes.items)) store.sequences.items in
    e.cause (reserved_at rows.schema (keepers_of store.indexes.items)) store.sequences.items

pub returns-clause-time : goal.returns-clause-time
returns-clause-time g c =
    let store = c.args.self.now in
    let rows = store.rows in
    let new = c.begin.new.self in
    let s = g.S.Slots.state rows.chains.slots in
    let t = g.S.Slots.state new.chains.slots in
    let e = c.begin.ensures in
    let err = e.err (reserved_at rows.schema (keepers_of store.indexes.items)) store.sequences.items in
    store_rests rows.schema new.schema store.indexes.items store.sequences.items s t rows.opens.items (g.S.Slots.stop rows.chains.slots) (g.S.Slots.stop new.chains.slots) e.schema store.values store.held e.keeps e.time (g.met.S.Slots.stop_known new.chains.slots)

pub invariant_of-self-clause-values : goal.invariant_of-self-clause-values
invariant_of-self-clause-values g c =
    let store = c.args.self.now in
    let rows = store.rows in
    let new = c.begin.new.self in
    let s = g.S.Slots.state rows.chains.slots in
    let t = g.S.Slots.state new.chains.slots in
    let e = c.begin.ensures in
    let err = e.err (reserved_at rows.schema (keepers_of store.indexes.items)) store.sequences.items in
    asked_values rows.schema new.schema store.indexes.items store.sequences.items s t rows.opens.items new.opens.items e.schema store.values

pub invariant_of-self-clause-indexed : goal.invariant_of-self-clause-indexed
invariant_of-self-clause-indexed g c =
    let store = c.args.self.now in
    let rows = store.rows in
    let new = c.begin.new.self in
    let s = g.S.Slots.state rows.chains.slots in
    let t = g.S.Slots.state new.chains.slots in
    let e = c.begin.ensures in
    let err = e.err (reserved_at rows.schema (keepers_of store.indexes.items)) store.sequences.items in
    begin_store rows.schema new.schema store.indexes.items store.sequences.items s t rows.opens.items new.opens.items (moved_in store.clients.items) c.args.client e.schema store.indexed rows.stored c.requires.idle c.begin.result e.ok e.err

pub invariant_of-self-clause-held : goal.invariant_of-self-clause-held
invariant_of-self-clause-held g c =
    let store = c.args.self.now in
    let rows = store.rows in
    let new = c.begin.new.self in
    let s = g.S.Slots.state rows.chains.slots in
    let t = g.S.Slots.state new.chains.slots in
    let e = c.begin.ensures in
    let err = e.err (reserved_at rows.schema (keepers_of store.indexes.items)) store.sequences.items in
    store_held s t store.sequences.items e.keeps store.held
