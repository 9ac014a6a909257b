use Rattle.std.proofs.Common.{ℕ, List, length, Option, Ok, Err, refl, sym, ap, ◌∙◌, subst}
use Rattle.abl_base.specs.declared.value.Value.{Value}
use Rattle.row_indexes.specs.Places.{keepers_of}
use Rattle.row_keys.specs.Reserved.{reserved_at}
use Rattle.row_moves.specs.Moved.{moved_in}
use Rattle.indexed_store.proofs.Calls.{asked_err, asked_indexed, asked_same, asked_values}
use Rattle.abl_values.specs.Schema.{SchemaData}
use Rattle.database_meaning.specs.Setting.{HasTable}
use Rattle.row_keys.specs.Numbers.{index_count}
use Rattle.indexed_store.specs.State.{store_state}
use Rattle.indexed_store.proofs.Asked.{holders_of, memory_err, on_any}
use Rattle.indexed_store.proofs.Calls.{other_cause, other_error}
use Rattle.indexed_store.proofs.Timed.{store_held, store_rests}
use Rattle.indexed_store.proofs.row_operations.RecordStoreRowStore.reserved_by.Goals as goal

pub reserved_against-requires-clause-table : goal.reserved_against-requires-clause-table
reserved_against-requires-clause-table g c = subst (λ (x : SchemaData). HasTable x c.args.table) (sym (c.schema.ensures ∙ c.in-Ok.ensures.schema)) c.requires.table

pub reserved_against-requires-clause-count : goal.reserved_against-requires-clause-count
reserved_against-requires-clause-count g c = ap length c.as_slice.ensures.value ∙ (c.args.self.now.indexed.count ∙ ap index_count (sym (c.schema.ensures ∙ c.in-Ok.ensures.schema)))

pub returns-in-Ok-clause-found : goal.returns-in-Ok-clause-found
returns-in-Ok-clause-found g c =
    let store = c.args.self.now in
    let rows = store.rows in
    let new = c.replaced.new.rows in
    let s = g.S.Slots.state rows.chains.slots in
    let t = g.S.Slots.state new.chains.slots in
    let e = c.replaced.ensures in
    let err = e.err (reserved_at rows.schema (keepers_of store.indexes.items)) store.sequences.items in
    holders_of (store_state rows.schema store.indexes.items store.sequences.items s rows.opens.items) store.indexes.items rows.schema c.schema.result.now c.as_slice.result.now (c.schema.ensures ∙ e.schema) c.as_slice.ensures.value refl (λ d. refl) c.args.client c.args.table c.in-Ok.old c.args.row c.args.values.now
    c.reserved_against.result (c.in-Ok.ensures.found (reserved_at rows.schema (keepers_of store.indexes.items)) store.sequences.items) c.reserved_against.ensures.found

pub returns-in-Ok-clause-same : goal.returns-in-Ok-clause-same
returns-in-Ok-clause-same g c =
    let store = c.args.self.now in
    let rows = store.rows in
    let new = c.replaced.new.rows in
    let s = g.S.Slots.state rows.chains.slots in
    let t = g.S.Slots.state new.chains.slots in
    let e = c.replaced.ensures in
    let err = e.err (reserved_at rows.schema (keepers_of store.indexes.items)) store.sequences.items in
    on_any c.reserved_against.result (asked_same rows.schema new.schema store.indexes.items store.sequences.items s t rows.opens.items new.opens.items e.schema {T = Option (List Value)} (Ok c.in-Ok.old) c.in-Ok.ensures.same)

pub returns-in-Ok-clause-err : goal.returns-in-Ok-clause-err
returns-in-Ok-clause-err g c =
    let store = c.args.self.now in
    let rows = store.rows in
    let new = c.replaced.new.rows in
    let s = g.S.Slots.state rows.chains.slots in
    let t = g.S.Slots.state new.chains.slots in
    let e = c.replaced.ensures in
    let err = e.err (reserved_at rows.schema (keepers_of store.indexes.items)) store.sequences.items in
    memory_err (store_state rows.schema store.indexes.items store.sequences.items s rows.opens.items) (store_state new.schema store.indexes.items store.sequences.items t new.opens.items) c.reserved_against.result (asked_same rows.schema new.schema store.indexes.items store.sequences.items s t rows.opens.items new.opens.items e.schema {T = Option (List Value)} (Ok c.in-Ok.old) c.in-Ok.ensures.same) c.reserved_against.ensures.only

pub returns-in-Ok-clause-cause : goal.returns-in-Ok-clause-cause
returns-in-Ok-clause-cause g c =
    let store = c.args.self.now in
    let rows = store.rows in
    let new = c.replaced.new.rows in
    let s = g.S.Slots.state rows.chains.slots in
    let t = g.S.Slots.state new.chains.slots in
    let e = c.replaced.ensures in
    let err = e.err (reserved_at rows.schema (keepers_of store.indexes.items)) store.sequences.items in
    record { later = (e.cause (reserved_at rows.schema (keepers_of store.indexes.items)) store.sequences.items).later; disk = λ q. absurd (c.reserved_against.ensures.only q) }

pub returns-in-Ok-clause-time : goal.returns-in-Ok-clause-time
returns-in-Ok-clause-time g c =
    let store = c.args.self.now in
    let rows = store.rows in
    let new = c.replaced.new.rows in
    let s = g.S.Slots.state rows.chains.slots in
    let t = g.S.Slots.state new.chains.slots in
    let e = c.replaced.ensures in
    let err = e.err (reserved_at rows.schema (keepers_of store.indexes.items)) store.sequences.items in
    store_rests rows.schema new.schema store.indexes.items store.sequences.items s t rows.opens.items (g.S.Slots.stop rows.chains.slots) (g.S.Slots.stop new.chains.slots) e.schema store.values store.held e.keeps e.time (g.met.S.Slots.stop_known new.chains.slots)

pub returns-in-Err-clause-err : goal.returns-in-Err-clause-err
returns-in-Err-clause-err g c =
    let store = c.args.self.now in
    let rows = store.rows in
    let new = c.replaced.new.rows in
    let s = g.S.Slots.state rows.chains.slots in
    let t = g.S.Slots.state new.chains.slots in
    let e = c.replaced.ensures in
    let err = e.err (reserved_at rows.schema (keepers_of store.indexes.items)) store.sequences.items in
    asked_err rows.schema new.schema store.indexes.items store.sequences.items s t rows.opens.items new.opens.items e.schema {T = List ℕ} (Err c.in-Err.error) (other_error {T = Option (List Value)} {U = List ℕ} (store_state rows.schema store.indexes.items store.sequences.items s rows.opens.items) (store_state rows.schema store.indexes.items store.sequences.items t new.opens.items) c.in-Err.error (c.in-Err.ensures.err (reserved_at rows.schema (keepers_of store.indexes.items)) store.sequences.items))

pub returns-in-Err-clause-cause : goal.returns-in-Err-clause-cause
returns-in-Err-clause-cause g c =
    let store = c.args.self.now in
    let rows = store.rows in
    let new = c.replaced.new.rows in
    let s = g.S.Slots.state rows.chains.slots in
    let t = g.S.Slots.state new.chains.slots in
    let e = c.replaced.ensures in
    let err = e.err (reserved_at rows.schema (keepers_of store.indexes.items)) store.sequences.items in
    other_cause {T = Option (List Value)} {U = List ℕ} s.faults t.faults (store_state rows.schema store.indexes.items store.sequences.items s rows.opens.items) c.in-Err.error (c.in-Err.ensures.cause (reserved_at rows.schema (keepers_of store.indexes.items)) store.sequences.items)

pub returns-in-Err-clause-time : goal.returns-in-Err-clause-time
returns-in-Err-clause-time g c =
    let store = c.args.self.now in
    let rows = store.rows in
    let new = c.replaced.new.rows in
    let s = g.S.Slots.state rows.chains.slots in
    let t = g.S.Slots.state new.chains.slots in
    let e = c.replaced.ensures in
    let err = e.err (reserved_at rows.schema (keepers_of store.indexes.items)) store.sequences.items in
    store_rests rows.schema new.schema store.indexes.items store.sequences.items s t rows.opens.items (g.S.Slots.stop rows.chains.slots) (g.S.Slots.stop new.chains.slots) e.schema store.values store.held e.keeps e.time (g.met.S.Slots.stop_known new.chains.slots)

pub invariant_of-self-clause-values : goal.invariant_of-self-clause-values
invariant_of-self-clause-values g c =
    let store = c.args.self.now in
    let rows = store.rows in
    let new = c.replaced.new.rows in
    let s = g.S.Slots.state rows.chains.slots in
    let t = g.S.Slots.state new.chains.slots in
    let e = c.replaced.ensures in
    let err = e.err (reserved_at rows.schema (keepers_of store.indexes.items)) store.sequences.items in
    asked_values rows.schema new.schema store.indexes.items store.sequences.items s t rows.opens.items new.opens.items e.schema store.values

pub invariant_of-self-clause-indexed : goal.invariant_of-self-clause-indexed
invariant_of-self-clause-indexed g c =
    let store = c.args.self.now in
    let rows = store.rows in
    let new = c.replaced.new.rows in
    let s = g.S.Slots.state rows.chains.slots in
    let t = g.S.Slots.state new.chains.slots in
    let e = c.replaced.ensures in
    let err = e.err (reserved_at rows.schema (keepers_of store.indexes.items)) store.sequences.items in
    asked_indexed rows.schema new.schema store.indexes.items store.sequences.items s t rows.opens.items new.opens.items e.schema {T = Option (List Value)} c.replaced.result (asked_same rows.schema new.schema store.indexes.items store.sequences.items s t rows.opens.items new.opens.items e.schema {T = Option (List Value)} c.replaced.result e.same) (asked_err rows.schema new.schema store.indexes.items store.sequences.items s t rows.opens.items new.opens.items e.schema {T = Option (List Value)} c.replaced.result err) (moved_in store.clients.items) store.indexed

pub invariant_of-self-clause-held : goal.invariant_of-self-clause-held
invariant_of-self-clause-held g c =
    let store = c.args.self.now in
    let rows = store.rows in
    let new = c.replaced.new.rows in
    let s = g.S.Slots.state rows.chains.slots in
    let t = g.S.Slots.state new.chains.slots in
    let e = c.replaced.ensures in
    let err = e.err (reserved_at rows.schema (keepers_of store.indexes.items)) store.sequences.items in
    store_held s t store.sequences.items e.keeps store.held
