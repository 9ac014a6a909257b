use Rattle.std.proofs.Common.{length, refl, sym, ap, ◌∙◌, subst, le_refl}
use Rattle.row_moves.specs.Moved.{moved_in}
use Rattle.abl_values.specs.Schema.{SchemaData}
use Rattle.database_meaning.specs.Setting.{FitsTable, HasTable}
use Rattle.database_meaning.specs.Waiting.{row_in}
use Rattle.row_keys.specs.Numbers.{index_count}
use Rattle.indexed_store.specs.State.{store_state}
use Rattle.indexed_store.proofs.Asked.{duplicate_of, memory_err, on_any}
use Rattle.indexed_store.proofs.Timed.{store_waits}
use Rattle.indexed_store.proofs.row_operations.RecordStoreRowStore.duplicate.Goals as goal

pub least_duplicate-requires-clause-table : goal.least_duplicate-requires-clause-table
least_duplicate-requires-clause-table g c = subst (λ (x : SchemaData). HasTable x c.args.table) (sym c.schema.ensures) c.requires.table

pub least_duplicate-requires-clause-fits : goal.least_duplicate-requires-clause-fits
least_duplicate-requires-clause-fits g c = subst (λ (x : SchemaData). FitsTable x c.args.table c.args.values.now) (sym c.schema.ensures) c.requires.fits

pub least_duplicate-requires-clause-count : goal.least_duplicate-requires-clause-count
least_duplicate-requires-clause-count g c = ap length c.as_slice.ensures.value ∙ (c.args.self.now.indexed.count ∙ ap index_count (sym c.schema.ensures))

pub returns-clause-found : goal.returns-clause-found
returns-clause-found g c =
    let store = c.args.self.now in
    let rows = store.rows in
    let s = g.S.Slots.state rows.chains.slots in
    duplicate_of (store_state rows.schema store.indexes.items store.sequences.items s rows.opens.items) (moved_in store.clients.items) store.indexes.items store.indexed c.schema.result.now c.as_slice.result.now c.schema.ensures c.as_slice.ensures.value c.args.row (row_in c.args.table c.args.values.now)
    c.least_duplicate.result c.least_duplicate.ensures.found

pub returns-clause-same : goal.returns-clause-same
returns-clause-same g c = on_any c.least_duplicate.result refl

pub returns-clause-err : goal.returns-clause-err
returns-clause-err g c =
    let store = c.args.self.now in
    let rows = store.rows in
    let s = g.S.Slots.state rows.chains.slots in
    memory_err (store_state rows.schema store.indexes.items store.sequences.items s rows.opens.items) (store_state rows.schema store.indexes.items store.sequences.items s rows.opens.items) c.least_duplicate.result refl c.least_duplicate.ensures.only

pub returns-clause-cause : goal.returns-clause-cause
returns-clause-cause g c =
    let store = c.args.self.now in
    let rows = store.rows in
    let s = g.S.Slots.state rows.chains.slots in
    record { later = le_refl s.faults; disk = λ q. absurd (c.least_duplicate.ensures.only q) }

pub returns-clause-time : goal.returns-clause-time
returns-clause-time g c =
    let store = c.args.self.now in
    let rows = store.rows in
    let s = g.S.Slots.state rows.chains.slots in
    store_waits rows.schema store.indexes.items store.sequences.items s rows.opens.items (g.S.Slots.stop rows.chains.slots) (g.met.S.Slots.stop_known rows.chains.slots)
