use Rattle.row_indexes.specs.Places.{keepers_of}
use Rattle.row_keys.specs.Reserved.{reserved_at}
use Rattle.indexed_store.proofs.row_operations.RecordStoreRowStore.used.Goals as goal

pub returns : goal.returns
returns g c = λ readable.
    let store = c.args.self.now in
    c.used.ensures (reserved_at store.rows.schema (keepers_of store.indexes.items)) store.sequences.items readable
