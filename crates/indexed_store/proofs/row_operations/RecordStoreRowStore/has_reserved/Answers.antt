use Rattle.std.proofs.Common.{◌↔◌, length, IsTrue, List, ap, sym, ◌∙◌, subst}
use Rattle.abl_values.specs.Schema.{SchemaData}
use Rattle.database_meaning.specs.declared.state.Key.{Key}
use Rattle.key_index.specs.Index.{Keys}
use Rattle.row_indexes.specs.Places.{keepers_of}
use Rattle.row_keys.specs.Numbers.{index_count}
use Rattle.row_keys.specs.Reserved.{reserved_at}
use Rattle.indexed_store.proofs.row_operations.RecordStoreRowStore.has_reserved.Goals as goal

pub has_reserved-requires : goal.has_reserved-requires
has_reserved-requires g c = record { count = ap length c.as_slice.ensures.value ∙ (c.args.self.now.indexed.count ∙ ap index_count (sym c.schema.ensures)) }

pub returns : goal.returns
returns g c =
    subst (λ (x : SchemaData). IsTrue c.has_reserved.result ↔ ((k : Key) × IsTrue (reserved_at x (keepers_of c.args.self.now.indexes.items) c.args.client k))) c.schema.ensures
    (subst (λ (l : List Keys). IsTrue c.has_reserved.result ↔ ((k : Key) × IsTrue (reserved_at c.schema.result.now (keepers_of l) c.args.client k))) c.as_slice.ensures.value c.has_reserved.ensures)
