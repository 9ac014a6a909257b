use Rattle.std.proofs.Common.{ℕ, MatchOption, sym, subst}
use Rattle.abl_values.specs.Schema.{SchemaData}
use Rattle.database_meaning.specs.Setting.{HasTable}
use Rattle.row_store.specs.Questions.{IsLongKey}
use Rattle.indexed_store.proofs.row_operations.RecordStoreRowStore.long_key.Goals as goal

pub long_key-requires : goal.long_key-requires
long_key-requires g c = record { table = subst (λ (x : SchemaData). HasTable x c.args.table) (sym c.schema.ensures) c.requires.table }

pub returns-in-Ok : goal.returns-in-Ok
returns-in-Ok g c = record {
  found =
      subst (λ (x : SchemaData). MatchOption c.in-Ok.index ((index : ℕ) → ¬ IsLongKey x c.args.table c.args.values.now index) (λ index. IsLongKey x c.args.table c.args.values.now index)) c.schema.ensures c.in-Ok.ensures;
}
