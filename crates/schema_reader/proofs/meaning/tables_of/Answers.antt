use Rattle.std.proofs.Common.{◌≤◌, List, ℕ, length, map, sym, ap, subst, ◌∙◌, arith}
use Rattle.abl_values.specs.declared.schema.TableDef.{TableDef}
use Rattle.abl_base.specs.declared.limits.TheConstants.{MAX_NAME_BYTES}
use Rattle.abl_values.specs.Schema.{number_of_name}
use Rattle.schema_reader.proofs.KeptItems.{table_next}
use Rattle.schema_reader.proofs.meaning.tables_of.Goals as goal

pub add-requires-clause-short : goal.add-requires-clause-short
add-requires-clause-short c =
    subst (λ (t : TableDef). length t.name ≤ MAX_NAME_BYTES) (sym c.in_ok-table_def.ensures)
    (table_next c.args.items.now c.loop-item.item-index c.requires c.item-item.result (omega arith) c.item-item.is c.in-Table.name c.in-Table.is).0

pub add-requires-clause-free : goal.add-requires-clause-free
add-requires-clause-free c =
    let one = (table_next c.args.items.now c.loop-item.item-index c.requires c.item-item.result (omega arith) c.item-item.is c.in-Table.name c.in-Table.is).1 in
    ap (λ (n : List ℕ). number_of_name 0 (map (λ (t : TableDef). t.name) c.loop-item.tables) n) (ap (λ (t : TableDef). t.name) c.in_ok-table_def.ensures)
    ∙ ap (λ (ts : List TableDef). number_of_name 0 (map (λ t. t.name) ts) c.in-Table.name) c.loop-item.invariant ∙ one
