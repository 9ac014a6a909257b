use Rattle.std.proofs.Common.{◌≤◌, List, length, sym, subst}
use Rattle.abl_values.specs.declared.schema.FieldDef.{FieldDef}
use Rattle.schema_reader.proofs.KeptItems.{fields_few}
use Rattle.schema_reader.proofs.meaning.table_def.Goals as goal

pub indexes_of-requires-clause-few : goal.indexes_of-requires-clause-few
indexes_of-requires-clause-few c =
    subst (λ (fs : List FieldDef). length fs ≤ 256) (sym c.in_ok-fields.ensures) (fields_few c.args.items.now c.as_slice.result.now c.requires)
