use Rattle.std.proofs.Common.{◌≤◌, ap, arith, length, subst, sym}
use Rattle.abl_base.specs.declared.limits.TheConstants.{MAX_FIELDS}
use Rattle.abl_values.specs.declared.schema.TableDef.{TableDef}
use Rattle.stored_schema.proofs.laying.laid.Goals as goal

pub laid_fields-requires : goal.laid_fields-requires
laid_fields-requires c =
    let few : length c.table-item.result.fields ≤ MAX_FIELDS = subst (λ (t : TableDef). length t.fields ≤ MAX_FIELDS) (sym c.table-item.is) (c.requires c.loop-table.table-index c.table-item.result c.loop-table-test.true) in
    omega (arith, few, ap length c.as_slice.ensures)
