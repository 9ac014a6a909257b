use Rattle.std.proofs.Common.{◌≡◌, List, Some, sym, ap, ◌∙◌, arith}
use Rattle.abl_values.specs.declared.schema.FieldDef.{FieldDef}
use Rattle.abl_values.specs.Rows.{row_in}
use Rattle.abl_values.specs.Schema.{field_kinds}
use Rattle.database_meaning.specs.Setting.{kinds_of}
use Rattle.slot_rows.proofs.Decodes.{counts, fits_table}
use Rattle.slot_rows.proofs.decode.decode.Goals as goal

pub invariant_of-result : goal.invariant_of-result
invariant_of-result c =
    let stored = c.args.bytes.now in
    let read : c.in_ok-values.field-0 ≡ Some c.in-Some.values = cc c.in-Some.is in
    let is : row_in (kinds_of c.args.schema.now c.args.table) stored ≡ Some c.in-Some.values = ap (λ (fs : List FieldDef). row_in (field_kinds fs) stored) (sym c.fields.ensures) ∙ (sym c.in_ok-values.ensures ∙ read) in
    record {
      few = c.fragments.ensures.few;
      counted = c.fragments.ensures.is ∙ counts c.args.schema.now c.args.table stored (λ k. omega (arith, c.type_inv.bytes k)) c.in-Some.values is;
    }

pub returns-in-Some-clause-fits : goal.returns-in-Some-clause-fits
returns-in-Some-clause-fits c =
    let stored = c.args.bytes.now in
    let read : c.in_ok-values.field-0 ≡ Some c.in-Some.values = cc c.in-Some.is in
    let is : row_in (kinds_of c.args.schema.now c.args.table) stored ≡ Some c.in-Some.values = ap (λ (fs : List FieldDef). row_in (field_kinds fs) stored) (sym c.fields.ensures) ∙ (sym c.in_ok-values.ensures ∙ read) in
    fits_table c.args.schema.now c.args.table stored (λ k. omega (arith, c.type_inv.bytes k)) c.in-Some.values is
