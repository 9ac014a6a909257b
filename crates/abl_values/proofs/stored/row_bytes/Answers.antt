use Rattle.std.proofs.Common.{get_or, sym, ◌∙◌, ap, subst, length, ◌<◌, List}
use Rattle.abl_values.specs.Rows.{IsShort}
use Rattle.abl_values.specs.Schema.{field_kinds}
use Rattle.abl_base.specs.declared.value.Value.{Value}
use Rattle.abl_values.proofs.Fields.{fitting_is_short}
use Rattle.abl_values.proofs.stored.row_bytes.Goals as goal

pub push_field-requires : goal.push_field-requires
push_field-requires c =
    let i = c.loop-value.value-index in
    let v = c.value-item.result in
    let same = ap (λ (xs : List Value). get_or xs i v) c.as_slice-value-items.ensures in
    let within : i < length c.args.row.now = subst (λ (xs : List Value). i < length xs) c.as_slice-value-items.ensures c.loop-value-test.true in
    subst IsShort (sym (c.value-item.is ∙ same)) (fitting_is_short (field_kinds c.args.fields.now) c.args.row.now i v c.requires within)
