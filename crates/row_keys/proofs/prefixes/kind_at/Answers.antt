use Rattle.std.proofs.Common.{sym, ap, ◌∙◌}
use Rattle.std.specs.Option.{option_copied}
use Rattle.row_keys.proofs.FieldKinds.{kind_at_none, kind_at_some}
use Rattle.row_keys.proofs.prefixes.kind_at.Goals as goal

pub returns-in-None : goal.returns-in-None
returns-in-None c = sym (kind_at_none c.args.fields.now c.args.field (sym c.field_at.ensures ∙ ap option_copied c.in-None.is))

pub returns-in-Some : goal.returns-in-Some
returns-in-Some c = sym (kind_at_some c.args.fields.now c.args.field c.in-Some.field.now (sym c.field_at.ensures ∙ ap option_copied c.in-Some.is))
