use Rattle.std.proofs.Common.{◌≡◌, ◌≤◌, List, ap, length, subst, sym, ◌∙◌}
use Rattle.std.specs.Prelude.{All}
use Rattle.abl_base.specs.declared.limits.TheConstants.{MAX_FIELDS}
use Rattle.abl_values.specs.declared.schema.TableDef.{TableDef}
use Rattle.stored_fields.specs.declared.field.StoredField.{StoredField}
use Rattle.stored_schema.specs.Laid.{laid}
use Rattle.stored_schema.specs.Stored.{IsOwn, Stored}
use Rattle.stored_schema.specs.Text.{stored_text}
use Rattle.stored_schema.proofs.LaidOut.{laid-own, laid-text}
use Rattle.stored_schema.proofs.laying.laid_out.Goals as goal

pub laid-requires : goal.laid-requires
laid-requires c = subst (All (λ (t : TableDef). length t.fields ≤ MAX_FIELDS)) (sym c.table_defs.ensures) c.requires.sound.limits.1

pub of-requires : goal.of-requires
of-requires c =
    let same : c.in_ok-fields.fields ≡ laid c.args.schema.tables = c.in_ok-fields.ensures ∙ ap laid c.table_defs.ensures in
    subst (λ (fs : List (List StoredField)). IsOwn (record { schema = c.args.schema; fields = fs; text = stored_text c.args.schema fs })) (sym same) (laid-own c.args.schema c.requires.sound c.requires.held)

pub returns-clause-fields : goal.returns-clause-fields
returns-clause-fields c = ap (λ (s : Stored). s.fields) c.in_ok-stored.ensures ∙ c.in_ok-fields.ensures ∙ ap laid c.table_defs.ensures

pub returns-clause-text : goal.returns-clause-text
returns-clause-text c =
    let same : c.in_ok-fields.fields ≡ laid c.args.schema.tables = c.in_ok-fields.ensures ∙ ap laid c.table_defs.ensures in
    ap (λ (s : Stored). s.text) c.in_ok-stored.ensures ∙ ap (stored_text c.args.schema) same ∙ laid-text c.args.schema

pub returns-clause-own : goal.returns-clause-own
returns-clause-own c =
    let same : c.in_ok-fields.fields ≡ laid c.args.schema.tables = c.in_ok-fields.ensures ∙ ap laid c.table_defs.ensures in
    subst IsOwn (sym c.in_ok-stored.ensures) (subst (λ (fs : List (List StoredField)). IsOwn (record { schema = c.args.schema; fields = fs; text = stored_text c.args.schema fs })) (sym same) (laid-own c.args.schema c.requires.sound c.requires.held))
